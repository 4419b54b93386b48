-- A race over what was read.
use Rattle.std.proofs.Common.{◌≡◌, ◌∙◌, inl, inr, ℕ, List, [], replicate, ap, refl, subst, sym}
use Rattle.std.proofs.lemmas.List.{append-nil}
use Rattle.std.specs.Prelude.{Option, Some, None, IfSome, Result, Ok, Err}
use Rattle.std.specs.Io.KnownBytes.{Appends, Keeps}
use Rattle.std.specs.declared.io.Error.{Error}
use Rattle.brd_journal.specs.Journal.{most_runs}
use Rattle.brd_threads.specs.Processors.{processors_of}
use Rattle.brd_threads.specs.Races as races
use Rattle.brd_threads.specs.Races.{HasRaced}
use Rattle.brd_threads.specs.Station.{StationState}
use Rattle.brd_threads.specs.declared.outer.Outer.{Outer}
use Rattle.brd_report.specs.Output.{AppendsFront}
use Rattle.brd_running.specs.RaceCommand.{HasEnded, IsShown, KeepsFromRacing, RaceEnds, ShowsStation, unkept}
use Rattle.brd_running.specs.RaceCommand.WritesRaceFront.{in_journal, in_report}
use Rattle.brd_inputs.specs.Start.{AreWithin, IsRaceStart}
use Rattle.brd_inputs.specs.declared.fault.CommandFault.{CommandFault}
use Rattle.brd_inputs.specs.declared.fault.CommandFault.TheVariants.{NoMemory, Argument, Words, Source, ImageTooLarge, Open, Read, TooLong, TooManyReads, Build, Journal, OtherOrder, Script, Race, Trace, Schedule, Search, Fails, Passes, Write}
use Rattle.brd_inputs.specs.declared.start.RaceStart.{RaceStart}

-- what isn't written on stays as it was
pub keeps : (known : Option (List ℕ)) → Keeps known known
keeps None = tt
keeps (Some bytes) = refl

module _ (quota : ℕ) (start : RaceStart) (out_old out old new : Option (List ℕ)) where
  -- what a race over three inputs has come to, where they begin it
  abbrev Begins : Option (List ℕ) → Option (List ℕ) → Option (List ℕ) → Type 0
  Begins image config text = IfSome image (λ i. IfSome config (λ c. IfSome text (λ t. AreWithin i c t × IsRaceStart i c t start)))

  abbrev Ends : Option (List ℕ) → Option (List ℕ) → Option (List ℕ) → Result Unit CommandFault → Type 0
  Ends image config text result = IfSome image (λ i. IfSome config (λ c. IfSome text (λ t. RaceEnds result quota i c t out_old out old new)))

  pub written : (journal report j r : List ℕ) → ShowsStation quota start journal report → j ≡ journal → r ≡ report
      → Appends out_old out j → Appends old new r
      → (image config text : Option (List ℕ)) → Begins image config text → Ends image config text (Ok tt)
  written journal report j r shown j-is r-is journal_written report_written None config text begins = tt
  written journal report j r shown j-is r-is journal_written report_written (Some i) None text begins = tt
  written journal report j r shown j-is r-is journal_written report_written (Some i) (Some c) None begins = tt
  written journal report j r shown j-is r-is journal_written report_written (Some i) (Some c) (Some t) begins = record {
    journal = journal;
    report = report;
    shows = record { start = start; within = begins.0; is_start = begins.1; shown = shown };
    journal_written = subst (λ (x : List ℕ). Appends out_old out x) j-is journal_written;
    report_written = subst (λ (x : List ℕ). Appends old new x) r-is report_written;
  }

  pub no_report : (journal report j r : List ℕ) (error : Error) → ShowsStation quota start journal report → j ≡ journal → r ≡ report
      → Appends out_old out j → AppendsFront old new r
      → (image config text : Option (List ℕ)) → Begins image config text → Ends image config text (Err (Write error))
  no_report journal report j r error shown j-is r-is journal_written front None config text begins = tt
  no_report journal report j r error shown j-is r-is journal_written front (Some i) None text begins = tt
  no_report journal report j r error shown j-is r-is journal_written front (Some i) (Some c) None begins = tt
  no_report journal report j r error shown j-is r-is journal_written front (Some i) (Some c) (Some t) begins =
      in_report journal report (record { start = start; within = begins.0; is_start = begins.1; shown = shown })
      (subst (λ (x : List ℕ). Appends out_old out x) j-is journal_written) (subst (λ (x : List ℕ). AppendsFront old new x) r-is front)

  pub no_journal : (journal report j : List ℕ) (error : Error) → ShowsStation quota start journal report → j ≡ journal
      → AppendsFront out_old out j → Keeps old new
      → (image config text : Option (List ℕ)) → Begins image config text → Ends image config text (Err (Write error))
  no_journal journal report j error shown j-is front same None config text begins = tt
  no_journal journal report j error shown j-is front same (Some i) None text begins = tt
  no_journal journal report j error shown j-is front same (Some i) (Some c) None begins = tt
  no_journal journal report j error shown j-is front same (Some i) (Some c) (Some t) begins =
      in_journal journal report (record { start = start; within = begins.0; is_start = begins.1; shown = shown })
      (subst (λ (x : List ℕ). AppendsFront out_old out x) j-is front) same

  of_fault : (i c t : List ℕ) (fault : CommandFault) → KeepsFromRacing quota start fault → Keeps out_old out → Keeps old new
      → AreWithin i c t × IsRaceStart i c t start → RaceEnds (Err fault) quota i c t out_old out old new
  of_fault i c t NoMemory keeps out_same same begins = (out_same, same)
  of_fault i c t Argument keeps out_same same begins = absurd keeps
  of_fault i c t (Words fault) keeps out_same same begins = absurd keeps
  of_fault i c t (Source fault excerpt kind) keeps out_same same begins = absurd keeps
  of_fault i c t ImageTooLarge keeps out_same same begins = absurd keeps
  of_fault i c t (Open name error) keeps out_same same begins = absurd keeps
  of_fault i c t (Read input error) keeps out_same same begins = absurd keeps
  of_fault i c t (TooLong input) keeps out_same same begins = absurd keeps
  of_fault i c t (TooManyReads input) keeps out_same same begins = absurd keeps
  of_fault i c t (Build fault kind) keeps out_same same begins = absurd keeps
  of_fault i c t (Journal fault kind) keeps out_same same begins = absurd keeps
  of_fault i c t (OtherOrder order) keeps out_same same begins = absurd keeps
  of_fault i c t (Script fault kind) keeps out_same same begins = absurd keeps
  of_fault i c t (Race fault) keeps out_same same begins =
      (record { start = start; within = begins.0; is_start = begins.1; is_own = keeps.0; has_ended = keeps.1 }, out_same, same)
  of_fault i c t (Trace fault) keeps out_same same begins = absurd keeps
  of_fault i c t (Schedule fault) keeps out_same same begins = absurd keeps
  of_fault i c t (Search fault) keeps out_same same begins = absurd keeps
  of_fault i c t Fails keeps out_same same begins = absurd keeps
  of_fault i c t Passes keeps out_same same begins = absurd keeps
  of_fault i c t (Write error) keeps out_same same begins = absurd keeps

  pub not_raced : (fault : CommandFault) → KeepsFromRacing quota start fault → Keeps out_old out → Keeps old new
      → (image config text : Option (List ℕ)) → Begins image config text → Ends image config text (Err fault)
  not_raced fault keeps out_same same None config text begins = tt
  not_raced fault keeps out_same same (Some i) None text begins = tt
  not_raced fault keeps out_same same (Some i) (Some c) None begins = tt
  not_raced fault keeps out_same same (Some i) (Some c) (Some t) begins = of_fault i c t fault keeps out_same same begins

shown_ended : (quota : ℕ) (start : RaceStart) (station : StationState)
    → races.RaceEnds start.board start.script.items (replicate (processors_of start.board) quota) most_runs (Ok station)
    → HasEnded quota start (Ok station)
shown_ended quota start station (inl is) = cc
shown_ended quota start station (inr ended) = ended

-- what is shown of the station that a race has left, whose script and quotas are those
pub shows_station : (quota n : ℕ) (start : RaceStart) (script : List Outer) (quotas items : List ℕ) (station : StationState) (journal report : List ℕ)
    → script ≡ start.script.items → quotas ≡ items → items ≡ replicate n quota → n ≡ processors_of start.board
    → HasRaced start.board script quotas most_runs station → races.RaceEnds start.board script quotas most_runs (Ok station)
    → IsShown station journal report → ShowsStation quota start journal report
shows_station quota n start script quotas items station journal report script-is quotas-is items-is n-is raced ends shown =
    let given : List ℕ = replicate (processors_of start.board) quota in
    let quotas-given : quotas ≡ given = quotas-is ∙ items-is ∙ ap (λ m. replicate m quota) n-is in
    let Raced : List Outer → List ℕ → Type 0 = λ s q. HasRaced start.board s q most_runs station in
    let Ended : List Outer → List ℕ → Type 0 = λ s q. races.RaceEnds start.board s q most_runs (Ok station) in
    let raced-given : Raced start.script.items given = subst (λ s. Raced s given) script-is (subst (λ q. Raced script q) quotas-given raced) in
    let ended-given : Ended start.script.items given = subst (λ s. Ended s given) script-is (subst (λ q. Ended script q) quotas-given ends) in
    record {
      station = station;
      has_raced = raced-given;
      has_ended = shown_ended quota start station ended-given;
      is_shown = shown;
    }

-- ---- a journal that couldn't be put where it belongs

pub whole : (old new : Option (List ℕ)) (bytes : List ℕ) → Appends old new bytes → AppendsFront old new bytes
whole old new bytes written = record { front = bytes; rest = []; whole = append-nil bytes; written = written }

module _ (quota : ℕ) (out_old out old new : Option (List ℕ)) where
  abbrev pub HasEndedSo : Result Unit CommandFault → Option (List ℕ) → Option (List ℕ) → Option (List ℕ) → Type 0
  HasEndedSo result image config text =
      IfSome image (λ i. IfSome config (λ c. IfSome text (λ t. RaceEnds result quota i c t out_old out old new)))

  not_kept : (error : Error) (result : Result Unit CommandFault) (image config text : Option (List ℕ))
      → HasEndedSo result image config text → HasEndedSo (unkept result error) image config text
  not_kept error result None config text ends = tt
  not_kept error result (Some i) None text ends = tt
  not_kept error result (Some i) (Some c) None ends = tt
  not_kept error (Ok done) (Some i) (Some c) (Some t) ends =
      in_report ends.journal ends.report ends.shows ends.journal_written (whole old new ends.report ends.report_written)
  not_kept error (Err fault) (Some i) (Some c) (Some t) ends = ends

  pub unkept_ends : (error : Error) (result answer : Result Unit CommandFault) → answer ≡ unkept result error
      → (image config text : Option (List ℕ)) → HasEndedSo result image config text → HasEndedSo answer image config text
  unkept_ends error result answer is image config text ends =
      subst (λ (r : Result Unit CommandFault). HasEndedSo r image config text) (sym is) (not_kept error result image config text ends)
