-- A race is its journal's run, and both show the headline.
use Rattle.std.proofs.Common.{◌≡◌, ◌∙◌, ℕ, List, [], length, refl, sym, ap, subst}
use Rattle.std.specs.Prelude.{Option, Some, Result, Ok}
use Rattle.brd_board.specs.Board.{after}
use Rattle.brd_image.specs.Building.{loaded}
use Rattle.brd_journal.specs.Journal.{JournalState, most_runs}
use Rattle.brd_journal.specs.Reading.{journal_of}
use Rattle.brd_command.specs.Laws.{IsAssembled, ShowsHeadline}
use Rattle.brd_report.specs.Output.{Writes}
use Rattle.brd_running.specs.RaceCommand.{RaceEnds, ShowsRace}
use Rattle.brd_report.specs.Report.{report_of}
use Rattle.brd_running.specs.RunCommand.{RunEnds, ShowsRun}
use Rattle.brd_command.proofs.HeadlineLemmas.{of_run}
use Rattle.brd_command.proofs.LengthLemmas.{is_within}

pub replays : (quota : ℕ) (image config text journal report : List ℕ) → ShowsRace quota image config text journal report
    → ShowsRun image config journal report
replays quota image config text journal report shows =
    let station = shows.shown.station in
    let events = station.journal.events in
    let read : JournalState = record { limit = most_runs; order = station.journal.order; events = events } in
    let is_shown = shows.shown.is_shown in
    let raced = shows.shown.has_raced in
    let short = is_within journal station.journal.order events read is_shown.is_text is_shown.is_read refl raced.room in
    record {
      start = record { board = shows.start.board; image = shows.start.image; config = shows.start.config; journal = read };
      within = (shows.within.0, shows.within.1, short);
      is_start = record {
        loads = shows.is_start.loads;
        is_image = shows.is_start.is_image;
        is_configuration = shows.is_start.is_configuration;
        reads = is_shown.is_read;
        orders = raced.order;
      };
      shown = is_shown.is_reported ∙ ap (λ boot. report_of (length events) (after boot events)) raced.boot_is;
    }

same_ok : {A F : Type 0} (r : Result A F) (x y : A) → r ≡ Ok x → r ≡ Ok y → x ≡ y
same_ok r x y e f = cc

-- a run shows one report
one_report : (image config journal report other : List ℕ) → ShowsRun image config journal report
    → ShowsRun image config journal other → report ≡ other
one_report image config journal report other shows others =
    let board : shows.start.board ≡ others.start.board =
    same_ok (loaded image config) shows.start.board others.start.board shows.is_start.loads others.is_start.loads in
    let read : shows.start.journal ≡ others.start.journal =
    same_ok (journal_of most_runs journal) shows.start.journal others.start.journal shows.is_start.reads
    others.is_start.reads in
    shows.shown ∙ (λ i. report_of (length (read i).events) (after (board i) (read i).events)) ∙ sym others.shown

pub race_shows : (quota : ℕ) (source elf config script journal : List ℕ) (old new : Option (List ℕ))
    → IsAssembled source elf
    → RaceEnds (Ok tt) quota elf config script (Some []) (Some journal) old new
    → Writes (ShowsHeadline source elf config journal) old new
race_shows quota source elf config script journal old new assembled ends =
    let replayed : ShowsRun elf config journal ends.report =
    subst (λ (j : List ℕ). ShowsRun elf config j ends.report) (sym ends.journal_written)
    (replays quota elf config script ends.journal ends.report ends.shows) in
    record {
      bytes = ends.report;
      are_meant = of_run source elf config journal ends.report assembled replayed;
      written = ends.report_written;
    }

pub race_again : (quota : ℕ) (elf config script journal report printed : List ℕ)
    → RaceEnds (Ok tt) quota elf config script (Some []) (Some journal) (Some []) (Some report)
    → RunEnds (Ok tt) elf config journal (Some []) (Some printed) → printed ≡ report
race_again quota elf config script journal report printed raced ran =
    let replayed : ShowsRun elf config journal raced.report =
    subst (λ (j : List ℕ). ShowsRun elf config j raced.report) (sym raced.journal_written)
    (replays quota elf config script raced.journal raced.report raced.shows) in
    ran.written ∙ one_report elf config journal ran.bytes raced.report ran.are_meant replayed ∙ sym raced.report_written
