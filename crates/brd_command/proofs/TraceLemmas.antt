-- A trace of what was read.
use Rattle.std.proofs.Common.{rules, ◌≡◌, ℕ, ◌≤◌, Bool, true, false, List, [], ◌++◌, length, inl, refl, sym, ap, ◌∙◌, subst, arith}
use Rattle.std.specs.Bool.{MatchBool}
use Rattle.std.specs.Prelude.{Option, Some, None, is_some, IfOk, IfSome, Result, Ok, Err, MatchResult}
use Rattle.std.specs.Io.KnownBytes.{Appends}
use Rattle.brd_inputs.specs.Start.{AreWithin, IsStart}
use Rattle.brd_board.specs.declared.event.Event.{Event}
use Rattle.brd_board.specs.Board.{BoardState}
use Rattle.brd_printer.specs.declared.printer.{Manner.Manner, Printer.Printer}
use Rattle.brd_printer.specs.Telling.{IsFirstLine, IsTrace, held_text}
use Rattle.brd_printer.proofs.TraceLemmas.{trace_nothing, trace_on}
use Rattle.brd_timeline.specs.declared.timeline.Timeline.{Timeline}
use Rattle.brd_timeline.specs.Events.{json_text}
use Rattle.brd_recording.specs.Slices.{AreSlices}
use Rattle.brd_journal.specs.declared.playback.Playback.{Playback}
use Rattle.brd_journal.specs.Playing.{IsPlayed, board_at}
use Rattle.brd_inputs.specs.declared.fault.CommandFault.TheVariants as fault
use Rattle.brd_command.specs.declared.trace_command.Part.{Part}
use Rattle.brd_command.specs.declared.trace_options.TraceFormat.{TraceFormat}
use Rattle.brd_command.specs.declared.trace_options.TraceFormat.TheVariants.{Text, Json, Svg, Html}
use Rattle.brd_command.specs.TraceCommand.{EndsTracing, IsOfWriting, TraceEnds, WritesLines, WritesSummary, WritesTimeline, WritesText, WritesTold, WritesTrace, WritesWholeSummary}
use Rattle.brd_command.specs.TraceCommand.{IsPart, IsMannerOf, IsShown, WritesForm, first_of, end_of, head, words_asked}
use Rattle.brd_summary.specs.Summary.{IsEnd, IsSummary}
use Rattle.brd_report.specs.Output.{Writes}
use Rattle.brd_command.specs.TraceCommand.{EndsDrawing, IsKnown, TellsSpins, WritesAsked}
use Rattle.brd_trace.specs.Recorded.{IsNoted}
use Rattle.brd_trace.specs.declared.tracer.Tracer.{Tracer}
use Rattle.brd_page.specs.Page.{IsLastPage}
use Rattle.brd_page.specs.Picture.{IsPicture, IsUndrawn}
use Rattle.brd_command.specs.TraceCommand.{EndsRacing, KeepsFromTracing, WritesAllRaces, WritesAllStacks, WritesOther, WritesShown}
use Rattle.brd_command.specs.RacesCommand.{AreTooMany, WritesRaces}
use Rattle.brd_command.specs.StacksCommand.{WritesStacks}
use Rattle.brd_names.specs.declared.names.Names.{Names}
use Rattle.brd_inputs.specs.declared.trace_fault.TraceFault.{TraceFault}
use Rattle.brd_inputs.specs.declared.fault.CommandFault.{CommandFault}
use Rattle.brd_inputs.specs.declared.start.Start.{Start}
use Rattle.brd_command.specs.declared.trace_options.TraceOptions.{TraceOptions}
use Rattle.brd_report.proofs.OutputLemmas.{nothing_yet, one_more}
use Rattle.brd_mem.specs.declared.image.Symbol.{Symbol}
use Rattle.brd_inputs.specs.declared.trace_fault.TraceFault.{TraceFault}
use Rattle.brd_inputs.specs.declared.trace_fault.TraceFault.TheVariants as trace
use Rattle.brd_printer.specs.Words as words
use Rattle.brd_printer.specs.Words.{words_of}
use Rattle.brd_printer.specs.declared.words.WordsFault.{WordsFault}
use Rattle.brd_printer.specs.declared.words.WordsFault.TheVariants as no
use Rattle.brd_command.specs.TraceCommand.{IsOfWords, KeepsFromAsking, of_words}
use Rattle.brd_running.proofs.RaceLemmas.{keeps}

pub traced : (it : Start) (result : Result Unit CommandFault) (options : TraceOptions) (old new : Option (List ℕ)) (image config text : Option (List ℕ))
    → IfSome image (λ i. IfSome config (λ c. IfSome text (λ j. AreWithin i c j × IsStart i c j it)))
    → EndsTracing result options it old new
    → IfSome image (λ i. IfSome config (λ c. IfSome text (λ j. TraceEnds result options i c j old new)))
traced it result options old new None config text begins ends = tt
traced it result options old new (Some i) None text begins ends = tt
traced it result options old new (Some i) (Some c) None begins ends = tt
traced it result options old new (Some i) (Some c) (Some j) begins ends =
    inl (record { start = it; within = begins.0; is_start = begins.1; ends = ends })

-- What was written, piece by piece.

-- What was written of the events so far, and the bytes of those after them.

pub told-first : (manner : Manner) (boot : BoardState) (events : List Event) (at : ℕ) (p : Printer) (known : Option (List ℕ))
    → WritesTold manner boot events at at p p known known
told-first manner boot events at p known = record { text = []; is_told = trace_nothing manner boot events at p; written = nothing_yet known }

pub told-more : (manner : Manner) (boot : BoardState) (events : List Event) (from mid to : ℕ) (p q r : Printer) (old half new : Option (List ℕ))
    (bytes : List ℕ) → WritesTold manner boot events from mid p q old half → IsTrace manner boot events mid to q r bytes → Appends half new bytes
    → WritesTold manner boot events from to p r old new
told-more manner boot events from mid to p q r old half new bytes so_far is written = record {
  text = so_far.text ++ bytes;
  is_told = trace_on manner boot events from mid to p q r so_far.text bytes so_far.is_told is;
  written = one_more old half new so_far.text bytes so_far.written written;
}

-- The line before them, what is told of them, and the line of what was held back.

pub lines-of : (manner : Manner) (boot : BoardState) (events : List Event) (from to : ℕ) (p q : Printer) (old half most new : Option (List ℕ))
    (before held : List ℕ) → IsFirstLine manner.names.symbols.now from before → Appends old half before
    → WritesTold manner boot events from to p q half most → held ≡ held_text manner.names.symbols.now q.held → Appends most new held
    → WritesLines [] manner boot events from to p old new
lines-of manner boot events from to p q old half most new before held is_before first told is_held last = record {
  last = q;
  text = before ++ (told.text ++ held_text manner.names.symbols.now q.held);
  lines = record { before = before; told = told.text; is_before = is_before; is_told = told.is_told; is_text = refl };
  written = subst (λ (them : List ℕ). Appends old new (before ++ (told.text ++ them))) is_held
      (one_more old half new before (told.text ++ held) first (one_more half most new told.text held told.written last));
}

-- after bytes that are there
pub lines-behind : (front : List ℕ) (manner : Manner) (boot : BoardState) (events : List Event) (from to : ℕ) (p : Printer)
    (old half new : Option (List ℕ)) → Appends old half front → WritesLines [] manner boot events from to p half new
    → WritesLines front manner boot events from to p old new
lines-behind front manner boot events from to p old half new first lines = record {
  last = lines.last;
  text = lines.text;
  lines = lines.lines;
  written = one_more old half new front lines.text first lines.written;
}

-- How writing ended, by how its last part did.

pub last-of : {P Q : Type 0} (result : Result Unit CommandFault) → MatchResult result (λ _. P) IsOfWriting → (P → Q)
    → MatchResult result (λ _. Q) IsOfWriting
last-of (Ok done) is then = then is
last-of (Err fault) of then = of

-- what is so however it ended, and what follows from what is so where it ended well
pub in-any : {P : Type 0} (result : Result Unit CommandFault) → P → IfOk result (λ _. P)
in-any (Ok done) is = is
in-any (Err fault) is = tt

pub if-then : {P Q : Type 0} (result : Result Unit CommandFault) → IfOk result (λ _. P) → (P → Q) → IfOk result (λ _. Q)
if-then (Ok done) is then = then is
if-then (Err fault) is then = tt

of_writing : (fault : CommandFault) (options : TraceOptions) (start : Start) (old new : Option (List ℕ)) → IsOfWriting fault
    → EndsTracing (Err fault) options start old new
of_writing fault.NoMemory options start old new of = tt
of_writing fault.Argument options start old new of = absurd of
of_writing (fault.Words a) options start old new of = absurd of
of_writing (fault.Source a b c) options start old new of = absurd of
of_writing fault.ImageTooLarge options start old new of = absurd of
of_writing (fault.Open a b) options start old new of = absurd of
of_writing (fault.Read a b) options start old new of = absurd of
of_writing (fault.TooLong a) options start old new of = absurd of
of_writing (fault.TooManyReads a) options start old new of = absurd of
of_writing (fault.Build a b) options start old new of = absurd of
of_writing (fault.Journal a b) options start old new of = absurd of
of_writing (fault.OtherOrder a) options start old new of = absurd of
of_writing (fault.Script a b) options start old new of = absurd of
of_writing (fault.Race a) options start old new of = absurd of
of_writing (fault.Trace a) options start old new of = absurd of
of_writing (fault.Schedule a) options start old new of = absurd of
of_writing (fault.Search a) options start old new of = absurd of
of_writing fault.Fails options start old new of = absurd of
of_writing fault.Passes options start old new of = absurd of
of_writing (fault.Write a) options start old new of = tt

-- The part that the options ask for begins before it ends.
in-order : (options : TraceOptions) (len : ℕ) (part : Part) → IsPart options len part → first_of options ≤ end_of options len
in-order options len part is =
    subst (λ (n : ℕ). n ≤ end_of options len) is.from (subst (λ (n : ℕ). part.from ≤ n) is.to is.ordered)

-- What was asked for was written: not races; not stacks either; nor a summary, but this form.
module _ (start : Start) (options : TraceOptions) (old new : Option (List ℕ)) (races : options.races ≡ false) where
  other : WritesOther start options old new → WritesAsked start options old new
  other =
      subst (λ (b : Bool). MatchBool b (WritesAllRaces start options old new) (WritesOther start options old new)) (sym races)

  shown : options.stacks ≡ false → WritesShown start options old new → WritesAsked start options old new
  shown stacks it =
      other (subst (λ (b : Bool). MatchBool b (WritesAllStacks start options old new) (WritesShown start options old new)) (sym stacks) it)

  formed : options.stacks ≡ false → options.summary ≡ false → (format : TraceFormat) → options.format ≡ Some format →
      WritesForm (Some format) start options old new → WritesAsked start options old new
  formed stacks summary format is it =
      shown stacks (subst (λ (b : Bool). MatchBool b (WritesWholeSummary start options old new) (WritesForm options.format start options old new))
      (sym summary) (subst (λ (f : Option TraceFormat). WritesForm f start options old new) (sym is) it))

-- lines were written, and then who spins, where that is asked for
module _ (options : TraceOptions) (symbols : List Symbol) (manner : Manner) (boot : BoardState) (events : List Event) (from to : ℕ)
    (first : Printer) (old : Option (List ℕ)) where
  pub text-alone : (new : Option (List ℕ)) → is_some options.words ≡ true → WritesLines head manner boot events from to first old new →
      WritesText options symbols manner boot events from to first old new
  text-alone new touching lines = record {
    middle = new;
    lines = lines;
    spins = subst (λ (b : Bool). MatchBool b (new ≡ new) (Writes (TellsSpins symbols options.cpu boot events to) new new)) (sym touching) refl;
  }

  pub text-spun : (middle new : Option (List ℕ)) → is_some options.words ≡ false →
      WritesLines head manner boot events from to first old middle → Writes (TellsSpins symbols options.cpu boot events to) middle new →
      WritesText options symbols manner boot events from to first old new
  text-spun middle new touching lines spun = record {
    middle = middle;
    lines = lines;
    spins = subst (λ (b : Bool). MatchBool b (middle ≡ new) (Writes (TellsSpins symbols options.cpu boot events to) middle new)) (sym touching) spun;
  }

-- lines were written, which the options ask for
pub text-ends : (start : Start) (options : TraceOptions) (part : Part) (manner : Manner) (first : Printer) (old new : Option (List ℕ))
    (result : Result Unit CommandFault) → IsPart options (length start.journal.events) part → part.format ≡ Text → options.races ≡ false → options.stacks ≡ false → options.summary ≡ false
    → IsMannerOf start.image (words_asked options start) manner → IsShown options first
    → MatchResult result
    (λ _. WritesText options start.image.symbols manner start.board start.journal.events part.from part.to first old new) IsOfWriting
    → EndsTracing result options start old new
text-ends start options part manner first old new (Err fault) is text races stacks lines made shown_so of = of_writing fault options start old new of
text-ends start options part manner first old new (Ok done) is text races stacks lines made shown_so written =
    let symbols = start.image.symbols in
    let events = start.journal.events in
    let from_there = subst (λ (n : ℕ). WritesText options symbols manner start.board events n part.to first old new) is.from written in
    let both = subst (λ (n : ℕ). WritesText options symbols manner start.board events (first_of options) n first old new) is.to from_there in
    let trace : WritesTrace start options old new =
    record { manner = manner; first = first; is_manner = made; is_first = shown_so; text = both } in
    (in-order options (length events) part is, formed start options old new races stacks lines Text (is.format ∙ ap Some text) trace)

-- a timeline was written, which the options ask for

pub timeline-written : (boot : BoardState) (events : List Event) (from to : ℕ) (timeline : Timeline) (bytes : List ℕ) (old new : Option (List ℕ))
    (result : Result Unit CommandFault) → AreSlices boot events from to timeline → bytes ≡ json_text timeline →
    MatchResult result (λ _. Appends old new bytes) IsOfWriting →
    MatchResult result (λ _. WritesTimeline boot events from to old new) IsOfWriting
timeline-written boot events from to timeline bytes old new (Err fault) are is of = of
timeline-written boot events from to timeline bytes old new (Ok done) are is written = record {
  timeline = timeline;
  are_slices = are;
  written = subst (λ (them : List ℕ). Appends old new them) is written;
}

pub json-ends : (start : Start) (options : TraceOptions) (part : Part) (old new : Option (List ℕ)) (result : Result Unit CommandFault)
    → IsPart options (length start.journal.events) part → part.format ≡ Json → options.races ≡ false → options.stacks ≡ false → options.summary ≡ false
    → MatchResult result (λ _. WritesTimeline start.board start.journal.events part.from part.to old new) IsOfWriting
    → EndsTracing result options start old new
json-ends start options part old new (Err fault) is json races stacks lines of = of_writing fault options start old new of
json-ends start options part old new (Ok done) is json races stacks lines written =
    let len = length start.journal.events in
    let from_there = subst (λ (n : ℕ). WritesTimeline start.board start.journal.events n part.to old new) is.from written in
    let both = subst (λ (n : ℕ). WritesTimeline start.board start.journal.events (first_of options) n old new) is.to from_there in
    (in-order options len part is, formed start options old new races stacks lines Json (is.format ∙ ap Some json) both)

-- a picture was drawn, which the options ask for

pub drawing-ends : (boot : BoardState) (events : List Event) (from to : ℕ) (bytes : List ℕ) (old new : Option (List ℕ))
    (result : Result Unit CommandFault) → IsPicture boot events from to bytes → MatchResult result (λ _. Appends old new bytes) IsOfWriting →
    EndsDrawing result boot events from to old new
drawing-ends boot events from to bytes old new (Ok done) is written = record { bytes = bytes; are_meant = is; written = written }
drawing-ends boot events from to bytes old new (Err fault.NoMemory) is of = tt
drawing-ends boot events from to bytes old new (Err fault.Argument) is of = absurd of
drawing-ends boot events from to bytes old new (Err (fault.Words a)) is of = absurd of
drawing-ends boot events from to bytes old new (Err (fault.Source a b c)) is of = absurd of
drawing-ends boot events from to bytes old new (Err fault.ImageTooLarge) is of = absurd of
drawing-ends boot events from to bytes old new (Err (fault.Open a b)) is of = absurd of
drawing-ends boot events from to bytes old new (Err (fault.Read a b)) is of = absurd of
drawing-ends boot events from to bytes old new (Err (fault.TooLong a)) is of = absurd of
drawing-ends boot events from to bytes old new (Err (fault.TooManyReads a)) is of = absurd of
drawing-ends boot events from to bytes old new (Err (fault.Build a b)) is of = absurd of
drawing-ends boot events from to bytes old new (Err (fault.Journal a b)) is of = absurd of
drawing-ends boot events from to bytes old new (Err (fault.OtherOrder a)) is of = absurd of
drawing-ends boot events from to bytes old new (Err (fault.Script a b)) is of = absurd of
drawing-ends boot events from to bytes old new (Err (fault.Race a)) is of = absurd of
drawing-ends boot events from to bytes old new (Err (fault.Trace a)) is of = absurd of
drawing-ends boot events from to bytes old new (Err (fault.Schedule a)) is of = absurd of
drawing-ends boot events from to bytes old new (Err (fault.Search a)) is of = absurd of
drawing-ends boot events from to bytes old new (Err fault.Fails) is of = absurd of
drawing-ends boot events from to bytes old new (Err fault.Passes) is of = absurd of
drawing-ends boot events from to bytes old new (Err (fault.Write a)) is of = tt

of_drawing : (fault : CommandFault) (options : TraceOptions) (start : Start) (from to : ℕ) (old new : Option (List ℕ)) →
    options.format ≡ Some Svg → options.summary ≡ false → from ≡ first_of options → to ≡ end_of options (length start.journal.events) →
    EndsDrawing (Err fault) start.board start.journal.events from to old new → EndsTracing (Err fault) options start old new
of_drawing fault.NoMemory options start from to old new format lines first last of = tt
of_drawing fault.Argument options start from to old new format lines first last of = absurd of
of_drawing (fault.Words a) options start from to old new format lines first last of = absurd of
of_drawing (fault.Source a b c) options start from to old new format lines first last of = absurd of
of_drawing fault.ImageTooLarge options start from to old new format lines first last of = absurd of
of_drawing (fault.Open a b) options start from to old new format lines first last of = absurd of
of_drawing (fault.Read a b) options start from to old new format lines first last of = absurd of
of_drawing (fault.TooLong a) options start from to old new format lines first last of = absurd of
of_drawing (fault.TooManyReads a) options start from to old new format lines first last of = absurd of
of_drawing (fault.Build a b) options start from to old new format lines first last of = absurd of
of_drawing (fault.Journal a b) options start from to old new format lines first last of = absurd of
of_drawing (fault.OtherOrder a) options start from to old new format lines first last of = absurd of
of_drawing (fault.Script a b) options start from to old new format lines first last of = absurd of
of_drawing (fault.Race a) options start from to old new format lines first last of = absurd of
of_drawing (fault.Trace a) options start from to old new format lines first last of =
    let events = start.journal.events in
    let from_there : IsUndrawn start.board events (first_of options) to = subst (λ (n : ℕ). IsUndrawn start.board events n to) first of.1.0 in
    let undrawn = subst (λ (n : ℕ). IsUndrawn start.board events (first_of options) n) last from_there in
    (subst (λ (f : TraceFault). KeepsFromTracing options start f) (sym of.0) (format, lines, undrawn), of.1.1)
of_drawing (fault.Schedule a) options start from to old new format lines first last of = absurd of
of_drawing (fault.Search a) options start from to old new format lines first last of = absurd of
of_drawing fault.Fails options start from to old new format lines first last of = absurd of
of_drawing fault.Passes options start from to old new format lines first last of = absurd of
of_drawing (fault.Write a) options start from to old new format lines first last of = tt

pub svg-ends : (start : Start) (options : TraceOptions) (part : Part) (old new : Option (List ℕ)) (result : Result Unit CommandFault)
    → IsPart options (length start.journal.events) part → part.format ≡ Svg → options.races ≡ false → options.stacks ≡ false → options.summary ≡ false
    → EndsDrawing result start.board start.journal.events part.from part.to old new
    → EndsTracing result options start old new
svg-ends start options part old new (Err fault) is svg races stacks lines of =
    of_drawing fault options start part.from part.to old new (is.format ∙ ap Some svg) lines is.from is.to of
svg-ends start options part old new (Ok done) is svg races stacks lines written =
    let len = length start.journal.events in
    let from_there = subst (λ (n : ℕ). Writes (IsPicture start.board start.journal.events n part.to) old new) is.from written in
    let both = subst (λ (n : ℕ). Writes (IsPicture start.board start.journal.events (first_of options) n) old new) is.to from_there in
    (in-order options len part is, formed start options old new races stacks lines Svg (is.format ∙ ap Some svg) both)

-- a page was written, which the options ask for

pub page-written : (boot : BoardState) (events : List Event) (from to : ℕ) (bytes : List ℕ) (old new : Option (List ℕ))
    (result : Result Unit CommandFault) → IsLastPage boot events from to bytes → MatchResult result (λ _. Appends old new bytes) IsOfWriting →
    MatchResult result (λ _. Writes (IsLastPage boot events from to) old new) IsOfWriting
page-written boot events from to bytes old new (Ok done) is written = record { bytes = bytes; are_meant = is; written = written }
page-written boot events from to bytes old new (Err fault) is of = of

pub html-ends : (start : Start) (options : TraceOptions) (part : Part) (old new : Option (List ℕ)) (result : Result Unit CommandFault)
    → IsPart options (length start.journal.events) part → part.format ≡ Html → options.races ≡ false → options.stacks ≡ false → options.summary ≡ false
    → MatchResult result (λ _. Writes (IsLastPage start.board start.journal.events part.from part.to) old new) IsOfWriting
    → EndsTracing result options start old new
html-ends start options part old new (Err fault) is html races stacks lines of = of_writing fault options start old new of
html-ends start options part old new (Ok done) is html races stacks lines written =
    let events = start.journal.events in
    let from_there = subst (λ (n : ℕ). Writes (IsLastPage start.board events n part.to) old new) is.from written in
    let both = subst (λ (n : ℕ). Writes (IsLastPage start.board events (first_of options) n) old new) is.to from_there in
    (in-order options (length events) part is, formed start options old new races stacks lines Html (is.format ∙ ap Some html) both)

-- races were looked for, as the options ask

of_racing : (fault : CommandFault) (options : TraceOptions) (start : Start) (names : Names) (to : ℕ) (old new : Option (List ℕ)) → options.races ≡ true
    → to ≡ end_of options (length start.journal.events)
    → EndsRacing (Err fault) names start.config.queues start.board start.journal.events to old new → EndsTracing (Err fault) options start old new
of_racing fault.NoMemory options start names to old new races is of = tt
of_racing fault.Argument options start names to old new races is of = absurd of
of_racing (fault.Words a) options start names to old new races is of = absurd of
of_racing (fault.Source a b c) options start names to old new races is of = absurd of
of_racing fault.ImageTooLarge options start names to old new races is of = absurd of
of_racing (fault.Open a b) options start names to old new races is of = absurd of
of_racing (fault.Read a b) options start names to old new races is of = absurd of
of_racing (fault.TooLong a) options start names to old new races is of = absurd of
of_racing (fault.TooManyReads a) options start names to old new races is of = absurd of
of_racing (fault.Build a b) options start names to old new races is of = absurd of
of_racing (fault.Journal a b) options start names to old new races is of = absurd of
of_racing (fault.OtherOrder a) options start names to old new races is of = absurd of
of_racing (fault.Script a b) options start names to old new races is of = absurd of
of_racing (fault.Race a) options start names to old new races is of = absurd of
of_racing (fault.Trace a) options start names to old new races is of = (
  subst (λ (f : TraceFault). KeepsFromTracing options start f) (sym of.0)
      (races, subst (λ (n : ℕ). AreTooMany start.config.queues start.board start.journal.events n) is of.1.0),
  of.1.1,
)
of_racing (fault.Schedule a) options start names to old new races is of = absurd of
of_racing (fault.Search a) options start names to old new races is of = absurd of
of_racing fault.Fails options start names to old new races is of = absurd of
of_racing fault.Passes options start names to old new races is of = absurd of
of_racing (fault.Write a) options start names to old new races is of = tt

pub races-end : (start : Start) (options : TraceOptions) (part : Part) (names : Names) (old new : Option (List ℕ)) (result : Result Unit CommandFault) →
    IsPart options (length start.journal.events) part → options.races ≡ true → names.symbols.now ≡ start.image.symbols → names.segments.now ≡ start.image.segments →
    EndsRacing result names start.config.queues start.board start.journal.events part.to old new → EndsTracing result options start old new
races-end start options part names old new (Err fault) is races symbols segments ends = of_racing fault options start names part.to old new races is.to ends
races-end start options part names old new (Ok done) is races symbols segments ends =
    let all : WritesAllRaces start options old new = record {
      names = names;
      symbols = symbols;
      segments = segments;
      races = subst (λ (n : ℕ). WritesRaces names start.config.queues start.board start.journal.events n old new) is.to ends;
    } in
    (in-order options (length start.journal.events) part is, subst (λ (b : Bool). MatchBool b (WritesAllRaces start options old new) (WritesOther start options old new)) (sym races) all)

-- stacks were followed, as the options ask
pub stacks-end : (start : Start) (options : TraceOptions) (part : Part) (old new : Option (List ℕ)) (result : Result Unit CommandFault) →
    IsPart options (length start.journal.events) part → options.races ≡ false → options.stacks ≡ true →
    MatchResult result (λ _. WritesStacks start.image.symbols start.config start.board start.journal.events part.to old new) IsOfWriting →
    EndsTracing result options start old new
stacks-end start options part old new (Err fault) is races stacks of = of_writing fault options start old new of
stacks-end start options part old new (Ok done) is races stacks written =
    let all : WritesAllStacks start options old new =
    subst (λ (n : ℕ). WritesStacks start.image.symbols start.config start.board start.journal.events n old new) is.to written in (
      in-order options (length start.journal.events) part is,
      other start options old new races
          (subst (λ (b : Bool). MatchBool b (WritesAllStacks start options old new) (WritesShown start options old new)) (sym stacks) all),
    )

-- a summary was written, as the options ask
pub summary-ends : (start : Start) (options : TraceOptions) (part : Part) (names : Names) (old new : Option (List ℕ))
    (result : Result Unit CommandFault) → IsPart options (length start.journal.events) part → options.summary ≡ true → options.races ≡ false →
    options.stacks ≡ false → names.symbols.now ≡ start.image.symbols → names.segments.now ≡ start.image.segments →
    MatchResult result (λ _. WritesSummary names start.image.symbols start.board start.journal.events part.to old new) IsOfWriting →
    EndsTracing result options start old new
summary-ends start options part names old new (Err fault) is summary races stacks symbols segments of = of_writing fault options start old new of
summary-ends start options part names old new (Ok done) is summary races stacks symbols segments written =
    let whole : WritesWholeSummary start options old new = record {
      names = names;
      symbols = symbols;
      segments = segments;
      summary = subst (λ (n : ℕ). WritesSummary names start.image.symbols start.board start.journal.events n old new) is.to written;
    } in (
      in-order options (length start.journal.events) part is,
      shown start options old new races stacks
          (subst (λ (b : Bool). MatchBool b (WritesWholeSummary start options old new) (WritesForm options.format start options old new)) (sym summary) whole),
    )

-- a board to which nothing has happened has played no events
pub begins : (events : List Event) (p : Playback) → p.at ≡ 0 → IsPlayed p.board events p
begins events p start =
    let none : p.board ≡ board_at p.board events 0 = search rules in
    record { board = subst (λ (n : ℕ). p.board ≡ board_at p.board events n) (sym start) none; within = omega (arith, start) }

-- what a tracer knows of such a board is so
pub known : (board : BoardState) (events : List Event) (tracer : Tracer) → tracer.playback ≡ record { board = board; at = 0 } →
    IsNoted board events 0 tracer.notes → IsKnown tracer.playback.board events tracer
known board events tracer start noted = record {
  played = begins events tracer.playback (ap (λ (p : Playback). p.at) start);
  noted = subst (λ (n : ℕ). IsNoted tracer.playback.board events n tracer.notes) (sym (ap (λ (p : Playback). p.at) start))
      (subst (λ (b : BoardState). IsNoted b events 0 tracer.notes) (sym (ap (λ (p : Playback). p.board) start)) noted);
}

module _ (names : Names) (symbols : List Symbol) (boot : BoardState) (events : List Event) (n : ℕ) (old mid new : Option (List ℕ))
    (first rest last bytes : List ℕ) (is_first : IsEnd boot events n first) (is_rest : IsSummary names boot events n rest)
    (is_last : TellsSpins symbols None boot events n last) (are : bytes ≡ rest ++ last) (written : Appends old mid first) where
  pub summary-last : (result : Result Unit CommandFault) → MatchResult result (λ _. Appends mid new bytes) IsOfWriting →
      MatchResult result (λ _. WritesSummary names symbols boot events n old new) IsOfWriting
  summary-last (Ok done) more = record {
    first = first;
    rest = rest;
    last = last;
    is_first = is_first;
    is_rest = is_rest;
    is_last = is_last;
    written = subst (λ (them : List ℕ). Appends old new (first ++ them)) are (one_more old mid new first bytes written more);
  }
  summary-last (Err fault) of = of

-- ---- words

-- the fault of words is told as theirs
pub words_fault : (symbols : List Symbol) (board : BoardState) (text : List ℕ) (fault : WordsFault)
    → words.IsOfWords symbols board text fault → IsOfWords (words_of symbols board text) (of_words fault)
words_fault symbols board text no.NoMemory of = tt
words_fault symbols board text no.NoSymbol of = of
words_fault symbols board text no.NoWord of = of

-- Where the options give no trace, or name no words, nothing is written.

pub not_asked : (cause : TraceFault) (options : TraceOptions) (start : Start) (known : Option (List ℕ))
    → KeepsFromAsking options (length start.journal.events) cause → EndsTracing (Err (fault.Trace cause)) options start known known
not_asked trace.NoSuchFormat options start known is = (is, keeps known)
not_asked (trace.NoEvents from to all) options start known is = (is, keeps known)
not_asked trace.NoSymbol options start known is = absurd is
not_asked trace.NoWord options start known is = absurd is
not_asked trace.TooMuch options start known is = absurd is
not_asked trace.TooManyTouches options start known is = absurd is

pub not_chosen : (fault : CommandFault) (options : TraceOptions) (start : Start) (known : Option (List ℕ))
    → IsOfWords (words_asked options start) fault → EndsTracing (Err fault) options start known known
not_chosen fault.NoMemory options start known of = tt
not_chosen fault.Argument options start known of = absurd of
not_chosen (fault.Words a) options start known of = absurd of
not_chosen (fault.Source a b c) options start known of = absurd of
not_chosen fault.ImageTooLarge options start known of = absurd of
not_chosen (fault.Open a b) options start known of = absurd of
not_chosen (fault.Read a b) options start known of = absurd of
not_chosen (fault.TooLong a) options start known of = absurd of
not_chosen (fault.TooManyReads a) options start known of = absurd of
not_chosen (fault.Build a b) options start known of = absurd of
not_chosen (fault.Journal a b) options start known of = absurd of
not_chosen (fault.OtherOrder a) options start known of = absurd of
not_chosen (fault.Script a b) options start known of = absurd of
not_chosen (fault.Race a) options start known of = absurd of
not_chosen (fault.Trace (trace.NoEvents a b c)) options start known of = absurd of
not_chosen (fault.Trace trace.NoSuchFormat) options start known of = absurd of
not_chosen (fault.Trace trace.NoSymbol) options start known of = (of, keeps known)
not_chosen (fault.Trace trace.NoWord) options start known of = (of, keeps known)
not_chosen (fault.Trace trace.TooMuch) options start known of = absurd of
not_chosen (fault.Trace trace.TooManyTouches) options start known of = absurd of
not_chosen (fault.Schedule a) options start known of = absurd of
not_chosen (fault.Search a) options start known of = absurd of
not_chosen fault.Fails options start known of = absurd of
not_chosen fault.Passes options start known of = absurd of
not_chosen (fault.Write a) options start known of = absurd of
