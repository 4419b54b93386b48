-- The command `trace`: from what it starts, what it writes then, and how it ends where it doesn't.
use Rattle.std.specs.Prelude.{◌≡◌, ◌≢◌, ◌⊎◌, ℕ, ◌<◌, ◌≤◌, min, true, false, List, length, ◌++◌, codes, Option, Some}
use Rattle.std.specs.Prelude.{None}
use Rattle.std.specs.Prelude.{[], is_some, option_map, unwrap_or, Result, Ok, Err}
use Rattle.std.specs.Bool.{MatchBool}
use Rattle.std.specs.Io.KnownBytes.{Appends, Keeps}
use Rattle.brd_mem.specs.declared.image.{Image.Image, Symbol.Symbol}
use Rattle.brd_config.specs.declared.objects.QueueConfig.{QueueConfig}
use Rattle.brd_board.specs.declared.event.Event.{Event}
use Rattle.brd_board.specs.Board.{BoardState}
use Rattle.brd_timeline.specs.declared.timeline.Timeline.{Timeline}
use Rattle.brd_timeline.specs.Ends.{EndsWith}
use Rattle.brd_timeline.specs.Events.{json_text}
use Rattle.brd_spins.specs.declared.spin.Spin.{Spin}
use Rattle.brd_spins.specs.Since.{AreSpins}
use Rattle.brd_spins.specs.Text.{spins_text}
use Rattle.brd_page.specs.Page.{IsLastPage}
use Rattle.brd_page.specs.Picture.{IsPicture, IsUndrawn}
use Rattle.brd_names.specs.declared.names.Names.{Names}
use Rattle.brd_printer.specs.declared.printer.{Manner.Manner, Printer.Printer}
use Rattle.brd_printer.specs.Telling.{IsFirstLine, IsTrace, held_text}
use Rattle.brd_printer.specs.Words.{words_of}
use Rattle.brd_trace.specs.declared.tracer.Tracer.{Tracer}
use Rattle.brd_recording.specs.Slices.{AreSlices}
use Rattle.brd_trace.specs.Recorded.{IsNoted}
use Rattle.brd_trace.specs.Dated.{IsDated}
use Rattle.brd_summary.specs.Summary.{IsEnd, IsSummary}
use Rattle.brd_journal.specs.Playing.{IsPlayed}
use Rattle.brd_printer.specs.declared.words.WordsFault.{WordsFault}
use Rattle.brd_printer.specs.declared.words.WordsFault.TheVariants as no
use Rattle.brd_report.specs.Output.{Writes}
use Rattle.brd_inputs.specs.Start.{AreWithin, IsStart, KeepsFromStarting}
use Rattle.brd_inputs.specs.declared.fault.CommandFault.{CommandFault}
use Rattle.brd_inputs.specs.declared.fault.CommandFault.TheVariants.{NoMemory, Trace, Write}
use Rattle.brd_inputs.specs.declared.input_name.InputName.TheVariants as input_name
use Rattle.brd_inputs.specs.declared.start.Start.{Start}
use Rattle.brd_command.specs.RacesCommand.{AreTooMany, WritesRaces}
use Rattle.brd_command.specs.StacksCommand.{WritesStacks}
use Rattle.brd_command.specs.declared.trace_command.Part.{Part}
use Rattle.brd_inputs.specs.declared.trace_fault.TraceFault.{TraceFault}
use Rattle.brd_inputs.specs.declared.trace_fault.TraceFault.TheVariants.{NoEvents, NoSuchFormat, NoSymbol, NoWord}
use Rattle.brd_inputs.specs.declared.trace_fault.TraceFault.TheVariants.{TooManyTouches, TooMuch}
use Rattle.brd_command.specs.declared.trace_options.TraceFormat.{TraceFormat}
use Rattle.brd_command.specs.declared.trace_options.TraceFormat.TheVariants.{Text, Json, Svg, Html, Lcov, Callgrind}
use Rattle.brd_command.specs.declared.trace_options.TraceOptions.{TraceOptions}

-- the positions that the options ask for in a journal with n events: of the first one, and the one after the last
abbrev pub first_of : TraceOptions → ℕ
first_of options = unwrap_or options.from 0

abbrev pub end_of : TraceOptions → ℕ → ℕ
end_of options len = min (unwrap_or options.to len) len

-- the part of a journal with n events that the options ask for
pub record IsPart (options : TraceOptions) (len : ℕ) (part : Part) : Type 0 where
  pub format : options.format ≡ Some part.format
  pub from : part.from ≡ first_of options
  pub to : part.to ≡ end_of options len
  pub ordered : part.from ≤ part.to
  pub within : part.to ≤ len

-- Why the options give no part of a journal with n events: they name no form, or their first event comes after
-- their last.
abbrev pub KeepsFromAsking : TraceOptions → ℕ → TraceFault → Type 0
KeepsFromAsking options len NoSuchFormat = options.format ≡ None
KeepsFromAsking options len (NoEvents from to all) =
    (from ≡ first_of options) × (to ≡ end_of options len) × (all ≡ len) × (to < from) × (options.format ≢ None)
KeepsFromAsking options len fault = ⊥

-- the words of which loads and stores are shown, of a board and the symbols of its image: none where no option names
-- some
abbrev pub words_named : List Symbol → BoardState → Option (List ℕ) → Result (List ℕ) WordsFault
words_named symbols board None = Ok []
words_named symbols board (Some text) = words_of symbols board text

abbrev pub words_asked : TraceOptions → Start → Result (List ℕ) WordsFault
words_asked options start =
    words_named start.image.symbols start.board (option_map (λ text. text.now) options.words)

-- the fault of a command whose words aren't there
abbrev pub of_words : WordsFault → CommandFault
of_words no.NoMemory = NoMemory
of_words no.NoSymbol = Trace NoSymbol
of_words no.NoWord = Trace NoWord

-- Why there is no trace: the options give no part of the journal, or name no words; or they ask for a picture, which
-- has too much to draw, or for races among too many touches.
abbrev pub KeepsFromTracing : TraceOptions → Start → TraceFault → Type 0
KeepsFromTracing options start NoSuchFormat = KeepsFromAsking options (length start.journal.events) NoSuchFormat
KeepsFromTracing options start (NoEvents from to all) =
    KeepsFromAsking options (length start.journal.events) (NoEvents from to all)
KeepsFromTracing options start NoSymbol = words_asked options start ≡ Err no.NoSymbol
KeepsFromTracing options start NoWord = words_asked options start ≡ Err no.NoWord
KeepsFromTracing options start TooMuch =
    (options.format ≡ Some Svg) × (options.summary ≡ false)
    × IsUndrawn start.board start.journal.events (first_of options) (end_of options (length start.journal.events))
KeepsFromTracing options start TooManyTouches =
    (options.races ≡ true)
    × AreTooMany start.config.queues start.board start.journal.events (end_of options (length start.journal.events))

-- it is that of these words, or lack of memory
abbrev pub IsOfWords : Result (List ℕ) WordsFault → CommandFault → Type 0
IsOfWords words NoMemory = Unit {0}
IsOfWords words (Trace NoSymbol) = words ≡ Err no.NoSymbol
IsOfWords words (Trace NoWord) = words ≡ Err no.NoWord
IsOfWords words fault = ⊥

-- What a tracer knows of the board that has played the first events of a journal is so, and what its timeline has up to
-- there;
pub record IsKnown (boot : BoardState) (events : List Event) (tracer : Tracer) : Type 0 where
  pub played : IsPlayed boot events tracer.playback
  pub noted : IsNoted boot events tracer.playback.at tracer.notes

-- and what it knows of the events before.
pub record IsFollowed (boot : BoardState) (events : List Event) (tracer : Tracer) : Type 0 where
  pub played : IsPlayed boot events tracer.playback
  pub noted : IsNoted boot events tracer.playback.at tracer.notes
  pub dated : IsDated boot events tracer.playback.at tracer.notes

-- A text is that of the processors that spin after the first n events: of the one that is asked for, or of all.
pub record TellsSpins (symbols : List Symbol) (asked : Option ℕ) (boot : BoardState) (events : List Event) (n : ℕ)
    (text : List ℕ) : Type 0 where
  pub spins : List Spin
  pub are_spins : AreSpins boot events n spins
  pub is_text : text ≡ spins_text symbols asked spins

-- A summary was written: how many events there were, the tick, and which event turned the board off; how its processors
-- and its tasks stand after them, since when, and each processor's last step that did something and last exception;
-- whether the board is deadlocked; and which processors spin.
pub record WritesSummary (names : Names) (symbols : List Symbol) (boot : BoardState) (events : List Event) (n : ℕ)
    (old new : Option (List ℕ)) : Type 0 where
  pub first : List ℕ
  pub rest : List ℕ
  pub last : List ℕ
  pub is_first : IsEnd boot events n first
  pub is_rest : IsSummary names boot events n rest
  pub is_last : TellsSpins symbols None boot events n last
  pub written : Appends old new (first ++ (rest ++ last))

-- the names of a trace's columns
abbrev pub head : List ℕ
head = codes "     event cpu who        where               what\n"

-- Lines that tell of the events of a journal from a position on up to another one: one that says in some words what is
-- there before them, what is told of them, each once and in their order, and the line of those that were held back
-- then.
pub record AreLines (manner : Manner) (boot : BoardState) (events : List Event) (from to : ℕ) (first last : Printer)
    (text : List ℕ) : Type 0 where
  pub before : List ℕ
  pub told : List ℕ
  pub is_before : IsFirstLine manner.names.symbols.now from before
  pub is_told : IsTrace manner boot events from to first last told
  pub is_text : text ≡ before ++ (told ++ held_text manner.names.symbols.now last.held)

-- such lines were written, after these bytes
pub record WritesLines (front : List ℕ) (manner : Manner) (boot : BoardState) (events : List Event) (from to : ℕ)
    (first : Printer) (old new : Option (List ℕ)) : Type 0 where
  pub last : Printer
  pub text : List ℕ
  pub lines : AreLines manner boot events from to first last text
  pub written : Appends old new (front ++ text)

-- Such lines were written, and then those of the processors that spin after the events; but none of these where only
-- loads and stores are shown.
pub record WritesText (options : TraceOptions) (symbols : List Symbol) (manner : Manner) (boot : BoardState)
    (events : List Event) (from to : ℕ) (first : Printer) (old new : Option (List ℕ)) : Type 0 where
  pub middle : Option (List ℕ)
  pub lines : WritesLines head manner boot events from to first old middle
  pub spins :
      MatchBool (is_some options.words) (middle ≡ new)
      (Writes (TellsSpins symbols options.cpu boot events to) middle new)

-- what is told of the events was written
pub record WritesTold (manner : Manner) (boot : BoardState) (events : List Event) (from to : ℕ) (first last : Printer)
    (old new : Option (List ℕ)) : Type 0 where
  pub text : List ℕ
  pub is_told : IsTrace manner boot events from to first last text
  pub written : Appends old new text

-- the names of an image, its byte order, and words that are shown
pub record IsMannerOf (image : Image) (asked : Result (List ℕ) WordsFault) (manner : Manner) : Type 0 where
  pub symbols : manner.names.symbols.now ≡ image.symbols
  pub segments : manner.names.segments.now ≡ image.segments
  pub order : manner.order ≡ image.order
  pub words : asked ≡ Ok manner.words.now

-- the lines that the options ask for are shown, and nothing is held back
pub record IsShown (options : TraceOptions) (first : Printer) : Type 0 where
  pub cpu : first.options.cpu ≡ options.cpu
  pub instructions : first.options.instructions ≡ options.instructions
  pub touching : first.options.touching ≡ is_some options.words
  pub shown : first.options.shown ≡ true
  pub held : first.held ≡ None

-- After the names of the columns come the lines of the part of the journal that the options ask for, on the board, and
-- those of the processors that spin at its end.
pub record WritesTrace (start : Start) (options : TraceOptions) (old new : Option (List ℕ)) : Type 0 where
  pub manner : Manner
  pub first : Printer
  pub is_manner : IsMannerOf start.image (words_asked options start) manner
  pub is_first : IsShown options first
  pub text : WritesText options start.image.symbols manner start.board start.journal.events (first_of options)
      (end_of options (length start.journal.events)) first old new

-- a timeline from one position to another was written as trace events in JSON, whose slices are of what goes on
pub record WritesTimeline (boot : BoardState) (events : List Event) (from to : ℕ) (old new : Option (List ℕ)) :
    Type 0 where
  pub timeline : Timeline
  pub are_slices : AreSlices boot events from to timeline
  pub written : Appends old new (json_text timeline)

-- What is written in each form. Pictures and pages are those of brd_page; a page may be of the last events alone. Of
-- counts it is said that their last line is whole.
abbrev pub WritesForm : Option TraceFormat → Start → TraceOptions → Option (List ℕ) → Option (List ℕ) → Type 0
WritesForm None start options old new = ⊥
WritesForm (Some Text) start options old new = WritesTrace start options old new
WritesForm (Some Json) start options old new =
    WritesTimeline start.board start.journal.events (first_of options) (end_of options (length start.journal.events))
    old new
WritesForm (Some Svg) start options old new =
    Writes
    (IsPicture start.board start.journal.events (first_of options) (end_of options (length start.journal.events)))
    old new
WritesForm (Some Html) start options old new =
    Writes
    (IsLastPage start.board start.journal.events (first_of options) (end_of options (length start.journal.events)))
    old new
WritesForm (Some Lcov) start options old new = Writes (EndsWith (codes "\n")) old new
WritesForm (Some Callgrind) start options old new = Writes (EndsWith (codes "\n")) old new

-- the races up to where the options end were written, by the names of the image
pub record WritesAllRaces (start : Start) (options : TraceOptions) (old new : Option (List ℕ)) : Type 0 where
  pub names : Names
  pub symbols : names.symbols.now ≡ start.image.symbols
  pub segments : names.segments.now ≡ start.image.segments
  pub races :
      WritesRaces names start.config.queues start.board start.journal.events
      (end_of options (length start.journal.events)) old new

-- a summary of the board after the events up to where the options end was written, by the names of the image
pub record WritesWholeSummary (start : Start) (options : TraceOptions) (old new : Option (List ℕ)) : Type 0 where
  pub names : Names
  pub symbols : names.symbols.now ≡ start.image.symbols
  pub segments : names.segments.now ≡ start.image.segments
  pub summary :
      WritesSummary names start.image.symbols start.board start.journal.events
      (end_of options (length start.journal.events)) old new

-- a summary is written, or the form that was asked for
abbrev pub WritesShown : Start → TraceOptions → Option (List ℕ) → Option (List ℕ) → Type 0
WritesShown start options old new =
    MatchBool options.summary (WritesWholeSummary start options old new)
    (WritesForm options.format start options old new)

-- the stacks up to where the options end, or the first store below one, were written, by the symbols of the image
abbrev pub WritesAllStacks : Start → TraceOptions → Option (List ℕ) → Option (List ℕ) → Type 0
WritesAllStacks start options old new =
    WritesStacks start.image.symbols start.config start.board start.journal.events
    (end_of options (length start.journal.events)) old new

-- the stacks are written, or what else was asked for
abbrev pub WritesOther : Start → TraceOptions → Option (List ℕ) → Option (List ℕ) → Type 0
WritesOther start options old new =
    MatchBool options.stacks (WritesAllStacks start options old new) (WritesShown start options old new)

-- the races are written, or what else was asked for
abbrev pub WritesAsked : Start → TraceOptions → Option (List ℕ) → Option (List ℕ) → Type 0
WritesAsked start options old new =
    MatchBool options.races (WritesAllRaces start options old new) (WritesOther start options old new)

-- what may keep a trace from being written that has begun: want of memory, or that writing fails
abbrev pub IsOfWriting : CommandFault → Type 0
IsOfWriting NoMemory = Unit {0}
IsOfWriting (Write error) = Unit {0}
IsOfWriting fault = ⊥

-- how a picture ends that has begun: it is written, or has too much to draw, and then nothing is; or as above
abbrev pub EndsDrawing : Result Unit CommandFault → BoardState → List Event → ℕ → ℕ → Option (List ℕ) →
    Option (List ℕ) → Type 0
EndsDrawing (Ok done) boot events from to old new = Writes (IsPicture boot events from to) old new
EndsDrawing (Err (Trace fault)) boot events from to old new =
    (fault ≡ TooMuch) × (IsUndrawn boot events from to × Keeps old new)
EndsDrawing (Err fault) boot events from to old new = IsOfWriting fault

-- how races end that are looked for: they are written, or there are too many touches, and then nothing is; or as above
abbrev pub EndsRacing : Result Unit CommandFault → Names → List QueueConfig → BoardState → List Event → ℕ →
    Option (List ℕ) → Option (List ℕ) → Type 0
EndsRacing (Ok done) names queues board events to old new = WritesRaces names queues board events to old new
EndsRacing (Err (Trace fault)) names queues board events to old new =
    (fault ≡ TooManyTouches) × (AreTooMany queues board events to × Keeps old new)
EndsRacing (Err fault) names queues board events to old new = IsOfWriting fault

-- How a trace ends of a board and a journal. Where the options give none, nothing is written.
abbrev pub EndsTracing : Result Unit CommandFault → TraceOptions → Start → Option (List ℕ) → Option (List ℕ) → Type 0
EndsTracing (Ok done) options start old new =
    (first_of options ≤ end_of options (length start.journal.events)) × WritesAsked start options old new
EndsTracing (Err (Trace fault)) options start old new =
    KeepsFromTracing options start fault × Keeps old new
EndsTracing (Err fault) options start old new = IsOfWriting fault

-- Three inputs give a board and a journal, of which there is a trace.
pub record GivesTrace (result : Result Unit CommandFault) (options : TraceOptions) (image config journal : List ℕ)
    (old new : Option (List ℕ)) : Type 0 where
  pub start : Start
  pub within : AreWithin image config journal
  pub is_start : IsStart image config journal start
  pub ends : EndsTracing result options start old new

-- Because of the three inputs, or for lack of memory, there is no trace, and nothing was written.
pub record GivesNoTrace (result : Result Unit CommandFault) (image config journal : List ℕ)
    (old new : Option (List ℕ)) : Type 0 where
  pub fault : CommandFault
  pub is_fault : result ≡ Err fault
  pub keeps_from : KeepsFromStarting input_name.Journal image config journal fault
  pub nothing : Keeps old new

-- how `trace` ends
abbrev pub TraceEnds : Result Unit CommandFault → TraceOptions → List ℕ → List ℕ → List ℕ → Option (List ℕ) →
    Option (List ℕ) → Type 0
TraceEnds result options image config journal old new =
    GivesTrace result options image config journal old new ⊎ GivesNoTrace result image config journal old new
