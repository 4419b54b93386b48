-- What a command line asks for: the request of a command's name and of what was given for its arguments, which `clap`
-- keeps in rows.
use Rattle.std.specs.Prelude.{◌≡◌, ◌∷◌, ◌⊎◌, ℕ, ⊤, List, [], Bool, true, false, if◌then◌else◌, Option, None, Some}
use Rattle.std.specs.Prelude.{Result, Ok, Err, codes, bytes_eq, map, option_map, unwrap_or}
use Rattle.std.specs.Bool.{MatchBool}
use Rattle.std.specs.Str.Parse.{ParsesUnsigned}
use Rattle.clap.specs.Words.{IsAmong, Row, Text, all_of, fault_of, first_of, kind_of, one_of, subcommand_of}
use Rattle.clap.specs.declared.error.kind.ErrorKind.TheVariants.{MissingSubcommand}
use Rattle.brd_inputs.specs.declared.fault.CommandFault.TheVariants.{NoMemory}
use Rattle.brd_word.specs.declared.order.Order.{Order}
use Rattle.brd_word.specs.declared.order.Order.TheVariants as order
use Rattle.brd_command.specs.declared.journal_options.JournalOptions.{JournalOptions}
use Rattle.brd_command.specs.declared.trace_options.TraceFormat.{TraceFormat}
use Rattle.brd_command.specs.declared.trace_options.TraceFormat.TheVariants as form
use Rattle.brd_command.specs.declared.trace_options.TraceOptions.{TraceOptions}
use Rattle.brd_command.specs.declared.request.Request.{Request}
use Rattle.brd_command.specs.declared.request.Request.TheVariants.{Words, Asm, Run, Race, Debug, Trace, Journal}
use Rattle.brd_command.specs.declared.request.Request.TheVariants.{Explore, Gdb, Shrink, Try}
use Rattle.brd_search.specs.declared.options.Looks.{Looks}
use Rattle.brd_search.specs.declared.options.SearchOptions.{SearchOptions}
use Rattle.brd_search.specs.declared.options.Sizes.{Sizes}
use Rattle.brd_try.specs.declared.options.TryOptions.{TryOptions}
use Rattle.brd_cli.specs.declared.end.EarlyEnd.{EarlyEnd}
use Rattle.brd_cli.specs.declared.end.EarlyEnd.TheVariants.{Data, Fault, Input, Usage}
use Rattle.brd_cli.specs.declared.request.Line.{Line}
use Rattle.brd_cli.specs.Usage.{board, inputs, pair, race_files, source_and_out}

-- ---- what was given

-- the number of n bits that an argument is, in decimal digits, maybe after a +; none where it isn't there or is no such
-- number
abbrev pub IsNumberOf : ℕ → Option Text → Option ℕ → Type 0
IsNumberOf bits None number = number ≡ None
IsNumberOf bits (Some text) (Some n) = ParsesUnsigned {E = ⊤} bits 10 text (Ok n)
IsNumberOf bits (Some text) None = ParsesUnsigned {E = ⊤} bits 10 text (Err tt)

-- the number below 2 to the 32nd that an argument is
abbrev pub IsNumber : Option Text → Option ℕ → Type 0
IsNumber text number = IsNumberOf 32 text number

-- the number that an argument is, and the usual one where there is none
abbrev pub IsNumberOr : ℕ → Option Text → ℕ → Type 0
IsNumberOr usual text n = (number : Option ℕ) × IsNumber text number × (n ≡ unwrap_or number usual)

-- whether an option without a value was given
abbrev pub IsFlag : Option Text → Bool → Type 0
IsFlag text flag = (text ≡ None → flag ≡ false) × (text ≡ Some (codes "true") → flag ≡ true)
    × (text ≡ Some (codes "false") → flag ≡ false)

abbrev pub before : Option Text → Option (List Text) → Option (List Text)
before (Some text) (Some texts) = Some (text ∷ texts)
before _ _ = None

-- what was given for each of these arguments; none where one isn't there
abbrev pub given : List Text → List Row → Option (List Text)
given [] rows = Some []
given (name ∷ names) rows = before (first_of name rows) (given names rows)

-- ---- requests

abbrev pub AreWords : Option Text → Option Request → Type 0
AreWords text None = IsNumber text None
AreWords text (Some (Words steps)) = IsNumber text (Some steps)
AreWords text (Some other) = ⊥

-- the request of `race`: a quota that is this text, and files of these names
abbrev pub IsRace : Option Text → Option (List Text) → Option Request → Type 0
IsRace text names None = (names ≡ None) ⊎ IsNumber text None
IsRace text names (Some (Race image config script quota out)) =
    (names ≡ Some (image.now ∷ config.now ∷ script.now ∷ out.now ∷ [])) × IsNumber text (Some quota)
IsRace text names (Some other) = ⊥

-- the form of a trace that is named: lines where none is
abbrev pub format_named : Option Text → Option TraceFormat
format_named None = Some form.Text
format_named (Some name) = if bytes_eq name (codes "text") then Some form.Text
    else (if bytes_eq name (codes "json") then Some form.Json
    else (if bytes_eq name (codes "svg") then Some form.Svg
    else (if bytes_eq name (codes "html") then Some form.Html
    else (if bytes_eq name (codes "lcov") then Some form.Lcov
    else (if bytes_eq name (codes "callgrind") then Some form.Callgrind else None)))))

-- the byte order that is named: big-endian where none is
abbrev pub order_named : Option Text → Option Order
order_named None = Some order.Big
order_named (Some name) = if bytes_eq name (codes "big") then Some order.Big
    else (if bytes_eq name (codes "little") then Some order.Little else None)

-- the options of `trace`, each as it was given
abbrev pub AreTraceOptions : List Row → TraceOptions → Type 0
AreTraceOptions rows options = IsNumberOf 64 (one_of (codes "from") rows) options.from
    × IsNumberOf 64 (one_of (codes "to") rows) options.to
    × IsNumberOf 8 (one_of (codes "cpu") rows) options.cpu
    × IsFlag (one_of (codes "instructions") rows) options.instructions
    × (option_map (λ text. text.now) options.words ≡ first_of (codes "WORDS") rows)
    × IsFlag (one_of (codes "summary") rows) options.summary
    × IsFlag (one_of (codes "races") rows) options.races
    × IsFlag (one_of (codes "stacks") rows) options.stacks
    × (options.format ≡ format_named (first_of (codes "format") rows))

-- the options of `journal`, each as it was given; `Usage` says which option has which name here
abbrev pub AreJournalOptions : List Row → JournalOptions → Type 0
AreJournalOptions rows options = (options.order ≡ order_named (first_of (codes "ORDER") rows))
    × IsNumber (one_of (codes "STEPS") rows) options.turn
    × IsNumber (one_of (codes "SEED") rows) options.seed
    × IsNumber (one_of (codes "CHANCE") rows) options.switch
    × (option_map (λ text. text.now) options.weights ≡ first_of (codes "WEIGHTS") rows)
    × IsNumber (one_of (codes "CHANGES") rows) options.changes
    × IsNumberOr 0 (one_of (codes "INTERVAL") rows) options.tick_every
    × (option_map (λ text. text.now) options.raises ≡ first_of (codes "RAISES") rows)

-- the request of `trace`
abbrev pub IsTrace : List Row → Option Request → Type 0
IsTrace rows None = given inputs rows ≡ None
IsTrace rows (Some (Trace image config journal options)) =
    (given inputs rows ≡ Some (image.now ∷ config.now ∷ journal.now ∷ [])) × AreTraceOptions rows options
IsTrace rows (Some other) = ⊥

-- the request of `journal`
abbrev pub IsJournal : List Row → Option Request → Type 0
IsJournal rows None = IsNumber (one_of (codes "CPUS") rows) None ⊎ IsNumber (one_of (codes "EVENTS") rows) None
IsJournal rows (Some (Journal cpus events options)) = IsNumber (one_of (codes "CPUS") rows) (Some cpus)
    × IsNumber (one_of (codes "EVENTS") rows) (Some events) × AreJournalOptions rows options
IsJournal rows (Some other) = ⊥

-- how large the search of `explore` is: 1,000 events and a preemption where it isn't said, and nothing else
abbrev pub AreSizes : List Row → Sizes → Type 0
AreSizes rows sizes = IsNumberOr 1000 (one_of (codes "EVENTS") rows) sizes.events
    × IsNumberOr 1 (one_of (codes "PREEMPTIONS") rows) sizes.preemptions
    × IsNumberOr 0 (one_of (codes "TICKS") rows) sizes.ticks
    × IsNumberOr 0 (one_of (codes "ROUNDS") rows) sizes.fair

-- what `explore` and `shrink` look for
abbrev pub AreLooks : List Row → Looks → Type 0
AreLooks rows looks = IsFlag (one_of (codes "exception") rows) looks.exception
    × IsFlag (one_of (codes "deadlock") rows) looks.deadlock
    × IsFlag (one_of (codes "ends") rows) looks.on
    × (option_map (λ text. text.now) looks.words ≡ first_of (codes "WORDS") rows)
    × (option_map (λ text. text.now) looks.console ≡ first_of (codes "TEXT") rows)
    × (option_map (λ text. text.now) looks.reach ≡ first_of (codes "LABELS") rows)
    × (option_map (λ text. text.now) looks.never ≡ first_of (codes "SUMS") rows)

-- the options of `explore`, each as it was given
abbrev pub AreSearchOptions : List Row → SearchOptions → Type 0
AreSearchOptions rows options = AreSizes rows options.sizes
    × (option_map (λ text. text.now) options.raises ≡ first_of (codes "RAISES") rows)
    × (option_map (λ text. text.now) options.lines ≡ first_of (codes "LINES") rows)
    × AreLooks rows options.looks
    × IsFlag (one_of (codes "shortest") rows) options.shortest
    × (option_map (λ text. text.now) options.shard ≡ first_of (codes "SHARD") rows)
    × IsNumberOr 0 (one_of (codes "MIB") rows) options.remember
    × IsNumberOr 0 (one_of (codes "SECONDS") rows) options.time
    × IsNumberOr 0 (one_of (codes "THREADS") rows) options.threads
    × IsNumberOr 0 (one_of (codes "PLACES") rows) options.places
    × IsFlag (one_of (codes "livelock") rows) options.livelock
    × IsFlag (one_of (codes "finals") rows) options.finals
    × IsNumberOr 0 (one_of (codes "MOST") rows) options.lazy
    × IsNumberOr 512 (one_of (codes "MEMORY") rows) options.memory
    × (option_map (λ text. text.now) options.values ≡ first_of (codes "VALUES") rows)
    × (option_map (λ text. text.now) options.only ≡ first_of (codes "REGIONS") rows)
    × (option_map (λ text. text.now) options.raises_at ≡ first_of (codes "WHERE") rows)

-- the request of `explore`
abbrev pub IsExplore : List Row → Option Request → Type 0
IsExplore rows None = given pair rows ≡ None
IsExplore rows (Some (Explore image config options out)) =
    (given pair rows ≡ Some (image.now ∷ config.now ∷ [])) × AreSearchOptions rows options
    × (option_map (λ name. name.now) out ≡ first_of (codes "OUT") rows)
IsExplore rows (Some other) = ⊥

-- the request of `shrink`
abbrev pub IsShrink : List Row → Option Request → Type 0
IsShrink rows None = given inputs rows ≡ None
IsShrink rows (Some (Shrink image config journal options out)) =
    (given inputs rows ≡ Some (image.now ∷ config.now ∷ journal.now ∷ [])) × AreLooks rows options.looks
    × IsNumberOr 0 (one_of (codes "ROUNDS") rows) options.fair
    × (option_map (λ name. name.now) out ≡ first_of (codes "OUT") rows)
IsShrink rows (Some other) = ⊥

-- the options of `try`: 10,000 events of one processor where it isn't said otherwise, and no ticks
abbrev pub AreTryOptions : List Row → TryOptions → Type 0
AreTryOptions rows options = IsNumberOr 1 (one_of (codes "CPUS") rows) options.cpus
    × IsNumberOr 10000 (one_of (codes "STEPS") rows) options.steps
    × IsNumberOr 0 (one_of (codes "INTERVAL") rows) options.tick_every
    × IsFlag (one_of (codes "strict") rows) options.strict

-- the request of `try`
abbrev pub IsTry : List Row → Option Request → Type 0
IsTry rows None = first_of (codes "SOURCE") rows ≡ None
IsTry rows (Some (Try source options keep page)) =
    (first_of (codes "SOURCE") rows ≡ Some source.now) × AreTryOptions rows options
    × (option_map (λ name. name.now) keep ≡ first_of (codes "NAME") rows)
    × (option_map (λ name. name.now) page ≡ first_of (codes "FILE") rows)
IsTry rows (Some other) = ⊥

-- a request, as its command and the names of its files
abbrev pub spoken : Request → Text × List Text
spoken (Words steps) = (codes "words", [])
spoken (Asm source out) = (codes "asm", source.now ∷ out.now ∷ [])
spoken (Run image config journal) = (codes "run", image.now ∷ config.now ∷ journal.now ∷ [])
spoken (Race image config script quota out) = (codes "race", image.now ∷ config.now ∷ script.now ∷ out.now ∷ [])
spoken (Journal cpus events options) = (codes "journal", [])
spoken (Explore image config options out) = (codes "explore", image.now ∷ config.now ∷ [])
spoken (Shrink image config journal options out) = (codes "shrink", image.now ∷ config.now ∷ journal.now ∷ [])
spoken (Debug image config journal) = (codes "debug", image.now ∷ config.now ∷ journal.now ∷ [])
spoken (Gdb image config journal) = (codes "gdb", image.now ∷ config.now ∷ journal.now ∷ [])
spoken (Trace image config journal options) = (codes "trace", image.now ∷ config.now ∷ journal.now ∷ [])
spoken (Try source options keep page) = (codes "try", source.now ∷ [])

-- the request of a command of files has what was given for them, in this order
abbrev pub IsOfFiles : Text → List Text → List Row → Option Request → Type 0
IsOfFiles name files rows request = option_map spoken request ≡ option_map (λ texts. (name, texts)) (given files rows)

-- the request of the command of this name
abbrev pub IsRequestOf : Text → List Row → Option Request → Type 0
IsRequestOf name rows request =
    MatchBool (bytes_eq name (codes "words")) (AreWords (one_of (codes "STEPS") rows) request)
    (MatchBool (bytes_eq name (codes "asm")) (IsOfFiles (codes "asm") source_and_out rows request)
    (MatchBool (bytes_eq name (codes "run")) (IsOfFiles (codes "run") inputs rows request)
    (MatchBool (bytes_eq name (codes "race")) (IsRace (one_of (codes "QUOTA") rows) (given race_files rows) request)
    (MatchBool (bytes_eq name (codes "debug")) (IsOfFiles (codes "debug") inputs rows request)
    (MatchBool (bytes_eq name (codes "gdb")) (IsOfFiles (codes "gdb") inputs rows request)
    (MatchBool (bytes_eq name (codes "trace")) (IsTrace rows request)
    (MatchBool (bytes_eq name (codes "journal")) (IsJournal rows request)
    (MatchBool (bytes_eq name (codes "explore")) (IsExplore rows request)
    (MatchBool (bytes_eq name (codes "shrink")) (IsShrink rows request)
    (MatchBool (bytes_eq name (codes "try")) (IsTry rows request)
    (request ≡ None)))))))))))

-- the request of a command with its rows; none where there is no command
abbrev pub IsAsked : Option (Text × List Row) → Option Request → Type 0
IsAsked None request = request ≡ None
IsAsked (Some found) request = IsRequestOf found.0 found.1 request

-- the texts that are given for data
abbrev pub data_in : Option (Text × List Row) → List Text
data_in None = []
data_in (Some found) = unwrap_or (all_of (codes "DATA") found.1) []

-- ---- command lines

-- What the words of a command line come to, of which the first is the program's name: what the command that they name
-- asks for, with its data, where nothing is wrong with them; else one of the faults of the first step that fails, or
-- lack of memory. The last case is for words that pass though the command or an argument is missing, which none are
-- known to do.
abbrev pub IsAnswer : List Text → Result Line EarlyEnd → Type 0
IsAnswer words (Ok asked) = (fault_of board words ≡ []) × IsAsked (subcommand_of board words) (Some asked.request)
    × (map (λ text. text.now) asked.texts.items ≡ data_in (subcommand_of board words))
IsAnswer words (Err (Fault fault)) = fault ≡ NoMemory
IsAnswer words (Err (Data fault)) = ⊥
IsAnswer words (Err (Input fault)) = ⊥
IsAnswer words (Err (Usage error)) =
    IsAmong (kind_of error) (fault_of board words)
    ⊎ ((kind_of error ≡ MissingSubcommand) × IsAsked (subcommand_of board words) None)
