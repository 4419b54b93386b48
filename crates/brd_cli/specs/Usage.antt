-- What the program takes: its commands, and the arguments of each in the order in which they are given.
use Rattle.std.specs.Prelude.{◌≡◌, ◌∷◌, ◌++◌, List, [], Ok, Result, Some, codes, false, fold, map, pos, true}
use Rattle.brd_base.specs.declared.no_memory.NoMemory.{NoMemory}
use Rattle.clap.specs.Words.{AddsSubcommand, App, Rule, Text, app_of, new_app, new_rule, with_rule, with_subcommand}
use Rattle.clap.specs.declared.builder.action.ArgAction.TheVariants.{Append, Set, SetTrue}
use Rattle.clap.specs.declared.builder.command.Command.{Command, out-Command}
use Rattle.clap.specs.declared.builder.value_parser.ValueParser.TheVariants.{Signed, Unsigned}

-- an argument that has to be given, with one value
abbrev pub needed : Text → Rule
needed name = record (new_rule name) { required = true; action = Some Set }

-- an argument that is a number, up to a million
abbrev pub number : Text → Rule
number name = record (needed name) { parser = Some (Signed (pos 0) (pos 1000000)) }

-- an argument that is a number of 32 bits
abbrev pub needed_count : Text → Rule
needed_count name = record (needed name) { parser = Some (Signed (pos 0) (pos 4294967295)) }

-- an option with one value, and one without
abbrev pub valued : Text → Rule
valued name = record (new_rule name) { long = Some name; action = Some Set; value_names = 1 }

abbrev pub flag : Text → Rule
flag name = record (new_rule name) { long = Some name; action = Some SetTrue }

-- an option whose value is a position, below 2 to the 64th, and one whose value is a processor, up to 255
abbrev pub position : Text → Rule
position name = record (valued name) { parser = Some (Unsigned 0 18446744073709551615) }

abbrev pub processor : Text → Rule
processor name = record (valued name) { parser = Some (Signed (pos 0) (pos 255)) }

-- an option with one value, of which the name is shown, and one whose value is a number of 32 bits
abbrev pub option : Text → Text → Rule
option name flag = record (new_rule name) { long = Some flag; action = Some Set }

abbrev pub count : Text → Text → Rule
count name flag = record (option name flag) { parser = Some (Signed (pos 0) (pos 4294967295)) }

-- the option for data, which may be given any number of times
abbrev pub data_option : Rule
data_option = record (new_rule (codes "DATA")) { long = Some (codes "data"); action = Some Append }

-- the files that `asm` takes, those that `run`, `debug`, `gdb`, `trace` and `shrink` take, those that `explore` takes,
-- and those that `race` takes beside its quota
abbrev pub source_and_out : List Text
source_and_out = codes "SOURCE" ∷ codes "OUT" ∷ []

abbrev pub inputs : List Text
inputs = codes "IMAGE" ∷ codes "CONFIG" ∷ codes "JOURNAL" ∷ []

abbrev pub pair : List Text
pair = codes "IMAGE" ∷ codes "CONFIG" ∷ []

abbrev pub race_files : List Text
race_files = codes "IMAGE" ∷ codes "CONFIG" ∷ codes "SCRIPT" ∷ codes "OUT" ∷ []

-- a command that takes these arguments, in this order
abbrev pub command_with : Text → List Rule → App
command_with name arguments = fold with_rule (new_app name) arguments

-- a command that takes IMAGE, CONFIG and JOURNAL, and data
abbrev pub with_inputs : Text → App
with_inputs name = command_with name (map needed inputs ++ data_option ∷ [])

-- a program of which one of its commands has to be named, and which says its version
abbrev pub wants_command : App → App
wants_command program = record program { top = record program.top { subcommand_required = true; has_version = true } }

abbrev pub program_with : Text → List App → App
program_with name commands =
    fold (λ program command. with_subcommand program command.top) (wants_command (new_app name)) commands

-- the program and its commands
abbrev pub words : App
words = command_with (codes "words") (number (codes "STEPS") ∷ [])

-- `try` takes its options before or after its file
abbrev pub tries : App
tries = command_with (codes "try")
    (needed (codes "SOURCE") ∷ count (codes "STEPS") (codes "steps") ∷ count (codes "CPUS") (codes "cpus")
    ∷ count (codes "INTERVAL") (codes "tick-every") ∷ option (codes "NAME") (codes "keep")
    ∷ option (codes "FILE") (codes "page") ∷ flag (codes "strict") ∷ data_option ∷ [])

abbrev pub asm : App
asm = command_with (codes "asm") (map needed source_and_out)

abbrev pub run : App
run = with_inputs (codes "run")

abbrev pub race : App
race = command_with (codes "race")
    (needed (codes "IMAGE") ∷ needed (codes "CONFIG") ∷ needed (codes "SCRIPT") ∷ number (codes "QUOTA")
    ∷ needed (codes "OUT") ∷ data_option ∷ [])

abbrev pub debug : App
debug = with_inputs (codes "debug")

abbrev pub gdb : App
gdb = with_inputs (codes "gdb")

-- `trace` takes its options before, between or after its files
abbrev pub trace : App
trace = command_with (codes "trace")
    (needed (codes "IMAGE") ∷ needed (codes "CONFIG") ∷ needed (codes "JOURNAL")
    ∷ position (codes "from") ∷ position (codes "to") ∷ processor (codes "cpu")
    ∷ flag (codes "instructions") ∷ option (codes "WORDS") (codes "word") ∷ flag (codes "summary")
    ∷ flag (codes "races") ∷ flag (codes "stacks") ∷ valued (codes "format") ∷ data_option ∷ [])

abbrev pub journal : App
journal = command_with (codes "journal")
    (number (codes "CPUS") ∷ needed_count (codes "EVENTS") ∷ count (codes "STEPS") (codes "turn")
    ∷ count (codes "SEED") (codes "random") ∷ count (codes "CHANCE") (codes "switch")
    ∷ option (codes "WEIGHTS") (codes "weights") ∷ count (codes "CHANGES") (codes "pct")
    ∷ count (codes "INTERVAL") (codes "tick-every") ∷ option (codes "RAISES") (codes "raise")
    ∷ option (codes "ORDER") (codes "order") ∷ [])

-- the bounds of a search, what fails, and how a search goes and where its journal does
abbrev pub bounds : List Rule
bounds =
    count (codes "EVENTS") (codes "events") ∷ count (codes "PREEMPTIONS") (codes "preemptions")
    ∷ count (codes "TICKS") (codes "ticks") ∷ option (codes "RAISES") (codes "raises")
    ∷ option (codes "LINES") (codes "lines") ∷ []

abbrev pub checks : List Rule
checks =
    flag (codes "exception") ∷ flag (codes "deadlock") ∷ flag (codes "ends")
    ∷ option (codes "WORDS") (codes "word") ∷ option (codes "TEXT") (codes "console")
    ∷ option (codes "LABELS") (codes "reach") ∷ option (codes "SUMS") (codes "never")
    ∷ count (codes "ROUNDS") (codes "fair") ∷ []

abbrev pub searching : List Rule
searching =
    flag (codes "shortest") ∷ option (codes "SHARD") (codes "shard") ∷ count (codes "MIB") (codes "remember")
    ∷ count (codes "SECONDS") (codes "time") ∷ count (codes "THREADS") (codes "threads")
    ∷ count (codes "PLACES") (codes "places") ∷ flag (codes "livelock") ∷ flag (codes "finals")
    ∷ option (codes "VALUES") (codes "values") ∷ count (codes "MOST") (codes "lazy")
    ∷ count (codes "MEMORY") (codes "memory") ∷ option (codes "REGIONS") (codes "only")
    ∷ option (codes "WHERE") (codes "raises-at") ∷ option (codes "OUT") (codes "out") ∷ data_option ∷ []

-- `explore` and `shrink` take their options before, between or after their files
abbrev pub explore : App
explore = command_with (codes "explore") (map needed pair ++ bounds ++ checks ++ searching)

abbrev pub shrink : App
shrink =
    command_with (codes "shrink") (map needed inputs ++ checks ++ option (codes "OUT") (codes "out") ∷ data_option ∷ [])

-- the commands in the order in which a newcomer meets them
abbrev pub board : App
board =
    program_with (codes "board")
    (tries ∷ asm ∷ run ∷ trace ∷ debug ∷ gdb ∷ race ∷ journal ∷ explore ∷ shrink ∷ words ∷ [])

-- where the command is added to another, a command of this form is
abbrev pub AddsForm : App → Command → Type 0
AddsForm form command = (old new : Command) → AddsSubcommand old command new
    → app_of new ≡ with_subcommand (app_of old) form.top

-- a program that could be made, with a command more that could be made
abbrev pub HasAdded : Result Command NoMemory → Result Command NoMemory → Command → Type 0
HasAdded (Ok old) (Ok command) new = AddsSubcommand old command new
HasAdded _ _ new = ⊥

-- a command has these arguments more, in this order, of which none is for the commands below it too
pub record AddsArguments (arguments : List Rule) (old new : Command) : Type 0 where
  pub shape : app_of new ≡ fold with_rule (app_of old) arguments
  pub globals : (out-Command old).has_globals ≡ false → (out-Command new).has_globals ≡ false
