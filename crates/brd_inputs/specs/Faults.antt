-- The faults of the commands: which errors make them, and the status that each ends with.
use Rattle.std.specs.Prelude.{◌≡◌, ◌≢◌, ℕ, if◌then◌else◌, List}
use Rattle.std.specs.declared.io.Error.{Error}
use Rattle.std.specs.IoError.{error_kind}
use Rattle.std.specs.declared.io.ErrorKind.TheVariants.{OutOfMemory}
use Rattle.brd_image.specs.Faults as build
use Rattle.brd_image.specs.declared.fault.BuildFault.{BuildFault}
use Rattle.brd_journal.specs.Faults as journal
use Rattle.brd_journal.specs.declared.fault.JournalFault.{JournalFault}
use Rattle.brd_search.specs.declared.fault.SearchFault.{SearchFault}
use Rattle.brd_search.specs.declared.fault.SearchFault.TheVariants as search_fault
use Rattle.brd_threads.specs.Faults as threads
use Rattle.brd_threads.specs.declared.fault.RaceFault.{RaceFault}
use Rattle.brd_threads.specs.declared.fault.RaceFault.TheVariants as race_fault
use Rattle.brd_threads.specs.declared.fault.ScriptFault.{ScriptFault}
use Rattle.brd_inputs.specs.Excerpt.{name_excerpt}
use Rattle.brd_inputs.specs.FileKinds.{build_looks_like, journal_looks_like, script_looks_like}
use Rattle.brd_inputs.specs.declared.input_name.InputName.{InputName}
use Rattle.brd_inputs.specs.declared.fault.CommandFault.{CommandFault}
use Rattle.brd_inputs.specs.declared.fault.CommandFault.TheVariants.{NoMemory, Argument, Words, Source, ImageTooLarge}
use Rattle.brd_inputs.specs.declared.fault.CommandFault.TheVariants.{Open, Read, TooLong, TooManyReads, Build, Journal}
use Rattle.brd_inputs.specs.declared.fault.CommandFault.TheVariants.{OtherOrder, Script, Race, Trace, Schedule, Search}
use Rattle.brd_inputs.specs.declared.fault.CommandFault.TheVariants.{Fails, Passes, Write}

-- the status that the program ends with
abbrev pub status_of : CommandFault → ℕ
status_of NoMemory = 3
status_of Argument = 2
status_of (Words fault) = 1
status_of (Source fault excerpt kind) = 1
status_of ImageTooLarge = 1
status_of (Open name error) = 4
status_of (Read input error) = 4
status_of (TooLong input) = 4
status_of (TooManyReads input) = 4
status_of (Build fault kind) = 1
status_of (Journal fault kind) = 1
status_of (OtherOrder order) = 1
status_of (Script fault kind) = 1
status_of (Race fault) = 1
status_of (Trace fault) = 2
status_of (Schedule fault) = 2
status_of (Search fault) = 2
status_of Fails = 5
status_of Passes = 1
status_of (Write error) = 4

-- the fault of a read of an input that failed with this error: lack of memory where its kind says so, else the error
abbrev pub IsOfRead : InputName → Error → CommandFault → Type 0
IsOfRead input error NoMemory = error_kind error ≡ OutOfMemory
IsOfRead input error (Read from e) = (from ≡ input) × (e ≡ error) × (error_kind error ≢ OutOfMemory)
IsOfRead input error _ = ⊥

-- the fault of a file of that name that couldn't be opened: the error with the front of the name, or lack of memory
abbrev pub IsOfOpen : List ℕ → Error → CommandFault → Type 0
IsOfOpen name error NoMemory = Unit {0}
IsOfOpen name error (Open shown e) = (shown ≡ name_excerpt name) × (e ≡ error) × (error_kind error ≢ OutOfMemory)
IsOfOpen name error _ = ⊥

-- the fault of a board of an object file and a configuration: that memory ran out stands alone
abbrev pub of_build : List ℕ → List ℕ → BuildFault → CommandFault
of_build image config fault =
    if build.is_no_memory fault then NoMemory else Build fault (build_looks_like image config fault)

-- the fault of a journal's text, likewise
abbrev pub of_journal : List ℕ → JournalFault → CommandFault
of_journal text fault = if journal.is_no_memory fault then NoMemory else Journal fault (journal_looks_like text fault)

-- the fault of a script's text, likewise
abbrev pub of_script : List ℕ → ScriptFault → CommandFault
of_script text fault = if threads.is_no_memory fault then NoMemory else Script fault (script_looks_like text fault)

-- the fault of a race, likewise
abbrev pub of_race : RaceFault → CommandFault
of_race race_fault.NoMemory = NoMemory
of_race fault = Race fault

-- the fault of the options of a search, likewise
abbrev pub of_search : SearchFault → CommandFault
of_search search_fault.NoMemory = NoMemory
of_search fault = Search fault

-- the fault of a command line that couldn't be taken: lack of memory where the error's kind says so, else an argument
-- that isn't UTF-8
abbrev pub IsOfArguments : Error → CommandFault → Type 0
IsOfArguments error NoMemory = error_kind error ≡ OutOfMemory
IsOfArguments error Argument = error_kind error ≢ OutOfMemory
IsOfArguments error _ = ⊥
