-- Which fault an answer has.
use Rattle.std.specs.Prelude.{◌≡◌, Bool, true, false, Result, Ok, Err}
use Rattle.brd_text.specs.Faults as text
use Rattle.brd_journal.specs.declared.fault.JournalFault.{JournalFault}
use Rattle.brd_journal.specs.declared.fault.JournalFault.TheVariants as journal
use Rattle.brd_threads.specs.declared.fault.StationFault.{StationFault}
use Rattle.brd_threads.specs.declared.fault.StationFault.TheVariants as station
use Rattle.brd_threads.specs.declared.fault.CommitFault.{CommitFault}
use Rattle.brd_threads.specs.declared.fault.CommitFault.TheVariants as commit
use Rattle.brd_threads.specs.declared.fault.ScriptFault.{ScriptFault}
use Rattle.brd_threads.specs.declared.fault.ScriptFault.TheVariants as script
use Rattle.brd_threads.specs.declared.fault.RaceFault.{RaceFault}
use Rattle.brd_threads.specs.declared.fault.RaceFault.TheVariants as race

-- what a journal's fault is to a station
abbrev pub station_fault_of : JournalFault → StationFault
station_fault_of journal.NoMemory = station.NoMemory
station_fault_of journal.Full = station.JournalFull
station_fault_of (journal.Syntax line) = station.JournalFull

-- JournalFull only where the journal has no room; NoMemory in any case
abbrev pub IsFaultFor : Bool → StationFault → Type 0
IsFaultFor room station.NoMemory = Unit {0}
IsFaultFor room station.JournalFull = room ≡ false

-- JournalFull exactly where the journal has no room, unless memory ran out
abbrev pub IsFullUnless : {X : Type 0} → Bool → Result X StationFault → Type 0
IsFullUnless room (Ok x) = room ≡ true
IsFullUnless room (Err fault) = IsFaultFor room fault

abbrev pub is_no_memory : ScriptFault → Bool
is_no_memory script.NoMemory = true
is_no_memory (script.Syntax line) = false

-- what a function returned, seen by view, is `read`, unless memory ran out
abbrev pub Gives : {X Y : Type 0} → (X → Y) → Result X ScriptFault → Result Y ScriptFault → Type 0
Gives view answer read = text.Gives is_no_memory view answer read

-- what a station's fault is to the commit of a lease
abbrev pub commit_fault_of : StationFault → CommitFault
commit_fault_of station.NoMemory = commit.NoMemory
commit_fault_of station.JournalFull = commit.JournalFull

-- what a station's fault is to a race
abbrev pub race_fault_of : StationFault → RaceFault
race_fault_of station.NoMemory = race.NoMemory
race_fault_of station.JournalFull = race.JournalFull
