-- The command `race`: what it writes for what it reads, and how it ends where it doesn't. `out_old` and `out` are what
-- OUT held before and after the command, `old` and `new` what standard output did.
use Rattle.std.specs.Prelude.{◌≡◌, ◌≢◌, ℕ, List, length, replicate, Option, Result, Ok, Err}
use Rattle.std.specs.Io.KnownBytes.{Appends, Keeps}
use Rattle.std.specs.declared.io.Error.{Error}
use Rattle.brd_journal.specs.Journal.{most_runs}
use Rattle.brd_journal.specs.Reading.{journal_of}
use Rattle.brd_journal.specs.Text.{text_of}
use Rattle.brd_threads.specs.Processors.{processors_of}
use Rattle.brd_threads.specs.Races as races
use Rattle.brd_threads.specs.Races.{HasRaced}
use Rattle.brd_threads.specs.Station.{StationState, board_of}
use Rattle.brd_threads.specs.declared.fault.RaceFault.{RaceFault}
use Rattle.brd_threads.specs.declared.fault.RaceFault.TheVariants as race_fault
use Rattle.brd_report.specs.Output.{AppendsFront}
use Rattle.brd_report.specs.Report.{report_of}
use Rattle.brd_inputs.specs.Start.{AreWithin, IsRaceStart, KeepsFromStarting}
use Rattle.brd_inputs.specs.declared.fault.CommandFault.{CommandFault}
use Rattle.brd_inputs.specs.declared.fault.CommandFault.TheVariants.{NoMemory, Race, Write}
use Rattle.brd_inputs.specs.declared.input_name.InputName.TheVariants as input_name
use Rattle.brd_inputs.specs.declared.start.RaceStart.{RaceStart}

-- the text of a station's journal, which is read as this byte order and these events again, and the report of its board
pub record IsShown (station : StationState) (journal report : List ℕ) : Type 0 where
  pub is_text : journal ≡ text_of station.journal.order station.journal.events
  pub is_read : journal_of most_runs journal
      ≡ Ok (record { limit = most_runs; order = station.journal.order; events = station.journal.events })
  pub is_reported : report ≡ report_of (length station.journal.events) (board_of station)

-- how a race of a board with a script ends whose threads have all been at work, with this quota for each processor
abbrev pub HasEnded : ℕ → RaceStart → Result StationState RaceFault → Type 0
HasEnded quota start answer =
    races.HasEnded start.board start.script.items (replicate (processors_of start.board) quota) most_runs answer

-- what is shown of the station left by a race of a board with a script, with this quota for each processor
pub record ShowsStation (quota : ℕ) (start : RaceStart) (journal report : List ℕ) : Type 0 where
  pub station : StationState
  pub has_raced : HasRaced start.board start.script.items (replicate (processors_of start.board) quota)
      most_runs station
  pub has_ended : HasEnded quota start (Ok station)
  pub is_shown : IsShown station journal report

-- what is shown of a race over what an object file, a configuration and a script say
pub record ShowsRace (quota : ℕ) (image config text journal report : List ℕ) : Type 0 where
  pub start : RaceStart
  pub within : AreWithin image config text
  pub is_start : IsRaceStart image config text start
  pub shown : ShowsStation quota start journal report

-- What may keep a race that has begun from having a result: want of memory or of threads; or a fault, by what its
-- threads gave back and left.
abbrev pub KeepsFromRacing : ℕ → RaceStart → CommandFault → Type 0
KeepsFromRacing quota start NoMemory = Unit {0}
KeepsFromRacing quota start (Race fault) = (fault ≢ race_fault.NoMemory) × HasEnded quota start (Err fault)
KeepsFromRacing quota start _ = ⊥

-- Three inputs give a race a start, and the fault is the one that its threads gave back, by their order; or Broken,
-- where they gave back none, and what they left isn't what a race leaves.
pub record HasFault (quota : ℕ) (image config text : List ℕ) (fault : RaceFault) : Type 0 where
  pub start : RaceStart
  pub within : AreWithin image config text
  pub is_start : IsRaceStart image config text start
  pub is_own : fault ≢ race_fault.NoMemory
  pub has_ended : HasEnded quota start (Err fault)

-- the journal was written on OUT, and the report on standard output
pub record WritesRace (quota : ℕ) (image config text : List ℕ) (out_old out old new : Option (List ℕ)) : Type 0 where
  pub journal : List ℕ
  pub report : List ℕ
  pub shows : ShowsRace quota image config text journal report
  pub journal_written : Appends out_old out journal
  pub report_written : Appends old new report

-- Writing failed: on OUT, which has a front of the journal, and nothing was written on standard output; or on standard
-- output, which has a front of the report, and OUT has the journal.
pub data WritesRaceFront (quota : ℕ) (image config text : List ℕ) (out_old out old new : Option (List ℕ)) : Type 0 where
  in_journal : (journal report : List ℕ) → ShowsRace quota image config text journal report →
      AppendsFront out_old out journal → Keeps old new →
      WritesRaceFront quota image config text out_old out old new
  in_report : (journal report : List ℕ) → ShowsRace quota image config text journal report →
      Appends out_old out journal → AppendsFront old new report →
      WritesRaceFront quota image config text out_old out old new

-- Nothing is written where memory or threads ran out, or where what was read or the race has a fault. Where writing
-- failed, a front was.
abbrev pub RefusesRace : CommandFault → ℕ → List ℕ → List ℕ → List ℕ → Option (List ℕ) → Option (List ℕ) →
    Option (List ℕ) → Option (List ℕ) → Type 0
RefusesRace NoMemory quota image config text out_old out old new = Keeps out_old out × Keeps old new
RefusesRace (Race fault) quota image config text out_old out old new =
    HasFault quota image config text fault × Keeps out_old out × Keeps old new
RefusesRace (Write error) quota image config text out_old out old new =
    WritesRaceFront quota image config text out_old out old new
RefusesRace fault quota image config text out_old out old new =
    KeepsFromStarting input_name.Script image config text fault × Keeps out_old out × Keeps old new

-- how `race` ends: the journal and the report were written, or it was refused
abbrev pub RaceEnds : Result Unit CommandFault → ℕ → List ℕ → List ℕ → List ℕ → Option (List ℕ) → Option (List ℕ) →
    Option (List ℕ) → Option (List ℕ) → Type 0
RaceEnds (Ok done) quota image config text out_old out old new = WritesRace quota image config text out_old out old new
RaceEnds (Err fault) quota image config text out_old out old new =
    RefusesRace fault quota image config text out_old out old new

-- how `race` ends where the journal couldn't be put where it belongs
abbrev pub unkept : Result Unit CommandFault → Error → Result Unit CommandFault
unkept (Ok done) error = Err (Write error)
unkept (Err fault) error = Err fault
