-- What a race answers, and what its threads do.
use Rattle.std.specs.Prelude.{◌≡◌, ◌⊎◌, ℕ, ◌+◌, ◌<◌, ◌≤◌, Bool, true, false, List, [], ◌∷◌, length, take}
use Rattle.std.specs.Prelude.{slice_index_or}
use Rattle.std.specs.Prelude.{Option, None, Some, Result, Ok, Err}
use Rattle.brd_board.specs.Board.{BoardState}
use Rattle.brd_journal.specs.Runs.{runs_of}
use Rattle.brd_ledgers.specs.Shares.{Counted}
use Rattle.brd_threads.specs.declared.fault.RaceFault.{RaceFault}
use Rattle.brd_threads.specs.declared.fault.RaceFault.TheVariants as race
use Rattle.brd_threads.specs.declared.fault.StationFault.{StationFault}
use Rattle.brd_threads.specs.declared.outer.Outer.{Outer}
use Rattle.brd_threads.specs.Faults.{IsFaultFor, race_fault_of}
use Rattle.brd_threads.specs.Outers.{event_of, outers, steps}
use Rattle.brd_threads.specs.Station.{StationState, AreOfFirst, board_of, has_room, with_entry}

-- the faults that a worker may have: that something is broken only a race can say
abbrev pub IsOfWorker : RaceFault → Type 0
IsOfWorker race.NoMemory = Unit {0}
IsOfWorker race.JournalFull = Unit {0}
IsOfWorker race.Broken = ⊥

-- What a worker's share counts, by what the worker answers: true, and it counts the quota; false or a fault, and it
-- counts less.
abbrev pub Counts : ℕ → ℕ → Result Bool RaceFault → Type 0
Counts quota count (Ok true) = count ≡ quota
Counts quota count (Ok false) = count < quota
Counts quota count (Err fault) = (count < quota) × IsOfWorker fault

-- what the worker of a processor gives back: the processor's share, and its answer
unfoldable pub HasWorked : ℕ → ℕ → Counted × Result Bool RaceFault → Type 0
HasWorked cpu quota worked = (worked.0.cpu ≡ cpu) × Counts quota worked.0.count worked.1

-- the workers of the processors from 1 on
abbrev pub HaveWorked : List ℕ → List (Counted × Result Bool RaceFault) → Type 0
HaveWorked quotas workers =
    (i : ℕ) (default : Counted × Result Bool RaceFault) → i < length workers
    → HasWorked (i + 1) (slice_index_or quotas i 0) (slice_index_or workers i default)

-- the fault of the driver
abbrev pub driver_fault : Result Unit StationFault → Option RaceFault
driver_fault (Ok done) = None
driver_fault (Err fault) = Some (race_fault_of fault)

-- the fault of an answer, else this one
abbrev pub fault_or : Result Bool RaceFault → Option RaceFault → Option RaceFault
fault_or (Ok met) other = other
fault_or (Err fault) other = Some fault

-- the fault of the first worker that has one, else the driver's
abbrev pub first_fault : List (Counted × Result Bool RaceFault) → Result Unit StationFault → Option RaceFault
first_fault [] driver = driver_fault driver
first_fault (worked ∷ workers) driver = fault_or worked.1 (first_fault workers driver)

-- no processor does more steps than its quota
abbrev pub AreWithin : List ℕ → StationState → Type 0
AreWithin quotas station =
    (i : ℕ) → i < length quotas → steps (i + 1) station.journal.events ≤ slice_index_or quotas i 0

-- each processor does as many steps as its quota
abbrev pub AreMet : List ℕ → StationState → Type 0
AreMet quotas station = (i : ℕ) → i < length quotas → steps (i + 1) station.journal.events ≡ slice_index_or quotas i 0

-- each processor does as many steps as its worker's share counts
abbrev pub AreCounted : List (Counted × Result Bool RaceFault) → StationState → Type 0
AreCounted workers station =
    (i : ℕ) (default : Counted × Result Bool RaceFault) → i < length workers
    → steps (i + 1) station.journal.events ≡ (slice_index_or workers i default).0.count

-- What a race leaves: a station of this boot and script, whose journal has the boot's byte order. What came from
-- outside is what was taken of the script, all of it unless the board is off. There is a quota for each processor of
-- the board: no processor has done more steps than its quota, and each as many, unless the board is off; no step is of
-- another number. The journal has no more runs than `limit`.
pub record HasRaced (boot : BoardState) (script : List Outer) (quotas : List ℕ) (limit : ℕ)
    (station : StationState) : Type 0 where
  pub boot_is : station.boot ≡ boot
  pub script_is : station.script ≡ script
  pub order : station.journal.order ≡ boot.memory.order
  pub room : length (runs_of station.journal.events) ≤ limit
  pub taken : outers station.journal.events ≡ take station.taken script
  pub within : AreWithin quotas station
  pub own : AreOfFirst (length quotas) station
  pub whole : (board_of station).kernel.off ≡ false → outers station.journal.events ≡ script
  pub met : (board_of station).kernel.off ≡ false → AreMet quotas station

-- What is answered where no thread had a fault: the station that they left, of whose processors each worker has counted
-- the steps, if it is what a race leaves; and Broken exactly if it isn't.
abbrev pub AnswersLeft : List (Counted × Result Bool RaceFault) → StationState → (StationState → Type 0)
    → Result StationState RaceFault → Type 0
AnswersLeft workers left Has (Ok station) = (station ≡ left) × AreCounted workers station × Has station
AnswersLeft workers left Has (Err fault) = (fault ≡ race.Broken) × (Has left → ⊥)

-- what is answered once all threads have ended: their first fault, if there is one
abbrev pub Answers : Option RaceFault → List (Counted × Result Bool RaceFault) → StationState → (StationState → Type 0)
    → Result StationState RaceFault → Type 0
Answers (Some fault) workers left Has answer = answer ≡ Err fault
Answers None workers left Has answer = AnswersLeft workers left Has answer

-- How a race ends whose threads have all been at work: by what its workers and its driver gave back, and by what they
-- left.
pub record HasEnded (boot : BoardState) (script : List Outer) (quotas : List ℕ) (limit : ℕ)
    (answer : Result StationState RaceFault) : Type 0 where
  pub workers : List (Counted × Result Bool RaceFault)
  pub driver : Result Unit StationFault
  pub left : StationState
  pub each : length workers ≡ length quotas
  pub worked : HaveWorked quotas workers
  pub answers : Answers (first_fault workers driver) workers left (HasRaced boot script quotas limit) answer

-- How a race ends: so; or memory ran out before all threads were at work, or one of them couldn't be started.
abbrev pub RaceEnds : BoardState → List Outer → List ℕ → ℕ → Result StationState RaceFault → Type 0
RaceEnds boot script quotas limit answer = (answer ≡ Err race.NoMemory) ⊎ HasEnded boot script quotas limit answer

-- What a turn of the driver answers and leaves, by whether the board is off and by the script's next entry. Where the
-- board is off or the script is used up, nothing happens, and the driver has ended well. Else that entry happens, and
-- the driver goes on; or that has a fault and changes nothing, and the driver has ended with it.
abbrev pub Drives : Bool → Option Outer → StationState → Option (Result Unit StationFault) → StationState → Type 0
Drives true entry old answer new = (answer ≡ Some (Ok tt)) × (new ≡ old)
Drives false None old answer new = (answer ≡ Some (Ok tt)) × (new ≡ old)
Drives false (Some entry) old None new = new ≡ with_entry old entry
Drives false (Some entry) old (Some (Ok done)) new = ⊥
Drives false (Some entry) old (Some (Err fault)) new =
    (new ≡ old) × IsFaultFor (has_room old.journal (event_of entry ∷ [])) fault
