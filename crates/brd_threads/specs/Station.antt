-- A station: a boot, the journal of what has happened since, and a script of what comes from outside.
use Rattle.std.specs.Prelude.{◌≡◌, ℕ, ◌+◌, ◌<◌, ◌≤◌, Bool, true, nat_le, if◌then◌else◌, List, [], ◌∷◌, ◌++◌, length}
use Rattle.std.specs.Prelude.{take, slice_get, slice_index_or}
use Rattle.std.specs.Prelude.{Option, None, Some, Result, Ok, Err}
use Rattle.brd_board.specs.declared.event.Event.{Event}
use Rattle.brd_board.specs.declared.event.Report.{Report}
use Rattle.brd_board.specs.Board.{BoardState, happens, after}
use Rattle.brd_journal.specs.Journal.{JournalState}
use Rattle.brd_journal.specs.Runs.{runs_of}
use Rattle.brd_threads.specs.declared.fault.StationFault.{StationFault}
use Rattle.brd_threads.specs.declared.outer.Outer.{Outer}
use Rattle.brd_threads.specs.Faults.{IsFaultFor}
use Rattle.brd_threads.specs.Outers.{event_of, outers, steps}
use Rattle.brd_threads.specs.Processors.{has_processor}

pub record StationState : Type 0 where
  pub boot : BoardState
  pub journal : JournalState
  pub script : List Outer
  pub taken : ℕ  -- how many entries of the script have happened

-- What a station's type says. The board is what the journal's events make of the boot, and the journal has the boot's
-- byte order; of what comes from outside, the journal has the entries of the script that were taken, in their order;
-- and the books have the steps of each processor.
pub record IsReplay (boot board : BoardState) (journal : JournalState) (script : List Outer) (taken : ℕ)
    (books : List ℕ) : Type 0 where
  pub replay : board ≡ after boot journal.events
  pub order : journal.order ≡ boot.memory.order
  pub within : taken ≤ length script
  pub script_taken : outers journal.events ≡ take taken script
  pub counted : (cpu : ℕ) → slice_index_or books cpu 0 ≡ steps cpu journal.events

-- the board of a station
abbrev pub board_of : StationState → BoardState
board_of station = after station.boot station.journal.events

-- a station to which nothing has happened
abbrev pub begun : BoardState → List Outer → ℕ → StationState
begun boot script limit =
    record {
      boot = boot;
      journal = record { limit = limit; order = boot.memory.order; events = [] };
      script = script;
      taken = 0;
    }

-- whether the journal's limit suffices for more events after its own
abbrev pub has_room : JournalState → List Event → Bool
has_room journal more = nat_le (length (runs_of (journal.events ++ more))) journal.limit

abbrev pub with_more : JournalState → List Event → JournalState
with_more journal more = record journal { events = journal.events ++ more }

-- a station to which more events have happened
abbrev pub with_events : StationState → List Event → StationState
with_events station more = record station { journal = with_more station.journal more }

-- a station whose script's next entry has happened
abbrev pub with_entry : StationState → Outer → StationState
with_entry station entry = record (with_events station (event_of entry ∷ [])) { taken = station.taken + 1 }

-- what an event reports on a station's board
abbrev pub report_on : StationState → Event → Report
report_on station event = (happens (board_of station) event).report

-- The answer and the station after the script's next entry, by that entry: what it reports, unless the journal has no
-- room for it. After the last entry nothing happens.
abbrev pub EntryHappens : Option Outer → StationState → Result (Option Report) StationFault → StationState → Type 0
EntryHappens None old answer new = (answer ≡ Ok None) × (new ≡ old)
EntryHappens (Some entry) old (Ok told) new =
    (told ≡ Some (report_on old (event_of entry))) × (new ≡ with_entry old entry)
    × (has_room old.journal (event_of entry ∷ []) ≡ true)
EntryHappens (Some entry) old (Err fault) new =
    (new ≡ old) × IsFaultFor (has_room old.journal (event_of entry ∷ [])) fault

-- the next entry of a station's script
abbrev pub next_entry : StationState → Option Outer
next_entry station = slice_get station.script station.taken

-- the steps of a processor in the journal, where there is one of that number
abbrev pub steps_of : StationState → ℕ → Option ℕ
steps_of station cpu = if has_processor station.boot cpu then Some (steps cpu station.journal.events) else None

-- each step is of a processor from 1 to this number
abbrev pub AreOfFirst : ℕ → StationState → Type 0
AreOfFirst processors station = (cpu : ℕ) → 0 < steps cpu station.journal.events → (0 < cpu) × (cpu ≤ processors)
