-- How equal events are added to runs.
use Rattle.std.specs.Prelude.{ℕ, ◌+◌, ◌-◌, min, nat_le, if◌then◌else◌, List, [], ◌∷◌, ◌++◌, length, Result, Ok, Err}
use Rattle.brd_board.specs.declared.event.Event.{Event}
use Rattle.brd_journal.specs.declared.fault.JournalFault.{JournalFault}
use Rattle.brd_journal.specs.declared.fault.JournalFault.TheVariants.{Full}
use Rattle.brd_journal.specs.declared.run.Run.{Run}
use Rattle.brd_journal.specs.Runs.{most_count, same_event, run_of_count}

-- how many more of an event the last run can count
abbrev pub room_in : List Run → Event → ℕ
room_in [] event = 0
room_in (run ∷ []) event = if same_event run.event event then most_count - run.count else 0
room_in (run ∷ next ∷ runs) event = room_in (next ∷ runs) event

-- the last run with a greater count
abbrev pub grown : List Run → ℕ → List Run
grown [] more = []
grown (run ∷ []) more = record run { count = run.count + more } ∷ []
grown (run ∷ next ∷ runs) more = run ∷ grown (next ∷ runs) more

-- Runs with n more of an event at the end: the last run takes what it can, a new one takes what is left.
abbrev pub added : List Run → Event → ℕ → List Run
added runs event count =
    let joined = min (room_in runs event) count in
    grown runs joined ++ run_of_count event (count - joined)

-- the same, unless these are more runs than the limit
abbrev pub added_within : ℕ → List Run → Event → ℕ → Result (List Run) JournalFault
added_within limit runs event count =
    if nat_le (length (added runs event count)) limit then Ok (added runs event count) else Err Full
