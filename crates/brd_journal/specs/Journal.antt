-- A journal: the byte order of the boards that it is for, a list of events, and how many runs it may have at most.
use Rattle.std.specs.Prelude.{◌≡◌, ℕ, ◌≤◌, nat_le, if◌then◌else◌, List, ◌++◌, length, Result, Ok, Err}
use Rattle.brd_word.specs.declared.order.Order.{Order}
use Rattle.brd_board.specs.declared.event.Event.{Event}
use Rattle.brd_journal.specs.declared.fault.JournalFault.{JournalFault}
use Rattle.brd_journal.specs.declared.fault.JournalFault.TheVariants.{Full}
use Rattle.brd_journal.specs.declared.run.Run.{Run}
use Rattle.brd_journal.specs.Runs.{runs_of, events_of, AreCut}

pub record JournalState : Type 0 where
  pub limit : ℕ
  pub order : Order
  pub events : List Event

-- the greatest limit (own choice)
abbrev pub most_runs : ℕ
most_runs = 4194304

-- A journal with more events after its own, unless these need more runs than its limit.
abbrev pub appended : JournalState → List Event → Result JournalState JournalFault
appended journal more =
    if nat_le (length (runs_of (journal.events ++ more))) journal.limit
    then Ok (record journal { events = journal.events ++ more })
    else Err Full

-- how a journal is kept: its runs and the number of its events
pub record IsKept (limit : ℕ) (runs : List Run) (len : ℕ) : Type 0 where
  pub most : limit ≤ most_runs
  pub within : length runs ≤ limit
  pub cut : AreCut runs
  pub counted : len ≡ length (events_of runs)
