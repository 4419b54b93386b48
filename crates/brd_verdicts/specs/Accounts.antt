-- What is counted of a run: which tasks have units of semaphores, and mutexes, which calls were refused, and which
-- raises had no effect. What happens in each event is counted once.
use Rattle.std.specs.Prelude.{ℕ, ◌+◌, ◌==◌, if◌then◌else◌, List, [], ◌∷◌, replicate}
use Rattle.brd_board.specs.declared.event.Event.{Event}
use Rattle.brd_board.specs.Board.{BoardState, happens}
use Rattle.brd_happening.specs.declared.happening.Happening.{Happening}
use Rattle.brd_happening.specs.Happening.{happening_of}
use Rattle.brd_verdicts.specs.declared.accounts.Accounts.{Accounts}
use Rattle.brd_verdicts.specs.declared.answers.Answered.{Answered}
use Rattle.brd_verdicts.specs.Answers.{answers_in, begun_after, call_in, is_error}
use Rattle.brd_verdicts.specs.Units.{units_by}
use Rattle.brd_verdicts.specs.Refusals.{counted, refused_by}
use Rattle.brd_verdicts.specs.Losses.{lost_by}

-- nothing is counted yet
abbrev pub nothing : Accounts
nothing = record {
  begun = replicate 256 0;
  units = record { taken = []; others = [] };
  refused = [];
  lost = [];
}

-- A call was answered in the event of a position: with an error, with E_OK, or with a count.
abbrev pub answered : ℕ → Answered → Accounts → Accounts
answered position it accounts =
    if is_error it.code then record accounts { refused = counted (refused_by position it) accounts.refused }
    else if it.code == 0 then record accounts { units = units_by position it.task (call_in it.call) accounts.units }
    else accounts

-- some, one after the other
abbrev pub all_answered : ℕ → List Answered → Accounts → Accounts
all_answered position [] accounts = accounts
all_answered position (it ∷ its) accounts = all_answered position its (answered position it accounts)

-- what happened in the event of a position
abbrev pub accounts_of : ℕ → Happening → Accounts → Accounts
accounts_of position told accounts =
    let after : Accounts = all_answered position (answers_in accounts.begun told) accounts in
    record after {
      begun = begun_after told told.what after.begun;
      lost = lost_by position told after.lost;
    }

-- of a list of events, from a board at a position on
abbrev pub accounts_from : ℕ → BoardState → List Event → Accounts → Accounts
accounts_from position b [] accounts = accounts
accounts_from position b (event ∷ events) accounts =
    accounts_from (position + 1) (happens b event).board events
    (accounts_of position (happening_of b event) accounts)

-- of a run
abbrev pub accounts_of_run : BoardState → List Event → Accounts
accounts_of_run boot events = accounts_from 0 boot events nothing
