-- What a text says: a journal, or its first fault. It speaks of the lines that the text spells (Text), not of how it is
-- read.
use Rattle.std.specs.Prelude.{◌≡◌, ◌⊎◌, ℕ, ◌+◌, ◌<◌, ◌≤◌, List, [], ◌∷◌, ◌++◌, length}
use Rattle.std.specs.List.{AllByRecursion}
use Rattle.brd_journal.specs.declared.fault.JournalFault.{JournalFault}
use Rattle.brd_journal.specs.declared.fault.JournalFault.TheVariants.{NoMemory, Full, Syntax}
use Rattle.brd_word.specs.declared.order.Order.{Order}
use Rattle.brd_journal.specs.declared.run.Run.{Run}
use Rattle.brd_journal.specs.Runs.{events_of, runs_of}
use Rattle.brd_journal.specs.Journal.{JournalState}
use Rattle.brd_journal.specs.Text.{IsFirstLine, line_text, lines_of_runs, CanBeSpelled, SpellsRuns}

-- A text says a journal of this limit: it spells the journal's byte order, and runs, whose events are the journal's and
-- don't need more runs than the limit.
pub record Says (limit : ℕ) (text : List ℕ) (journal : JournalState) : Type 0 where
  pub runs : List Run
  pub order : Order
  pub spelled : SpellsRuns text order runs
  pub within : length (runs_of (events_of runs)) ≤ limit
  pub same : journal ≡ record { limit = limit; order = order; events = events_of runs }

-- bytes begin with no line of a run
abbrev pub HasNoRun : List ℕ → Type 0
HasNoRun rest = (run : Run) (behind : List ℕ) → CanBeSpelled run → rest ≡ line_text run ++ 10 ∷ behind → ⊥

-- Why what stands after these good lines is a fault: it isn't the text's end and begins with no line of a run, and
-- then the fault has the line's number, before which stand the first line and those of the runs; or it begins with a
-- line for which the limit doesn't suffice.
abbrev pub IsWrong : ℕ → List Run → List ℕ → JournalFault → Type 0
IsWrong limit front rest NoMemory = ⊥
IsWrong limit front rest (Syntax line) = (line ≡ length front + 2) × (rest ≡ [] → ⊥) × HasNoRun rest
IsWrong limit front rest Full =
    (run : Run) × (behind : List ℕ) × CanBeSpelled run × (rest ≡ line_text run ++ 10 ∷ behind)
    × (limit < length (runs_of (events_of (front ++ run ∷ []))))

-- A text says no journal: after a first line and a front of good lines, for which the limit suffices, stands a line
-- with this fault.
pub record FailsBehind (limit : ℕ) (text : List ℕ) (fault : JournalFault) : Type 0 where
  pub front : List Run
  pub rest : List ℕ
  pub order : Order
  pub first : List ℕ
  pub is_first : IsFirstLine first order
  pub lines : text ≡ first ++ 10 ∷ (lines_of_runs front ++ rest)
  pub each : AllByRecursion CanBeSpelled front
  pub within : length (runs_of (events_of front)) ≤ limit
  pub why : IsWrong limit front rest fault

-- the first line isn't that of a journal
abbrev pub HasNoFirstLine : List ℕ → Type 0
HasNoFirstLine text =
    (order : Order) (first behind : List ℕ) → IsFirstLine first order → text ≡ first ++ 10 ∷ behind → ⊥

-- a text's first fault, other than lack of memory
abbrev pub IsFirstFault : ℕ → List ℕ → JournalFault → Type 0
IsFirstFault limit text fault = ((fault ≡ Syntax 1) × HasNoFirstLine text) ⊎ FailsBehind limit text fault
