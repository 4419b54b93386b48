-- Of no task is something so; and a board whose processors all do nothing.
use Rattle.std.proofs.Common.{◌≡◌, inl, inr, ℕ, ◌+◌, ◌<◌, ◌≤◌, sym, ap, subst, ◌∙◌, arith}
use Rattle.std.specs.Prelude.{◌≢◌, Bool, true, false, Decides, IfOk, Option, None, Result, Ok, Err}
use Rattle.brd_base.specs.declared.no_memory.NoMemory.{NoMemory}
use Rattle.std.proofs.lemmas.Bool.{cases_lt}
use Rattle.brd_tasks.specs.declared.task.TaskView.{TaskView}
use Rattle.brd_kernel.specs.Kernel.{timer_due}
use Rattle.brd_board.specs.declared.event.Event.TheVariants.{Step}
use Rattle.brd_board.specs.declared.event.Report.{Report}
use Rattle.brd_board.specs.Board.{BoardState, Happened, happens, task_of}
use Rattle.brd_journal.specs.Still.{did_nothing}
use Rattle.brd_journal.proofs.StillLemmas.{happens-leaves}
use Rattle.brd_verdicts.specs.Deadlock.{GoesOn, HasHandlerDue, HasTask, IsDeadlocked, NoStepDoes, Waits}

pub none-more : (Is : Option TaskView → Type 0) (board : BoardState) (i : ℕ) →
    ((id : ℕ) → 1 ≤ id → id < i → Is (task_of board id) → ⊥) → (Is (task_of board i) → ⊥) →
    (id : ℕ) → 1 ≤ id → id < i + 1 → Is (task_of board id) → ⊥
none-more Is board i none other id some few is = elim (cases_lt id i) [
  | inl before ↦ none id some before is
  | inr not ↦
      let same : id ≡ i = omega (arith, not, few) in
      other (subst (λ (n : ℕ). Is (task_of board n)) same is)
]

-- one more place of time handlers
pub none-due : (board : BoardState) (i : ℕ) → ((place : ℕ) → place < i → timer_due board.kernel place ≢ None → ⊥) →
    (timer_due board.kernel i ≢ None → ⊥) → (place : ℕ) → place < i + 1 → timer_due board.kernel place ≢ None → ⊥
none-due board i none other place few is = elim (cases_lt place i) [
  | inl before ↦ none place before is
  | inr not ↦
      let same : place ≡ i = omega (arith, not, few) in
      other (subst (λ (n : ℕ). timer_due board.kernel n ≢ None) same is)
]

-- one more processor
pub still-more : (board : BoardState) (i : ℕ) → ((cpu : ℕ) → 1 ≤ cpu → cpu < i → did_nothing
    (happens board (Step cpu)).report ≡ true) →
    did_nothing (happens board (Step i)).report ≡ true →
    (cpu : ℕ) → 1 ≤ cpu → cpu < i + 1 → did_nothing (happens board (Step cpu)).report ≡ true
still-more board i still now cpu some few = elim (cases_lt cpu i) [
  | inl before ↦ still cpu some before
  | inr not ↦
      let same : i ≡ cpu = omega (arith, not, few) in
      subst (λ (n : ℕ). did_nothing (happens board (Step n)).report ≡ true) same now
]

-- what a step of a copy reported is what the board's would
pub copy-reports : (board copy next : BoardState) (told : Report) (cpu : ℕ) → copy ≡ board →
    record { board = next; report = told } ≡ happens copy (Step cpu) → did_nothing
    (happens board (Step cpu)).report ≡ did_nothing told
copy-reports board copy next told cpu same is =
    ap (λ (b : BoardState). did_nothing (happens b (Step cpu)).report) (sym same) ∙ ap
    (λ (it : Happened). did_nothing it.report) (sym is)

-- and leaves it as it was, where it did nothing
pub copy-stays : (board copy next : BoardState) (told : Report) (cpu : ℕ) → copy ≡ board →
    record { board = next; report = told } ≡ happens copy (Step cpu) → did_nothing told ≡ true → next ≡ board
copy-stays board copy next told cpu same is nothing =
    ap (λ (it : Happened). it.board) is
    ∙ happens-leaves copy (Step cpu) (ap (λ (it : Happened). did_nothing it.report) (sym is) ∙ nothing) ∙ same

-- what is known of a board's processors decides
pub deadlocked-by : (board : BoardState) (r : Result Bool NoMemory) → board.kernel.off ≡ false → HasTask Waits board →
    (HasTask GoesOn board → ⊥) → (HasHandlerDue board → ⊥) →
    IfOk r (λ none. Decides none (NoStepDoes board)) → IfOk r (λ answer. Decides answer (IsDeadlocked board))
deadlocked-by board (Ok none) on waits goes untimed decides = (
  λ is. record { on = on; waits = waits; none = goes; untimed = untimed; still = decides.0 is },
  λ deadlocked. decides.1 deadlocked.still,
)
deadlocked-by board (Err e) on waits goes untimed decides = tt
