-- Steps that are done lead from the first machine to this one, whose context is at a place that is kept apart.
use Rattle.std.proofs.Common.{◌≡◌, ℕ, ◌-◌, ◌*◌, ◌≤◌, Bool, true, false, List, length, All, Some, sym, ap, ◌∙◌, subst, arith}
use Rattle.brd_mem.specs.Memory.{Memory, size_of}
use Rattle.brd_link.specs.LinkSet.{LinkSet}
use Rattle.brd_exec.specs.State.{State}
use Rattle.brd_exec.specs.Went.{Machine, went}
use Rattle.brd_fast.specs.declared.known.Known.{Known}
use Rattle.brd_fast.specs.Known.{IsRight}
use Rattle.brd_fast.specs.Place.{Place, Leaves}
use Rattle.brd_fast.specs.Steps.{MaySteps, GoesFrom, machine_at}
use Rattle.brd_fast.proofs.StepLemmas.{step-alike, went-more, went-sum}

pub record Gone (cpu count : ℕ) (known : List Known) (first : Machine) (s : State) (memory : Memory) (links : LinkSet) (line : Place) : Type 0 where
  pub few : line.left ≤ count
  pub size : 4 * line.words ≤ size_of memory
  pub long : line.words ≤ length known
  pub right : All (IsRight memory.order) known
  pub leads : went cpu (count - line.left) first ≡ Some (machine_at s memory links line)

-- by a step that may be done
pub gone-may : (cpu count : ℕ) (known : List Known) (first : Machine) (s : State) (memory : Memory) (links : LinkSet) (line : Place)
    (result : Bool) (new_s : State) (new_memory : Memory) (new_links : LinkSet) (new : Place) →
    Gone cpu count known first s memory links line →
    MaySteps cpu (machine_at s memory links line) result (machine_at new_s new_memory new_links new) → Leaves line result new →
    Gone cpu count known first new_s new_memory new_links new
gone-may cpu count known first s memory links line true new_s new_memory new_links new gone steps leaves =
    let alike = step-alike cpu (machine_at s memory links line) true (machine_at new_s new_memory new_links new) steps in
    record {
      few = omega (arith, gone.few, leaves.0);
      size = omega (arith, gone.size, leaves.1, alike.0);
      long = omega (arith, gone.long, leaves.1);
      right = subst (λ order. All (IsRight order) known) (sym alike.1) gone.right;
      leads = went-more cpu (count - line.left) (count - new.left) first (machine_at s memory links line)
          (machine_at new_s new_memory new_links new) (omega (arith, gone.few, leaves.0)) gone.leads steps;
    }
gone-may cpu count known first s memory links line false new_s new_memory new_links new gone steps leaves =
    let alike = step-alike cpu (machine_at s memory links line) false (machine_at new_s new_memory new_links new) steps in
    let left : new.left ≡ line.left = ap (λ p. p.left) leaves in
    let words : new.words ≡ line.words = ap (λ p. p.words) leaves in
    record {
      few = omega (arith, gone.few, left);
      size = omega (arith, gone.size, words, alike.0);
      long = omega (arith, gone.long, words);
      right = subst (λ order. All (IsRight order) known) (sym alike.1) gone.right;
      leads = ap (λ n. went cpu (count - n) first) left ∙ gone.leads ∙ ap Some (sym steps);
    }

-- by the steps to where a line goes on
pub gone-on : (cpu count : ℕ) (known : List Known) (first : Machine) (s : State) (memory : Memory) (links : LinkSet) (line new : Place) →
    Gone cpu count known first s memory links line → GoesFrom cpu s memory links line new →
    Gone cpu count known first s memory links new
gone-on cpu count known first s memory links line new gone goes = record {
  few = omega (arith, gone.few, goes.left);
  size = omega (arith, gone.size, goes.words);
  long = omega (arith, gone.long, goes.words);
  right = gone.right;
  leads = went-sum cpu (count - line.left) (line.left - new.left) (count - new.left) first (machine_at s memory links line)
      (omega (arith, gone.few, goes.left)) gone.leads ∙ goes.steps;
}

-- the same by other names
pub gone-is : (cpu count : ℕ) (known : List Known) (first : Machine) (s : State) (memory : Memory) (links : LinkSet) (line : Place)
    (new_s : State) (new_memory : Memory) (new_links : LinkSet) (new : Place) → Gone cpu count known first s memory links line →
    new_s ≡ s → new_memory ≡ memory → new_links ≡ links → new ≡ line → Gone cpu count known first new_s new_memory new_links new
gone-is cpu count known first s memory links line new_s new_memory new_links new gone is_state is_memory is_links is_line =
    subst (λ x. Gone cpu count known first x new_memory new_links new) (sym is_state)
    (subst (λ x. Gone cpu count known first s x new_links new) (sym is_memory)
    (subst (λ x. Gone cpu count known first s memory x new) (sym is_links)
    (subst (λ x. Gone cpu count known first s memory links x) (sym is_line) gone)))
