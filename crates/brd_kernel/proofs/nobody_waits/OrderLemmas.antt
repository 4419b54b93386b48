-- Waiters that are in their order stay so when one of them comes, leaves, or is given a priority.
use Rattle.std.proofs.Common.{◌≤◌, ℕ, List, [], ◌∷◌}
use Rattle.std.specs.Prelude.{Bool, ◌==◌, find}
use Rattle.std.specs.List.{AllByRecursion}
use Rattle.std.specs.Option.{option_map}
use Rattle.brd_queue.specs.declared.entry.QueueEntry.{QueueEntry}
use Rattle.brd_queue.specs.declared.entry.QueueOrder.{QueueOrder}
use Rattle.brd_queue.specs.declared.entry.QueueOrder.TheVariants.{Arrival, Priority}
use Rattle.brd_queue.specs.Queue.{without, placed, reordered, with_priority}
use Rattle.brd_queue.specs.Rule.{IsByPriority}
use Rattle.brd_queue.proofs.PriorityLemmas.{ordered-moved_behind}
use Rattle.brd_queue.proofs.RuleLemmas.{ordered-without, ordered-behind_equals}
use Rattle.brd_objects.specs.declared.want.Want.{Want}
use Rattle.brd_objects.specs.Waiters.{satisfies}
use Rattle.brd_objects.specs.Flags.{kept_of}
use Rattle.brd_kernel.specs.Waiting.{AreInOrder}
use Rattle.brd_kernel.proofs.who_waits.ListLemmas.{either}

pub in-placed : {W : Type 0} → (order : QueueOrder) (e : QueueEntry W) (xs : List (QueueEntry W)) → AreInOrder order xs → AreInOrder order (placed order e xs)
in-placed Arrival e xs was = tt
in-placed Priority e xs was = ordered-behind_equals e (without e.id xs) (ordered-without e.id xs was)

pub in-without : {W : Type 0} → (order : QueueOrder) (id : ℕ) (xs : List (QueueEntry W)) → AreInOrder order xs → AreInOrder order (without id xs)
in-without Arrival id xs was = tt
in-without Priority id xs was = ordered-without id xs was

pub in-reordered : {W : Type 0} → (order : QueueOrder) (id priority : ℕ) (xs : List (QueueEntry W)) → AreInOrder order xs →
    AreInOrder order (reordered order id priority xs)
in-reordered Arrival id priority xs was = tt
in-reordered Priority id priority xs was = ordered-moved_behind (option_map (with_priority priority) (find (λ x. x.id == id) xs)) xs was

-- the first has left
pub in-others : {W : Type 0} → (order : QueueOrder) (x : QueueEntry W) (xs : List (QueueEntry W)) → AreInOrder order (x ∷ xs) → AreInOrder order xs
in-others Arrival x xs was = tt
in-others Priority x xs was = was.1

-- those whom a flag keeps when it releases

abbrev AllFrom : ℕ → List (QueueEntry Want) → Type 0
AllFrom n xs = AllByRecursion (λ other. n ≤ other.priority) xs

all-kept : (n : ℕ) (clears : Bool) (pattern : ℕ) (xs : List (QueueEntry Want)) → AllFrom n xs → AllFrom n (kept_of clears pattern xs)
all-kept n clears pattern [] all = tt
all-kept n clears pattern (x ∷ xs) all =
    let rest = all-kept n clears pattern xs all.1 in
    either (AllFrom n) (satisfies pattern x.wanted) _ _ (either (AllFrom n) clears _ _ all.1 rest) (all.0, rest)

by-priority-kept : (clears : Bool) (pattern : ℕ) (xs : List (QueueEntry Want)) → IsByPriority xs → IsByPriority (kept_of clears pattern xs)
by-priority-kept clears pattern [] was = tt
by-priority-kept clears pattern (x ∷ xs) was =
    let rest = by-priority-kept clears pattern xs was.1 in
    either (λ (ys : List (QueueEntry Want)). IsByPriority ys) (satisfies pattern x.wanted) _ _
    (either (λ (ys : List (QueueEntry Want)). IsByPriority ys) clears _ _ was.1 rest)
    (all-kept x.priority clears pattern xs was.0, rest)

pub in-kept : (order : QueueOrder) (clears : Bool) (pattern : ℕ) (xs : List (QueueEntry Want)) → AreInOrder order xs → AreInOrder order (kept_of clears pattern xs)
in-kept Arrival clears pattern xs was = tt
in-kept Priority clears pattern xs was = by-priority-kept clears pattern xs was
