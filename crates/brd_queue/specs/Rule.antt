-- The rule by which a queue in the order of priority serves: higher priority, which is a lower number, before lower,
-- and of equal priority whoever came earlier.
use Rattle.std.specs.Prelude.{◌≡◌, ◌<◌, ◌≤◌, List, [], ◌∷◌, ◌++◌}
use Rattle.std.specs.List.{AllByRecursion}
use Rattle.brd_queue.specs.declared.entry.QueueEntry.{QueueEntry}

-- no entry stands before one of higher priority
abbrev pub IsByPriority : {W : Type 0} → List (QueueEntry W) → Type 0
IsByPriority [] = Unit {0}
IsByPriority (x ∷ xs) = AllByRecursion (λ other. x.priority ≤ other.priority) xs × IsByPriority xs

-- An entry came to a queue: the others stand as they stood, all that have its priority or a higher one before it, the
-- rest after it.
pub record Enters {W : Type 0} (e : QueueEntry W) (old new : List (QueueEntry W)) : Type 0 where
  pub before : List (QueueEntry W)
  pub behind : List (QueueEntry W)
  pub was : old ≡ before ++ behind
  pub is : new ≡ before ++ e ∷ behind
  pub not_below : AllByRecursion (λ other. other.priority ≤ e.priority) before
  pub below : AllByRecursion (λ other. e.priority < other.priority) behind
