-- The priorities of tasks of which some hold what others wait for (uITRON 4.0 specification, "Mutexes", the strict
-- rule): each task has the highest of its own priority and of those of the tasks that wait for what it holds, and these
-- have theirs by the same rule. A priority is a number, of which a lower one is higher; by the task's ID.
use Rattle.std.specs.Prelude.{◌≡◌, ◌≤◌, ℕ, List, length, slice_index_or, Option, None, Some}

-- the priority of a task
abbrev pub priority_at : List ℕ → ℕ → ℕ
priority_at priorities id = slice_index_or priorities id 0

-- who holds what a task waits for, if it waits for what somebody holds
abbrev pub holder_of : List (Option ℕ) → ℕ → Option ℕ
holder_of holders id = slice_index_or holders id None

-- A task leads to itself, and where it leads to one that waits, to who holds what that one waits for. Holders may wait
-- in a circle.
pub data Leads (holders : List (Option ℕ)) (id : ℕ) : ℕ → Type 0 where
  itself : Leads holders id id
  onward : (from to : ℕ) → Leads holders id from → holder_of holders from ≡ Some to → Leads holders id to

-- a task that leads to another one, and has this priority of its own
pub record IsOf (own : List ℕ) (holders : List (Option ℕ)) (id priority : ℕ) : Type 0 where
  pub from : ℕ
  pub leads : Leads holders from id
  pub same : priority ≡ priority_at own from

-- No task has a lower priority than its own, and each has the own priority of one that leads to it.
pub record AreFounded (own : List ℕ) (holders : List (Option ℕ)) (lifted : List ℕ) : Type 0 where
  pub long : length lifted ≡ length own
  pub none_lower : (id : ℕ) → priority_at lifted id ≤ priority_at own id
  pub founded : (id : ℕ) → IsOf own holders id (priority_at lifted id)

-- who holds what a task waits for has no lower priority than that task
abbrev pub AreHigh : List (Option ℕ) → List ℕ → Type 0
AreHigh holders lifted = (id to : ℕ) → holder_of holders id ≡ Some to → priority_at lifted to ≤ priority_at lifted id

-- the priorities by the rule, of tasks with these of their own
pub record AreLifted (own : List ℕ) (holders : List (Option ℕ)) (lifted : List ℕ) : Type 0 where
  pub founded : AreFounded own holders lifted
  pub high : AreHigh holders lifted
