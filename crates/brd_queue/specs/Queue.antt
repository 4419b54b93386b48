-- Queues of tasks: who waits, in the order in which they are served, each with what it wants.
use Rattle.std.specs.Prelude.{◌≡◌, ◌<◌, ℕ, ◌==◌, nat_lt, Bool, true, false, ◌||◌, if◌then◌else◌, List, [], ◌∷◌, ◌++◌}
use Rattle.std.specs.Prelude.{Option, None, Some, find}
use Rattle.std.specs.Option.{option_map}
use Rattle.brd_queue.specs.declared.entry.QueueEntry.{QueueEntry}
use Rattle.brd_queue.specs.declared.entry.QueueOrder.{QueueOrder}
use Rattle.brd_queue.specs.declared.entry.QueueOrder.TheVariants.{Arrival, Priority}

-- an entry of a queue in which all want the same
abbrev pub Plain : Type 0
Plain = QueueEntry (Unit {0})

-- the task of this ID stands in a queue
abbrev pub has : {W : Type 0} → ℕ → List (QueueEntry W) → Bool
has id [] = false
has id (x ∷ xs) = (x.id == id) || has id xs

-- the priority with which a task stands in a queue
abbrev pub priority_in : {W : Type 0} → ℕ → List (QueueEntry W) → Option ℕ
priority_in id [] = None
priority_in id (x ∷ xs) = if x.id == id then Some x.priority else priority_in id xs

-- before the first of lower priority, which is a higher number: in a queue in the order of priority that is after its
-- equals
abbrev pub behind_equals : {W : Type 0} → QueueEntry W → List (QueueEntry W) → List (QueueEntry W)
behind_equals e [] = e ∷ []
behind_equals e (x ∷ xs) = if nat_lt e.priority x.priority then e ∷ x ∷ xs else x ∷ behind_equals e xs

-- a queue with one more entry: by arrival it is the last, by priority the last among its equals
abbrev pub entered : {W : Type 0} → QueueOrder → QueueEntry W → List (QueueEntry W) → List (QueueEntry W)
entered Arrival e xs = xs ++ e ∷ []
entered Priority e xs = behind_equals e xs

-- a queue without a task
abbrev pub without : {W : Type 0} → ℕ → List (QueueEntry W) → List (QueueEntry W)
without id [] = []
without id (x ∷ xs) = if x.id == id then without id xs else x ∷ without id xs

-- an entry takes its place; a task that stood in the queue leaves its old one
abbrev pub placed : {W : Type 0} → QueueOrder → QueueEntry W → List (QueueEntry W) → List (QueueEntry W)
placed order e xs = entered order e (without e.id xs)

abbrev pub moved_behind : {W : Type 0} → Option (QueueEntry W) → List (QueueEntry W) → List (QueueEntry W)
moved_behind None xs = xs
moved_behind (Some e) xs = placed Priority e xs

-- the first entry of a priority goes after its equals
abbrev pub rotated : {W : Type 0} → ℕ → List (QueueEntry W) → List (QueueEntry W)
rotated priority xs = moved_behind (find (λ x. x.priority == priority) xs) xs

abbrev pub with_priority : {W : Type 0} → ℕ → QueueEntry W → QueueEntry W
with_priority priority e = record e { priority = priority }

-- a queue in which a task has another priority, at the place where it stands
abbrev pub renumbered : {W : Type 0} → ℕ → ℕ → List (QueueEntry W) → List (QueueEntry W)
renumbered id priority [] = []
renumbered id priority (x ∷ xs) =
    if x.id == id then with_priority priority x ∷ renumbered id priority xs else x ∷ renumbered id priority xs

-- A task that stands in a queue is given a priority: by arrival it keeps its place, by priority it comes after its
-- equals, also where it has that priority already.
abbrev pub reordered : {W : Type 0} → QueueOrder → ℕ → ℕ → List (QueueEntry W) → List (QueueEntry W)
reordered Arrival id priority xs = renumbered id priority xs
reordered Priority id priority xs = moved_behind (option_map (with_priority priority) (find (λ x. x.id == id) xs)) xs

-- nobody stands in a queue
abbrev pub is_empty : {W : Type 0} → List (QueueEntry W) → Bool
is_empty [] = true
is_empty (x ∷ xs) = false

-- the first entry
abbrev pub first_of : {W : Type 0} → List (QueueEntry W) → Option (QueueEntry W)
first_of [] = None
first_of (x ∷ xs) = Some x

-- No task stands in it twice, and IDs are below 256.
abbrev pub AreApart : {W : Type 0} → List (QueueEntry W) → Type 0
AreApart [] = Unit {0}
AreApart (x ∷ xs) = (x.id < 256) × (has x.id xs ≡ false) × AreApart xs
