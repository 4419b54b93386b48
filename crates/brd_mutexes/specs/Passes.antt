-- How lifted priorities are found: by passes over the tasks that wait. (That they are those of the rule is proved of
-- `lift`; here they are a function, so that others can name them.)
use Rattle.std.specs.Prelude.{ℕ, zero, suc, ◌+◌, nat_lt, Bool, false, ◌||◌, if◌then◌else◌}
use Rattle.std.specs.Prelude.{List, [], ◌∷◌, slice_set, Option, None, Some}
use Rattle.std.specs.List.{sum}
use Rattle.brd_mutexes.specs.Lifting.{priority_at}

-- a task that waits has a higher priority than who holds what it waits for
abbrev pub is_higher : List ℕ → ℕ → ℕ → Bool
is_higher priorities id to = nat_lt (priority_at priorities id) (priority_at priorities to)

-- which then has the same
abbrev pub lifted_by : List ℕ → ℕ → ℕ → List ℕ
lifted_by priorities id to =
    if is_higher priorities id to then slice_set priorities to (priority_at priorities id) else priorities

-- the same of each task from an ID on, of which these are the holders

abbrev pub passed : ℕ → List (Option ℕ) → List ℕ → List ℕ
passed id [] priorities = priorities
passed id (None ∷ holders) priorities = passed (id + 1) holders priorities
passed id (Some to ∷ holders) priorities = passed (id + 1) holders (lifted_by priorities id to)

-- whether some holder has got another priority
abbrev pub lifts : ℕ → List (Option ℕ) → List ℕ → Bool
lifts id [] priorities = false
lifts id (None ∷ holders) priorities = lifts (id + 1) holders priorities
lifts id (Some to ∷ holders) priorities =
    is_higher priorities id to || lifts (id + 1) holders (lifted_by priorities id to)

-- after so many passes

unfoldable pub passed_times : ℕ → List (Option ℕ) → List ℕ → List ℕ
passed_times zero holders priorities = priorities
passed_times (suc count) holders priorities = passed_times count holders (passed 0 holders priorities)

-- The lifted priorities of tasks with these of their own: a pass that lifts somebody lowers the sum, so these are as
-- many passes as can lift anybody.
unfoldable pub lifted : List ℕ → List (Option ℕ) → List ℕ
lifted own holders = passed_times (sum own) holders own
