-- Time: how many ticks have passed, and at which tick the wait of each task ends, where it has an end.
use Rattle.std.specs.Prelude.{ℕ, ◌+◌, ◌-◌, ◌^◌, nat_le, nat_lt, Bool, false, if◌then◌else◌, List, filter, find}
use Rattle.std.specs.Prelude.{replicate, slice_index_or, slice_set, Option, None, Some}
use Rattle.std.specs.List.{range_with_len}

pub record Time : Type 0 where
  pub count : ℕ  -- the ticks so far
  pub dues : List (Option ℕ)  -- by the task's ID, 256 of them: the tick at which its wait ends

-- before the first tick: nobody waits for a time
unfoldable pub beginning : Time
beginning = record { count = 0; dues = replicate 256 None }

-- the tick at which the wait of a task ends
abbrev pub due_of : Time → ℕ → Option ℕ
due_of t id = slice_index_or t.dues id None

-- a task waits until a tick, or without an end
abbrev pub with_due : Time → ℕ → Option ℕ → Time
with_due t id due = record t { dues = slice_set t.dues id due }

-- the last tick that is counted (own choice)
abbrev pub last_count : ℕ
last_count = 2 ^ 63 - 1

-- a tick passes, unless the last one has been counted
abbrev pub advanced : Time → Time
advanced t = if nat_lt t.count last_count then record t { count = t.count + 1 } else t

abbrev pub has_come : ℕ → Option ℕ → Bool
has_come count None = false
has_come count (Some due) = nat_le due count

-- the wait of a task ends: its tick has come
abbrev pub is_due : Time → ℕ → Bool
is_due t id = has_come t.count (due_of t id)

-- the tasks from an ID on whose waits end, by ascending ID
unfoldable pub due_from : Time → ℕ → List ℕ
due_from t id = filter (is_due t) (range_with_len id (256 - id))

-- the first of them
unfoldable pub next_due_of : Time → ℕ → Option ℕ
next_due_of t id = find (is_due t) (range_with_len id (256 - id))
