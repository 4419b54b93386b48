-- How the code keeps the tick at which a wait ends (its contracts speak of `Time` alone): a number stands for a wait
-- without an end.
use Rattle.std.specs.Prelude.{◌≤◌, ◌<◌, ℕ, ◌-◌, ◌^◌, ◌==◌, if◌then◌else◌, List, length, slice_index_or, Option, None}
use Rattle.std.specs.Prelude.{Some}

abbrev pub never : ℕ
never = 2 ^ 64 - 1

abbrev pub due_in : ℕ → Option ℕ
due_in due = if due == never then None else Some due

-- none of these ticks comes before that one
abbrev pub AreNotBefore : ℕ → List ℕ → Type 0
AreNotBefore tick dues = (id : ℕ) → id < length dues → tick ≤ slice_index_or dues id 0
