-- How the ready lists lie in rings: that of a priority on a processor has the number 256 * processor + priority. Only
-- the contracts of private functions name these.
use Rattle.std.specs.Prelude.{◌≡◌, ◌<◌, ℕ, zero, suc, ◌+◌, ◌*◌, List, [], ◌∷◌, ◌++◌, length, map}
use Rattle.std.specs.List.{range_with_len}
use Rattle.brd_queue.specs.Queue.{Plain}
use Rattle.brd_rings.specs.Rings.{ring_at}
use Rattle.brd_tasks.specs.Marks.{mark_at}

abbrev pub entry : ℕ → ℕ → Plain
entry priority id = record { id = id; priority = priority; wanted = tt }

-- the tasks of a ring
abbrev pub entries : ℕ → List ℕ → List Plain
entries priority [] = []
entries priority (x ∷ xs) = entry priority x ∷ entries priority xs

abbrev pub number_of : ℕ → ℕ → ℕ
number_of cpu priority = cpu * 256 + priority

-- the rings of a processor from a priority on, n of them
abbrev pub joined : List (List ℕ) → ℕ → ℕ → ℕ → List Plain
joined rings cpu priority zero = []
joined rings cpu priority (suc count) =
    entries priority (ring_at rings (number_of cpu priority)) ++ joined rings cpu (suc priority) count

-- the ready list of a processor: its rings, the highest priority first
unfoldable pub ready_of : List (List ℕ) → ℕ → List Plain
ready_of rings cpu = joined rings cpu 0 256

unfoldable pub lists_of : List (List ℕ) → List (List Plain)
lists_of rings = map (ready_of rings) (range_with_len 0 9)

-- 1 where anybody is in a ring
abbrev pub mark_of : List ℕ → ℕ
mark_of [] = 0
mark_of (x ∷ xs) = 1

-- What is always true: the marks tell which rings have a task.
pub record IsMarked (rings : List (List ℕ)) (marks : List ℕ) : Type 0 where
  pub count : length rings ≡ 2304
  pub long : length marks ≡ 36
  pub marked : (cpu priority : ℕ) → cpu < 9 → priority < 256 →
      mark_at marks cpu priority ≡ mark_of (ring_at rings (number_of cpu priority))
