-- What the scans look for, and which place is the answer.
use Rattle.std.specs.Prelude.{ℕ, ◌+◌, ◌<◌, ◌≤◌, Bool, not, ◌&&◌, ◌==◌, if◌then◌else◌, IsTrue, IsFalse, nat_le, nat_lt}
use Rattle.std.specs.Prelude.{bit_and, Option, Some, None, List, slice_index}

-- the test fails at each index from `start` on and below `end`
abbrev pub NoneBetween : (ℕ → Bool) → ℕ → ℕ → Type 0
NoneBetween test start end = (k : ℕ) → start ≤ k → k < end → IsFalse (test k)

-- the least index from `start` on and below `end` at which the test holds
pub record IsLeastAt (test : ℕ → Bool) (start end i : ℕ) : Type 0 where
  pub started : start ≤ i
  pub within : i < end
  pub holds : IsTrue (test i)
  pub none_before : NoneBetween test start i

-- the answer is that index, and `None` exactly where there is none
abbrev pub IsLeast : (ℕ → Bool) → ℕ → ℕ → Option ℕ → Type 0
IsLeast test start end None = NoneBetween test start end
IsLeast test start end (Some i) = IsLeastAt test start end i

-- whether `current` satisfies a wait for the bits of `wanted`: all of them in mode 0, AND, and one of them in any
-- other, OR
unfoldable pub is_satisfied : ℕ → ℕ → ℕ → Bool
is_satisfied current mode wanted =
    if mode == 0 then bit_and current wanted == wanted else not (bit_and current wanted == 0)

-- whether `current` satisfies the wait at place i
abbrev pub is_satisfied_at : List ℕ → List ℕ → ℕ → ℕ → Bool
is_satisfied_at patterns modes current i =
    is_satisfied current (slice_index modes i) (slice_index patterns i)

-- whether the tick at place i has come
abbrev pub is_due_at : List ℕ → ℕ → ℕ → Bool
is_due_at dues now i = nat_le (slice_index dues i) now

-- whether the address at place i is this one
abbrev pub is_address_at : List ℕ → ℕ → ℕ → Bool
is_address_at addresses address i = slice_index addresses i == address

-- whether this address lies in the 16 bytes from `block` on
abbrev pub is_in_block : ℕ → ℕ → Bool
is_in_block block address = nat_le block address && nat_lt address (block + 16)

-- whether bit j goes: its address lies in the block, and it isn't `except`
abbrev pub is_broken_at : List ℕ → ℕ → ℕ → ℕ → Bool
is_broken_at addresses block except j =
    is_in_block block (slice_index addresses j) && not (j == except)
