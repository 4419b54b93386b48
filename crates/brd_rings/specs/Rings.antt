-- Rings of nodes. Nodes are numbers below 256, and a ring is the list of its nodes from the head on.
use Rattle.std.specs.Prelude.{◌≡◌, ◌<◌, ℕ, ◌==◌, Bool, true, false, ◌||◌, if◌then◌else◌, List, [], ◌∷◌, ◌++◌, Option}
use Rattle.std.specs.Prelude.{None, Some, slice_index_or}

-- the ring of a number
abbrev pub ring_at : List (List ℕ) → ℕ → List ℕ
ring_at rings ring = slice_index_or rings ring []

-- a node is in a ring
abbrev pub has : ℕ → List ℕ → Bool
has node [] = false
has node (x ∷ xs) = (x == node) || has node xs

-- a ring without a node
abbrev pub without : ℕ → List ℕ → List ℕ
without node [] = []
without node (x ∷ xs) = if x == node then without node xs else x ∷ without node xs

-- the head goes to the end
abbrev pub turned : List ℕ → List ℕ
turned [] = []
turned (x ∷ xs) = xs ++ x ∷ []

-- the first node
abbrev pub head_of : List ℕ → Option ℕ
head_of [] = None
head_of (x ∷ xs) = Some x

-- No node stands in it twice, and nodes are below 256.
abbrev pub AreApart : List ℕ → Type 0
AreApart [] = Unit {0}
AreApart (x ∷ xs) = (x < 256) × (has x xs ≡ false) × AreApart xs

-- no node stands in two places
pub record IsApart (rings : List (List ℕ)) : Type 0 where
  pub each : (ring : ℕ) → AreApart (ring_at rings ring)
  pub alone : (node ring other : ℕ) → has node (ring_at rings ring) ≡ true → has node (ring_at rings other) ≡ true →
      ring ≡ other
