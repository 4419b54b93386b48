-- How rings lie in their heads and links. Only the contracts of private functions name these.
use Rattle.std.specs.Prelude.{◌≡◌, ◌<◌, ℕ, zero, suc, ◌==◌, true, false, if◌then◌else◌, List, [], ◌∷◌, length, map}
use Rattle.std.specs.Prelude.{slice_index_or, slice_set}
use Rattle.brd_rings.specs.declared.link.Link.{Link}
use Rattle.brd_rings.specs.declared.link.Ring.{Ring}
use Rattle.brd_rings.specs.declared.link.Ring.TheVariants.{Empty, From}
use Rattle.brd_rings.specs.Rings.{ring_at, has, IsApart}

-- the link of a node that is in no ring
abbrev pub loose : Link
loose = record { next = 0; previous = 0 }

abbrev pub next_at : List Link → ℕ → ℕ
next_at links node = (slice_index_or links node loose).next

abbrev pub previous_at : List Link → ℕ → ℕ
previous_at links node = (slice_index_or links node loose).previous

-- One step of a change.

abbrev pub with_next : ℕ → ℕ → List Link → List Link
with_next node next links = slice_set links node (record { next = next; previous = previous_at links node })

abbrev pub with_previous : ℕ → ℕ → List Link → List Link
with_previous node previous links = slice_set links node (record { next = next_at links node; previous = previous })

-- the links with a node before another
abbrev pub linked_before : ℕ → ℕ → List Link → List Link
linked_before head node links =
    slice_set (with_previous head node (with_next (previous_at links head) node links)) node
    (record { next = head; previous = previous_at links head })

-- the links without a node, whose neighbours are linked to each other
abbrev pub unlinked : ℕ → List Link → List Link
unlinked node links =
    slice_set
    (with_previous (next_at links node) (previous_at links node)
    (with_next (previous_at links node) (next_at links node) links)) node loose

-- the head of a ring without a node
abbrev pub head_after : Ring → ℕ → ℕ → Ring
head_after Empty node next = Empty
head_after (From head) node next = if head == node then (if next == node then Empty else From next) else From head

-- the nodes by following the links from one until they come back to the head, as many as there may be at most
abbrev pub followed : List Link → ℕ → ℕ → ℕ → List ℕ
followed links head zero node = []
followed links head (suc most) node =
    node ∷ (if next_at links node == head then [] else followed links head most (next_at links node))

-- the nodes of a ring
unfoldable pub ring_of : List Link → Ring → List ℕ
ring_of links Empty = []
ring_of links (From head) = followed links head 256 head

abbrev pub rings_of : List Ring → List Link → List (List ℕ)
rings_of heads links = map (ring_of links) heads

-- What is always true.

-- one node comes after another, and knows it
abbrev pub IsNext : List Link → ℕ → ℕ → Type 0
IsNext links x y = (next_at links x ≡ y) × (previous_at links y ≡ x)

-- the links lead from a node through these to another
abbrev pub Passes : List Link → ℕ → List ℕ → ℕ → Type 0
Passes links x [] y = IsNext links x y
Passes links x (z ∷ zs) y = IsNext links x z × Passes links z zs y

-- the links lead from the head through the others back to it
abbrev pub IsRound : List Link → List ℕ → Type 0
IsRound links [] = Unit {0}
IsRound links (x ∷ xs) = Passes links x xs x

-- a ring as it is stored, of its list
abbrev pub stored : List ℕ → Ring
stored [] = Empty
stored (x ∷ xs) = From x

-- Following the links from each head gives the ring, once and in order, and back. Who is in no ring is linked to
-- nobody.
pub record IsLinked (heads : List Ring) (links : List Link) (rings : List (List ℕ)) : Type 0 where
  pub long : length links ≡ 256
  pub headed : (ring : ℕ) → slice_index_or heads ring Empty ≡ stored (ring_at rings ring)
  pub round : (ring : ℕ) → IsRound links (ring_at rings ring)
  pub apart : IsApart rings
  pub free : (node : ℕ) → ((ring : ℕ) → has node (ring_at rings ring) ≡ false) →
      (next_at links node ≡ 0) × (previous_at links node ≡ 0)
