-- What comes before what in a list of deeds (happens-before: Lamport, "Time, Clocks, and the Ordering of Events in a
-- Distributed System").
use Rattle.std.specs.Prelude.{◌≡◌, ◌⊎◌, ◌<◌, ◌≤◌, ℕ, List, Some}
use Rattle.std.specs.List.{slice_get}
use Rattle.brd_order.specs.declared.deed.{Act.Act, Deed.Deed}
use Rattle.brd_order.specs.declared.deed.Act.TheVariants.{Touches, Acquires, Releases, Hears, Heeds}

-- the one releases into what the other acquires from
abbrev pub Hands : Act → Act → Type 0
Hands (Releases x) (Acquires y) = x ≡ y
Hands (Releases x) (Touches touch) = ⊥
Hands (Releases x) (Releases y) = ⊥
Hands (Releases x) (Hears y) = ⊥
Hands (Releases x) Heeds = ⊥
Hands (Touches touch) other = ⊥
Hands (Acquires x) other = ⊥
Hands (Hears x) other = ⊥
Hands Heeds other = ⊥

-- of what a strand hears before a place of a list, a thing is the last, at an earlier place
pub record LastHeard (deeds : List Deed) (strand before thing at : ℕ) : Type 0 where
  pub deed : Deed
  pub is : slice_get deeds at ≡ Some deed
  pub own : deed.strand ≡ strand
  pub hears : deed.act ≡ Hears thing
  pub earlier : at < before
  pub last : (k x : ℕ) (other : Deed) → slice_get deeds k ≡ Some other → other.strand ≡ strand → other.act ≡ Hears x →
      k < before → k ≤ at

-- a deed at a place releases into the thing that a strand hears last before another place, and does so before that
pub record Heard (deeds : List Deed) (strand before i : ℕ) (deed : Deed) : Type 0 where
  pub thing : ℕ
  pub at : ℕ
  pub releases : deed.act ≡ Releases thing
  pub heard : LastHeard deeds strand before thing at
  pub in_time : i < at

-- Two deeds at places of a list, of which the one was done before the other, are ordered if the same strand did both,
-- or the one releases into what the other acquires from, or the other heeds what its strand heard of the one.
abbrev pub Orders : List Deed → ℕ → ℕ → Deed → Deed → Type 0
Orders deeds i j one other =
    (one.strand ≡ other.strand)
    ⊎ (Hands one.act other.act ⊎ ((other.act ≡ Heeds) × Heard deeds other.strand j i one))

-- an earlier deed of a list and a later one that are ordered
pub record Step (deeds : List Deed) (i j : ℕ) : Type 0 where
  pub one : Deed
  pub other : Deed
  pub first : slice_get deeds i ≡ Some one
  pub second : slice_get deeds j ≡ Some other
  pub earlier : i < j
  pub orders : Orders deeds i j one other

-- A deed of a list leads to itself, and to whatever a step leads to from where it leads: the least order with all
-- steps.
pub data Leads (deeds : List Deed) (i : ℕ) : ℕ → Type 0 where
  here : Leads deeds i i
  on : (k j : ℕ) → Leads deeds i k → Step deeds k j → Leads deeds i j
