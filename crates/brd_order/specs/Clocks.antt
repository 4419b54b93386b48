-- What clocks know (Mattern, "Virtual Time and Global States of Distributed Systems"): for each strand a number, below
-- which all its deeds lead to one of certain deeds, and from which on none does.
use Rattle.std.specs.Prelude.{◌≡◌, ◌⊎◌, ◌<◌, ◌≤◌, ℕ, List, length, Some}
use Rattle.std.specs.List.{slice_get, slice_index}
use Rattle.brd_order.specs.declared.deed.{Deed.Deed}
use Rattle.brd_order.specs.declared.deed.Act.TheVariants.{Releases}
use Rattle.brd_order.specs.Order.{Leads}

-- the deed at a place of a list leads to one of those
pub record LeadsToOne (deeds : List Deed) (those : ℕ → Deed → Type 0) (i : ℕ) : Type 0 where
  pub k : ℕ
  pub deed : Deed
  pub is : slice_get deeds k ≡ Some deed
  pub that : those k deed
  pub leads : Leads deeds i k

-- a clock, which has a count for each strand, knows which deeds of a list lead to one of those
pub record Knows (deeds : List Deed) (those : ℕ → Deed → Type 0) (counts : ℕ → ℕ) : Type 0 where
  pub below : (i : ℕ) (deed : Deed) → slice_get deeds i ≡ Some deed → i < counts deed.strand → LeadsToOne deeds those i
  pub all : (i : ℕ) (deed : Deed) → slice_get deeds i ≡ Some deed → LeadsToOne deeds those i → i < counts deed.strand
  pub within : (strand : ℕ) → counts strand ≤ length deeds

abbrev pub Did : ℕ → ℕ → Deed → Type 0
Did strand k deed = deed.strand ≡ strand

abbrev pub Released : ℕ → ℕ → Deed → Type 0
Released thing k deed = deed.act ≡ Releases thing

-- the greater one of two counts
pub record IsGreater (one other count : ℕ) : Type 0 where
  pub first : one ≤ count
  pub second : other ≤ count
  pub least : (count ≡ one) ⊎ (count ≡ other)

-- a clock that knows what either of two knows
abbrev pub Joins : (ℕ → ℕ) → (ℕ → ℕ) → (ℕ → ℕ) → Type 0
Joins one other both = (strand : ℕ) → IsGreater (one strand) (other strand) (both strand)

-- a clock with another count for one strand
pub record Puts (strand count : ℕ) (old new : ℕ → ℕ) : Type 0 where
  pub there : new strand ≡ count
  pub elsewhere : (other : ℕ) → (other ≡ strand → ⊥) → new other ≡ old other

-- a strand's count in a clock that is kept as a list, 0 past its end
abbrev pub count_in : List ℕ → ℕ → ℕ
count_in counts strand = slice_index counts strand
