-- Which touches are kept: of each strand and each kind of touch the last one, by the word.
use Rattle.std.specs.Prelude.{◌≡◌, ◌⊎◌, ◌≤◌, ℕ, List, Option, Some, true, IfSome}
use Rattle.brd_order.specs.declared.deed.{Deed.Deed, Mark.Mark}
use Rattle.brd_order.specs.Races.{IsOf, IsIn, meets}

-- touches of the same kind by the same strand
pub record AreLike (one other : Mark) : Type 0 where
  pub strand : one.strand ≡ other.strand
  pub touch : one.touch ≡ other.touch

-- Marks of a list of deeds, by the word: each is of a deed of the list, and of each touch there is a like one that is
-- no earlier.
pub record AreMarks (deeds : List Deed) (marks : ℕ → List Mark) : Type 0 where
  pub those : (word : ℕ) (m : Mark) → IsIn m (marks word) → IsOf deeds m
  pub each : (m : Mark) → IsOf deeds m →
      (last : Mark) × IsIn last (marks m.touch.word) × AreLike last m × (m.at ≤ last.at)

-- a mark came in place of one that is like it, if there was one
pub record ComesIn (new : Mark) (old marks : ℕ → List Mark) : Type 0 where
  pub those : (word : ℕ) (m : Mark) → IsIn m (marks word) → IsIn m (old word) ⊎ (m ≡ new)
  pub kept : (word : ℕ) (m : Mark) → IsIn m (old word) → IsIn m (marks word) ⊎ AreLike m new
  pub there : IsIn new (marks new.touch.word)

-- the same in a list
pub record Replaces (new : Mark) (old marks : List Mark) : Type 0 where
  pub those : (m : Mark) → IsIn m marks → IsIn m old ⊎ (m ≡ new)
  pub kept : (m : Mark) → IsIn m old → IsIn m marks ⊎ AreLike m new
  pub there : IsIn new marks

-- a mark that meets a new one, and isn't known to the clock of its strand
pub record IsUnknown (counts : ℕ → ℕ) (new m : Mark) : Type 0 where
  pub meet : meets m.touch new.touch ≡ true
  pub unknown : counts m.strand ≤ m.at

-- of marks the last one that meets a new one and isn't known, if there is one
pub record IsLast (counts : ℕ → ℕ) (new : Mark) (marks : List Mark) (found : Option Mark) : Type 0 where
  pub unknown : IfSome found (λ m. IsIn m marks × IsUnknown counts new m)
  pub last : (m : Mark) → IsIn m marks → IsUnknown counts new m → (best : Mark) × (found ≡ Some best) × (m.at ≤ best.at)

-- what was found, or a mark in its place that meets a new one, isn't known and is no earlier
abbrev pub TakesLater : (ℕ → ℕ) → Mark → Mark → Option Mark → Option Mark → Type 0
TakesLater counts new m old found =
    (IsUnknown counts new m × IfSome old (λ best. best.at ≤ m.at) × (found ≡ Some m))
    ⊎ ((IsUnknown counts new m → (best : Mark) × (old ≡ Some best) × (m.at ≤ best.at)) × (found ≡ old))
