-- Ranges of addresses, by ascending address.
use Rattle.std.specs.Prelude.{ℕ, ◌+◌, ◌-◌, ◌<◌, ◌≤◌, Bool, ◌&&◌, nat_lt, nat_le, if◌then◌else◌, List, [], ◌∷◌, Option}
use Rattle.std.specs.Prelude.{find}
use Rattle.std.specs.List.{list_any}
use Rattle.brd_ranges.specs.declared.range.Range.{Range}

-- some range begins below high and ends above low: it has an address from low up to, not including, high
abbrev pub overlaps : {T : Type 0} → List (Range T) → ℕ → ℕ → Bool
overlaps ranges low high = list_any (λ range. nat_lt range.start high && nat_lt low range.end) ranges

-- these ranges and a new one, which stands before the first that begins after it
abbrev pub with_range : {T : Type 0} → List (Range T) → Range T → List (Range T)
with_range [] new = new ∷ []
with_range (range ∷ ranges) new =
    if nat_lt new.start range.start then new ∷ range ∷ ranges else range ∷ with_range ranges new

-- how many addresses they have together
abbrev pub total_size : {T : Type 0} → List (Range T) → ℕ
total_size [] = 0
total_size (range ∷ ranges) = (range.end - range.start) + total_size ranges

-- an address lies in a range
abbrev pub covers : {T : Type 0} → Range T → ℕ → Bool
covers range address = nat_le range.start address && nat_lt address range.end

-- the range that an address lies in
abbrev pub range_at : {T : Type 0} → List (Range T) → ℕ → Option (Range T)
range_at ranges address = find (λ range. covers range address) ranges

-- From low up to high, ranges of at least one address each ascend, none over another.
abbrev pub AreApart : {T : Type 0} → ℕ → ℕ → List (Range T) → Type 0
AreApart low high [] = low ≤ high
AreApart low high (range ∷ ranges) = (low ≤ range.start) × (range.start < range.end) × AreApart range.end high ranges
