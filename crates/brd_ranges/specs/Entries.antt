-- How the code keeps ranges: by its first address, where each ends and its item.
-- Only the type's view and invariant name this.
use Rattle.std.specs.Prelude.{◌≡◌, ℕ, ◌-◌, ◌^◌, List, [], ◌∷◌}
use Rattle.brd_ranges.specs.declared.range.Range.{Range}
use Rattle.brd_ranges.specs.Ranges.{total_size, AreApart}

abbrev pub ranges_of : {T : Type 0} → List (ℕ × (ℕ × T)) → List (Range T)
ranges_of [] = []
ranges_of (entry ∷ entries) = record { start = entry.0; end = entry.1.0; item = entry.1.1 } ∷ ranges_of entries

pub record AreEntries {T : Type 0} (size : ℕ) (entries : List (ℕ × (ℕ × T))) : Type 0 where
  pub size_is : size ≡ total_size (ranges_of entries)
  pub apart : AreApart 0 (2 ^ 32 - 1) (ranges_of entries)
