-- Only private contracts name this: where in the output the bytes of each piece lie, in the order of the source each
-- after those of the pieces before it, and the ranges by which they are found.
use Rattle.std.specs.Prelude.{◌≡◌, ℕ, ◌+◌, ◌-◌, ◌≤◌, Bool, ◌&&◌, nat_le, nat_lt, if◌then◌else◌, List, [], ◌∷◌}
use Rattle.std.specs.Prelude.{slice_get, Option, None, Some, option_map, option_and_then}
use Rattle.std.specs.List.{AllByRecursion}
use Rattle.brd_ranges.specs.declared.range.Range.{Range}
use Rattle.brd_ranges.specs.Ranges as ranges
use Rattle.brd_asm.specs.Layout.{Piece, size_of, overlaps}

abbrev pub total_size : List Piece → ℕ
total_size [] = 0
total_size (p ∷ ps) = size_of p.content + total_size ps

abbrev pub covers : Piece → ℕ → Bool
covers p a = nat_le p.place a && nat_lt a (p.place + size_of p.content)

-- where in the output the byte at an address lies, if a piece has one there
abbrev pub offset_at : List Piece → ℕ → Option ℕ
offset_at [] a = None
offset_at (p ∷ ps) a =
    if covers p a then Some (a - p.place) else option_map (λ k. size_of p.content + k) (offset_at ps a)

-- the byte at an address, by the output
abbrev pub byte_at : List ℕ → List Piece → ℕ → Option ℕ
byte_at output pieces a = option_and_then (slice_get output) (offset_at pieces a)

-- the same by ranges, each with the place of its first byte in the output
abbrev pub offset_in : List (Range ℕ) → ℕ → Option ℕ
offset_in all a = option_map (λ range. range.item + (a - range.start)) (ranges.range_at all a)

-- Ranges lie where pieces do, and say where in the output their bytes are.
pub record AreRangesOf (all : List (Range ℕ)) (pieces : List Piece) : Type 0 where
  pub size : ranges.total_size all ≡ total_size pieces
  pub overlap : (low high : ℕ) → ranges.overlaps all low high ≡ overlaps pieces low high
  pub offset : (a : ℕ) → offset_in all a ≡ offset_at pieces a
  pub within : AllByRecursion (λ range. range.item + (range.end - range.start) ≤ total_size pieces) all
