-- Only private contracts name this: ranges by which it is seen at once whether one more segment overlaps another.
use Rattle.std.specs.Prelude.{◌≡◌, ℕ, List}
use Rattle.brd_ranges.specs.declared.range.Range.{Range}
use Rattle.brd_ranges.specs.Ranges.{overlaps}
use Rattle.brd_mem.specs.declared.image.Segment.{Segment}
use Rattle.brd_elf.specs.Segments.{lies_in}

-- ranges lie wherever segments do
pub record AreRangesOf {T : Type 0} (ranges : List (Range T)) (segments : List Segment) : Type 0 where
  pub same : (low high : ℕ) → overlaps ranges low high ≡ lies_in segments low high
