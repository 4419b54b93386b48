-- The segments that are loaded, with one segment more.
use Rattle.std.proofs.Common.{◌≡◌, ℕ, ◌+◌, ltb, Bool, true, false, List, [], ◌∷◌, ◌++◌, length, refl, sym, ◌∙◌}
use Rattle.std.specs.Prelude.{◌||◌, ◌&&◌}
use Rattle.std.proofs.lemmas.List.Folds.{list_any-append}
use Rattle.brd_ranges.specs.declared.range.Range.{Range}
use Rattle.brd_ranges.specs.Ranges.{with_range}
use Rattle.brd_ranges.proofs.RangesLemmas.{overlaps-with_range}
use Rattle.brd_mem.specs.declared.image.Segment.{Segment}
use Rattle.brd_elf.specs.Segments.{lies_in}
use Rattle.brd_elf.specs.Loaded.{AreRangesOf}

pub lies_in-push : (segments : List Segment) (segment : Segment) (low high : ℕ)
    → lies_in (segments ++ segment ∷ []) low high ≡ (lies_in segments low high || ((ltb segment.address high && ltb low (segment.address + length segment.bytes)) || false))
lies_in-push segments segment low high =
    list_any-append (λ s. ltb s.address high && ltb low (s.address + length s.bytes)) segments (segment ∷ [])

either_way : (x y : Bool) → (x || y) ≡ (y || (x || false))
either_way true true = refl
either_way true false = refl
either_way false true = refl
either_way false false = refl

pub one_more : {T : Type 0} (ranges : List (Range T)) (segments : List Segment) (range : Range T) (segment : Segment) → AreRangesOf ranges segments
    → range.start ≡ segment.address → range.end ≡ segment.address + length segment.bytes → AreRangesOf (with_range ranges range) (segments ++ segment ∷ [])
one_more ranges segments range segment are start end = record {
  same = λ low high.
      overlaps-with_range ranges range low high
      ∙ rw (start, end, are.same low high) (either_way (ltb segment.address high && ltb low (segment.address + length segment.bytes)) (lies_in segments low high))
      ∙ sym (lies_in-push segments segment low high);
}
