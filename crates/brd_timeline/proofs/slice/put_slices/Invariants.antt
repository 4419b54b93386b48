-- What is there, with the slices that are left, is what there was, and all of them.
use Rattle.std.proofs.Common.{◌≡◌, ◌++◌, drop}
use Rattle.std.specs.List.{flat_map}
use Rattle.brd_timeline.specs.Bars.{slice_text}
use Rattle.brd_timeline.proofs.slice.put_slices.Given as goal

abbrev pub invariant-loop-slice : goal.invariant-loop-slice
invariant-loop-slice l =
    l.to.items ++ flat_map (slice_text l.timeline) (drop l.slice-index l.timeline.slices.items)
    ≡ l.fn.to.items ++ flat_map (slice_text l.timeline) l.timeline.slices.items
