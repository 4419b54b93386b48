-- The same events fail still. Where there are no fewer switches, nothing was moved, and no turn so far can be.
use Rattle.std.proofs.Common.{◌≡◌, ◌≤◌, ◌+◌, ◌-◌, length}
use Rattle.std.specs.Prelude.{true}
use Rattle.std.specs.List.Sorted.{IsPermutation}
use Rattle.brd_explore.specs.Shrinking.{is_failing}
use Rattle.brd_shrink.specs.Turns.{switches}
use Rattle.brd_shrink.proofs.SettledLemmas.{IsSettledBelow}
use Rattle.brd_shrink.proofs.settling.move_turns.Given as goal

abbrev pub invariant-loop-from : goal.invariant-loop-from
invariant-loop-from l = record {
  fails : is_failing l.wanted l.board l.events.items ≡ true;
  permutes : IsPermutation l.fn.events.items l.events.items;
  fewer : switches l.events.items ≤ switches l.fn.events.items;
  same : switches l.events.items ≡ switches l.fn.events.items →
      (l.events.items ≡ l.fn.events.items) × IsSettledBelow l.wanted l.board l.events.items l.from;
}

abbrev pub decreases-loop-from : goal.decreases-loop-from
decreases-loop-from l = switches l.events.items + (length l.events.items - l.from)
