-- Some of the events, of which none can be left out, with no more switches.
use Rattle.std.proofs.Common.{◌≡◌, ◌≤◌}
use Rattle.std.specs.Prelude.{true}
use Rattle.brd_explore.specs.Shrinking.{is_failing, IsLeast}
use Rattle.brd_shrink.specs.Turns.{switches}
use Rattle.brd_shrink.specs.Settled.{AreSome}
use Rattle.brd_shrink.proofs.settling.shrink.Given as goal

abbrev pub invariant-loop-left : goal.invariant-loop-left
invariant-loop-left l = record {
  fails : is_failing l.wanted l.board l.left.items ≡ true;
  some : AreSome l.left.items l.events;
  least : IsLeast l.wanted l.board l.left.items;
  fewer : switches l.left.items ≤ switches l.events;
}

abbrev pub decreases-loop-left : goal.decreases-loop-left
decreases-loop-left l = switches l.left.items
