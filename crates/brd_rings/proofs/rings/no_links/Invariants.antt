use Rattle.std.proofs.Common.{◌≡◌, replicate}
use Rattle.brd_rings.specs.Layout.{loose}
use Rattle.brd_rings.proofs.rings.no_links.Given as goal

abbrev pub invariant-loop : goal.invariant-loop
invariant-loop l = l.links.items ≡ replicate l.counter loose
