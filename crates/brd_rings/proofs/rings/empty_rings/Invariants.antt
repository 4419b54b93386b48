use Rattle.std.proofs.Common.{◌≡◌, replicate}
use Rattle.brd_rings.specs.declared.link.Ring.TheVariants.{Empty}
use Rattle.brd_rings.proofs.rings.empty_rings.Given as goal

abbrev pub invariant-loop : goal.invariant-loop
invariant-loop l = l.heads.items ≡ replicate l.counter Empty
