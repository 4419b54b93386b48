-- What the rows that are left have for the name is what all have.
use Rattle.std.proofs.Common.{◌≡◌, drop, map}
use Rattle.brd_isa.specs.Names.{named_in, lowered}
use Rattle.brd_source.proofs.operations.find.Given as goal

abbrev pub invariant-loop-known : goal.invariant-loop-known
invariant-loop-known l =
    named_in (map (λ row. (lowered row.0.now, row.1)) (drop l.known-index l.rows)) (lowered l.name) ≡
    named_in (map (λ row. (lowered row.0.now, row.1)) l.rows) (lowered l.name)
