-- What the rows that are left have for the name is what all have.
use Rattle.std.proofs.Common.{◌≡◌, drop, map}
use Rattle.brd_config.specs.Reading.{named_in}
use Rattle.brd_config.proofs.reading.find.Given as goal

abbrev pub invariant-loop-known : goal.invariant-loop-known
invariant-loop-known types l =
    named_in (map (λ row. (row.0.now, row.1)) (drop l.known-index l.rows)) l.name ≡
    named_in (map (λ row. (row.0.now, row.1)) l.rows) l.name
