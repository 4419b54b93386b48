-- What the rows that are left have for the mnemonic is what all have.
use Rattle.std.proofs.Common.{◌≡◌, drop, map}
use Rattle.brd_isa.specs.Names.{name_in}
use Rattle.brd_isa.proofs.mnemonic.name_in.Given as goal

abbrev pub invariant-loop-name : goal.invariant-loop-name
invariant-loop-name l =
    name_in (map (λ row. (row.0.now, row.1)) (drop l.name-index l.rows)) l.mnemonic ≡
    name_in (map (λ row. (row.0.now, row.1)) l.rows) l.mnemonic
