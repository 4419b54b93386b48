use Rattle.std.specs.Prelude.{option_map}
use Rattle.brd_gdb.proofs.PartLemmas.{parts_are}
use Rattle.brd_gdb.proofs.parts.part.Goals as goal

pub returns-clause-parts : goal.returns-clause-parts
returns-clause-parts c =
    parts_are c.args.mark c.args.text.now c.parted.result.0.now (option_map (λ it. it.now) c.parted.result.1) c.parted.ensures
