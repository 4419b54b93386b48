use Rattle.brd_elf.proofs.NamedLemmas.{with_paths}
use Rattle.brd_elf.proofs.named.Named.number_of.Goals as goal

pub invariant_of-self : goal.invariant_of-self
invariant_of-self c =
    with_paths c.self.inside.marks.items c.self.inside.places.strings _ c.self.inside.symbols.items c.self.inside.places.paths _ c.self.invariant c.number_of.ensures.kept c.number_of.ensures.distinct
