use Rattle.std.proofs.Common.{sym, ◌∙◌}
use Rattle.brd_crew.proofs.PartLemmas.{found-in}
use Rattle.brd_crew.proofs.crew.is_among.Goals as goal

pub returns : goal.returns
returns c = λ is. found-in c.args.parts.now c.args.part (sym c.contains.ensures.value ∙ is)
