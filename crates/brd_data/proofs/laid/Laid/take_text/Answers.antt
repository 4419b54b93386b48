use Rattle.std.proofs.Common.{rules, refl}
use Rattle.brd_data.proofs.LaidLemmas.{taken_so}
use Rattle.brd_data.proofs.laid.Laid.take_text.Goals as goal

pub returns : goal.returns
returns g c = taken_so c.args.self.now c.args.name.now _ _ (search rules) c.taken.ensures.is refl c.taken.ensures.none
