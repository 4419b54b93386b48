use Rattle.std.specs.Prelude.{option_map}
use Rattle.brd_search.proofs.SummandLemmas.{parts_are_summands}
use Rattle.brd_search.proofs.conditions.summand.Goals as goal

pub returns-clause-summands : goal.returns-clause-summands
returns-clause-summands c =
    parts_are_summands c.args.text.now c.parted.result.0.now (option_map (λ it. it.now) c.parted.result.1) c.parted.ensures
