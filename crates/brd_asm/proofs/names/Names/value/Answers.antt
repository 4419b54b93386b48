use Rattle.std.proofs.Common.{◌∙◌, ap}
use Rattle.brd_asm.specs.Values.{named}
use Rattle.brd_asm.proofs.NamesLemmas.{value_lookup}
use Rattle.brd_asm.proofs.names.Names.value.Goals as goal

pub returns : goal.returns
returns c = c.copied.ensures ∙ c.get.ensures.value ∙ value_lookup c.args.name.now c.self.inside.values.entries ∙ ap (λ ns. named ns c.args.name.now) c.self.view_is
