use Rattle.std.proofs.Common.{◌≡◌, Some, ap, ◌∙◌}
use Rattle.brd_isa.specs.Registers.{register_named}
use Rattle.brd_isa.proofs.RegisterLemmas.{each}
use Rattle.brd_isa.proofs.register.register_name.Goals as goal

pub returns-clause-again : goal.returns-clause-again
returns-clause-again c =
    let number : c.number.result ≡ c.args.register = c.number.ensures.is in
    ap register_named c.name_at.ensures ∙ each c.number.result c.number.ensures.below ∙ ap (λ n. Some n) number
