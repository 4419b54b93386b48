use Rattle.std.proofs.Common.{◌*◌, ◌++◌, ap, ◌∙◌, arith}
use Rattle.std.proofs.lemmas.List.{take-replicate}
use Rattle.brd_stub.proofs.registers.show_unavailable.Goals as goal

pub returns : goal.returns
returns c =
    c.in_ok-extend_from_slice.ensures.items
    ∙ ap (λ digits. c.args.out.now.items ++ digits) (take-replicate (8 * c.args.count) 16 120 (omega (arith, c.requires)))
