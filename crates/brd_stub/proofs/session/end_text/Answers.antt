use Rattle.std.proofs.Common.{sym, ap, ◌∙◌}
use Rattle.std.specs.Prelude.{Bool, if◌then◌else◌, codes}
use Rattle.brd_stub.proofs.SessionLemmas.{shown-at-end}
use Rattle.brd_stub.proofs.session.end_text.Goals as goal

pub returns-then-is_some : goal.returns-then-is_some
returns-then-is_some c =
    ap (λ (t : Bool). if t then codes "The journal ends here.\n"
    else codes "The journal ends here: no processor executes anything.\n") (sym c.if-is_some.true)
    ∙ shown-at-end c.args.board.now c.is_off.result c.is_some.result c.executing.result c.registers.result
    c.is_off.ensures c.if-is_off.false c.executing.ensures c.registers.ensures c.is_some.ensures

pub returns-else-is_some : goal.returns-else-is_some
returns-else-is_some c =
    ap (λ (t : Bool). if t then codes "The journal ends here.\n"
    else codes "The journal ends here: no processor executes anything.\n") (sym c.if-is_some.false)
    ∙ shown-at-end c.args.board.now c.is_off.result c.is_some.result c.executing.result c.registers.result
    c.is_off.ensures c.if-is_off.false c.executing.ensures c.registers.ensures c.is_some.ensures
