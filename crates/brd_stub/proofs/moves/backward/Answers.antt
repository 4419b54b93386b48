use Rattle.std.proofs.Common.{◌-◌, ap, ◌∙◌}
use Rattle.brd_stub.specs.Moving.{is_told_behind}
use Rattle.brd_stub.proofs.AnswerLemmas.{if-then}
use Rattle.brd_stub.proofs.MovingLemmas.{goes-back, goes-to-begin, goes-back-early}
use Rattle.brd_stub.proofs.moves.backward.Goals as goal

pub returns-in-Stop : goal.returns-in-Stop
returns-in-Stop g c =
    if-then _ _ (λ stop does. goes-back c.args.origin.points.now c.args.origin.last c.args.origin.told
    c.args.debugger.now
    c.search_back.new.debugger _ c.in_ok-found.field-0 _ c.is_told_behind-is_told.result c.in-Stop.is
    (c.is_told_behind-is_told.ensures ∙ ap (λ n. is_told_behind c.args.origin.told (n - c.in-Stop.found))
    c.position-from.ensures.is)
    c.in_ok-found.ensures does) c.stop_or_back.result c.stop_or_back.ensures

pub returns-in-Nothing : goal.returns-in-Nothing
returns-in-Nothing g c =
    goes-to-begin c.args.origin.points.now c.args.origin.last c.args.origin.told c.args.debugger.now
    c.search_back.new.debugger _ c.in_ok-found.field-0 c.in-Nothing.is c.in_ok-found.ensures
    c.stop_there.ensures

pub returns-in-Early : goal.returns-in-Early
returns-in-Early g c =
    goes-back-early c.args.origin.points.now c.args.origin.last c.args.origin.told c.args.debugger.now
    c.search_back.new.debugger _ c.in_ok-found.field-0 c.in-Early.is c.in_ok-found.ensures
    c.stop_there-in-Early.ensures
