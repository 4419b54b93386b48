use Rattle.brd_stub.proofs.AnswerLemmas.{if-then}
use Rattle.brd_stub.proofs.MovingLemmas.{goes-ahead, goes-to-end, goes-early}
use Rattle.brd_stub.proofs.moves.search_ahead.Goals as goal

pub returns-in-Stop : goal.returns-in-Stop
returns-in-Stop g c =
    if-then _ _ (λ stop does. goes-ahead c.args.origin.points.now c.args.origin.last c.args.debugger.now
    c.search_on.new.debugger _ c.in_ok-search_on.field-0 _ c.in-Stop.is c.in_ok-search_on.ensures does)
    c.stop_ahead.result c.stop_ahead.ensures

pub returns-in-Nothing : goal.returns-in-Nothing
returns-in-Nothing g c =
    goes-to-end c.args.origin.points.now c.args.origin.last c.args.debugger.now c.search_on.new.debugger _
    c.in_ok-search_on.field-0 c.in-Nothing.is c.in_ok-search_on.ensures c.stop_there.ensures

pub returns-in-Early : goal.returns-in-Early
returns-in-Early g c =
    goes-early c.args.origin.points.now c.args.origin.last c.args.debugger.now c.search_on.new.debugger _
    c.in_ok-search_on.field-0 c.in-Early.is c.in_ok-search_on.ensures c.stop_there-in-Early.ensures
