use Rattle.brd_stub.proofs.AnswerLemmas.{if-then}
use Rattle.brd_stub.proofs.MovingLemmas.{ends-behind, ends-at-begin, ends-early}
use Rattle.brd_stub.proofs.moves.search_behind.Goals as goal

pub returns-in-Stop : goal.returns-in-Stop
returns-in-Stop g c =
    if-then _ _ (λ stop does. ends-behind c.args.origin.points.now c.args.origin.last c.args.debugger.now
    c.search_back.new.debugger _ c.in_ok-search_back.field-0 _ c.in-Stop.is c.in_ok-search_back.ensures does)
    c.stop_behind.result c.stop_behind.ensures

pub returns-in-Nothing : goal.returns-in-Nothing
returns-in-Nothing g c =
    ends-at-begin c.args.origin.points.now c.args.origin.last c.args.debugger.now c.search_back.new.debugger _
    c.in_ok-search_back.field-0 c.in-Nothing.is c.in_ok-search_back.ensures c.stop_there.ensures

pub returns-in-Early : goal.returns-in-Early
returns-in-Early g c =
    ends-early c.args.origin.points.now c.args.origin.last c.args.debugger.now c.search_back.new.debugger _
    c.in_ok-search_back.field-0 c.in-Early.is c.in_ok-search_back.ensures c.stop_there-in-Early.ensures
