use Rattle.brd_lazy.proofs.LoopLemmas.{ends-more}
use Rattle.brd_lazy.proofs.block.go.Goals as goal

pub returns-in-Some-clause-is : goal.returns-in-Some-clause-is
returns-in-Some-clause-is c = λ set. c.in-Some.ensures.is c.args.most c.first_stop-few.ensures set

pub returns-clause-is : goal.returns-clause-is
returns-clause-is c = λ set. c.go_far.ensures.is c.args.board.now (c.in_default.ensures.is c.args.most c.first_stop-few.ensures set)

pub returns-in-Some-clause-few : goal.returns-in-Some-clause-few
returns-in-Some-clause-few c = ends-more c.first_stop-few.result c.args.most c.in-Some.block c.first_stop-few.ensures c.in-Some.ensures.few
