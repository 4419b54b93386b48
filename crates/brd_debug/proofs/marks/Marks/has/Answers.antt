use Rattle.std.proofs.Common.{subst}
use Rattle.std.specs.Prelude.{Decides, Contains}
use Rattle.brd_debug.proofs.MarkLemmas.{is-marked}
use Rattle.brd_debug.proofs.marks.Marks.has.Goals as goal

pub returns-clause-is : goal.returns-clause-is
returns-clause-is c = is-marked c.hits.result c.args.self.now c.args.address (subst (λ marks. Decides c.hits.result (Contains marks c.args.address)) c.as_slice.ensures.is c.hits.ensures)
