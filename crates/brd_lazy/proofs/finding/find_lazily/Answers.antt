use Rattle.std.proofs.Common.{subst, arith}
use Rattle.brd_explore.specs.Schedules.{start}
use Rattle.brd_reach.specs.Rounds.{sharing_for}
use Rattle.brd_reach.proofs.AnswerLemmas.{guards-so}
use Rattle.brd_spots.proofs.KnownLemmas.{begins-known}
use Rattle.brd_lazy.specs.Finding.{RoundSo}
use Rattle.brd_lazy.proofs.FindLemmas.{holds-so}
use Rattle.brd_lazy.proofs.finding.find_lazily.Goals as goal

pub returns-in-Holds-clause-is : goal.returns-in-Holds-clause-is
returns-in-Holds-clause-is g c =
    holds-so (sharing_for c.loop.sharing c.args.wanted.now) c.args.among.now c.args.wanted.now c.visit_all.new.spots
    (start c.args.board.now c.args.bounds) (omega (arith, c.if-wanted-ne0.false)) (guards-so c.loop.sharing c.args.wanted.now c.loop.invariant)
    (begins-known c.in_ok-spots.spots c.visit_all.new.spots (start c.args.board.now c.args.bounds) c.in_ok-spots.ensures
    c.visit_all.ensures.more)
    (subst (RoundSo (sharing_for c.loop.sharing c.args.wanted.now) c.args.among.now c.args.wanted.now c.visit_all.new.spots) c.in-Holds.is
    c.in_ok-visit_all.ensures.so)
    c.links_are_a_set.ensures
