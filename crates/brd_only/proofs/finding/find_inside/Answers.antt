use Rattle.std.proofs.Common.{subst, arith}
use Rattle.brd_explore.specs.Schedules.{start}
use Rattle.brd_only.specs.Finding.{RoundSo}
use Rattle.brd_spots.proofs.KnownLemmas.{begins-known}
use Rattle.brd_only.proofs.NoneLemmas.{holds-so}
use Rattle.brd_only.proofs.finding.find_inside.Goals as goal

pub returns-in-Holds-clause-is : goal.returns-in-Holds-clause-is
returns-in-Holds-clause-is g c =
    holds-so c.args.among.now c.args.regions.now c.args.wanted.now c.visit_all.new.spots (start c.args.board.now c.args.bounds)
    (omega (arith, c.if-wanted-ne0.false))
    (begins-known c.in_ok-spots.spots c.visit_all.new.spots (start c.args.board.now c.args.bounds) c.in_ok-spots.ensures
    c.visit_all.ensures.more)
    (subst (RoundSo c.args.among.now c.args.regions.now c.args.wanted.now c.visit_all.new.spots) c.in-Holds.is c.in_ok-visit_all.ensures.so)
