use Rattle.std.proofs.Common.{ℕ, List, Contains, arith, rules, subst}
use Rattle.brd_explore.specs.Schedules.{start}
use Rattle.brd_crew.proofs.PartLemmas.{joined-next, none-left}
use Rattle.brd_crew.proofs.crew.joined.Goals as goal

pub loop-share-preserved : goal.loop-share-preserved
loop-share-preserved c =
    joined-next c.args.wanted.now c.args.shard c.args.parts c.args.among.now (start c.args.board.now c.args.bounds)
    c.loop-share.share-iterator.rest.items c.next.new.self.rest.items c.in-Some.share c.in_ok-schedule.field-0
    c.loop-share.done c.append.new.self
    c.in-Some.ensures.steps.0 (search rules) (search rules) c.loop-share.invariant.0 c.loop-share.invariant.1

pub returns : goal.returns
returns c =
    none-left c.args.shard c.args.parts (omega (arith, c.requires.fits.number)) c.requires.fits.some
    c.args.wanted.now c.args.among.now (start c.args.board.now c.args.bounds) c.loop-share.done
    (λ part below. subst (λ (xs : List ℕ). Contains xs part) c.as_slice-2.ensures (c.are_all.ensures (search rules) part below))
    c.loop-share.invariant.1
