use Rattle.std.proofs.Common.{subst}
use Rattle.std.proofs.lemmas.List.{get_or_default}
use Rattle.brd_board.specs.declared.event.Event.TheVariants.{Step}
use Rattle.brd_reach.specs.Rounds.{TriedSo, sharing_for}
use Rattle.brd_reach.proofs.RoundLemmas.{at-same, get-more, more-then, tried-next}
use Rattle.brd_reach.proofs.visit.visit.Goals as goal

pub returns-in_err-try_event-clause-more : goal.returns-in_err-try_event-clause-more
returns-in_err-try_event-clause-more c = λ place there.
    let here = at-same c.loop-event.places c.args.at place c.left-left.result c.put.new.board
    (get-more c.args.places.now c.loop-event.places c.args.at place (c.loop-event.invariant place there).0 there)
    (c.left-left.ensures place there) (c.in_ok-put.ensures place there) in
    more-then c.args.places.now c.loop-event.places c.try_event.new.places (c.loop-event.invariant place there).0 (c.try_event.ensures.more here)

pub returns-in-Fails-clause-more : goal.returns-in-Fails-clause-more
returns-in-Fails-clause-more c = λ place there.
    let here = at-same c.loop-event.places c.args.at place c.left-left.result c.put.new.board
    (get-more c.args.places.now c.loop-event.places c.args.at place (c.loop-event.invariant place there).0 there)
    (c.left-left.ensures place there) (c.in_ok-put.ensures place there) in
    more-then c.args.places.now c.loop-event.places c.try_event.new.places (c.loop-event.invariant place there).0 (c.try_event.ensures.more here)

pub returns-in-Strays-clause-more : goal.returns-in-Strays-clause-more
returns-in-Strays-clause-more c = λ place there.
    let here = at-same c.loop-event.places c.args.at place c.left-left.result c.put.new.board
    (get-more c.args.places.now c.loop-event.places c.args.at place (c.loop-event.invariant place there).0 there)
    (c.left-left.ensures place there) (c.in_ok-put.ensures place there) in
    more-then c.args.places.now c.loop-event.places c.try_event.new.places (c.loop-event.invariant place there).0 (c.try_event.ensures.more here)

pub returns-in-Unknown-clause-more : goal.returns-in-Unknown-clause-more
returns-in-Unknown-clause-more c = λ place there.
    let here = at-same c.loop-event.places c.args.at place c.left-left.result c.put.new.board
    (get-more c.args.places.now c.loop-event.places c.args.at place (c.loop-event.invariant place there).0 there)
    (c.left-left.ensures place there) (c.in_ok-put.ensures place there) in
    more-then c.args.places.now c.loop-event.places c.try_event.new.places (c.loop-event.invariant place there).0 (c.try_event.ensures.more here)

pub returns-in-Fails-clause-so : goal.returns-in-Fails-clause-so
returns-in-Fails-clause-so c = λ place there.
    let here = at-same c.loop-event.places c.args.at place c.left-left.result c.put.new.board
    (get-more c.args.places.now c.loop-event.places c.args.at place (c.loop-event.invariant place there).0 there)
    (c.left-left.ensures place there) (c.in_ok-put.ensures place there) in
    absurd (subst (TriedSo (sharing_for c.args.sharing.now c.args.wanted.now) c.args.among.now c.try_event.new.places c.left-left.result c.put.new.board
    _) c.in-Fails.is (c.in_ok-try_event.ensures.so c.args.among.now here))

pub loop-event-preserved : goal.loop-event-preserved
loop-event-preserved c = λ place there.
    let here = at-same c.loop-event.places c.args.at place c.left-left.result c.put.new.board
    (get-more c.args.places.now c.loop-event.places c.args.at place (c.loop-event.invariant place there).0 there)
    (c.left-left.ensures place there) (c.in_ok-put.ensures place there) in
    let more = c.try_event.ensures.more here in (
      more-then c.args.places.now c.loop-event.places c.try_event.new.places (c.loop-event.invariant place there).0 more,
      tried-next (sharing_for c.args.sharing.now c.args.wanted.now) c.args.among.now c.loop-event.places c.try_event.new.places place c.left-left.result
          c.put.new.board c.loop-event.event-index _ more (c.left-left.ensures place there) (c.in_ok-put.ensures place there)
          (c.loop-event.invariant place there).1
          (subst (TriedSo (sharing_for c.args.sharing.now c.args.wanted.now) c.args.among.now c.try_event.new.places c.left-left.result c.put.new.board
          _) c.in-Done.is (c.in_ok-try_event.ensures.so c.args.among.now here))
          (get_or_default c.args.among.now c.loop-event.event-index (Step 0) _ c.loop-event-test.true) c.loop-event-test.true,
    )

pub returns-clause-more : goal.returns-clause-more
returns-clause-more c = λ place there. (c.loop-event.invariant place there).0
