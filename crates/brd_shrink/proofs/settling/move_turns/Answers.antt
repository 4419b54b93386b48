use Rattle.std.proofs.Common.{List, subst, arith}
use Rattle.std.specs.Prelude.{IfSome}
use Rattle.std.proofs.lemmas.List.Sorted.{IsPermutation-trans}
use Rattle.brd_board.specs.declared.event.Event.{Event}
use Rattle.brd_shrink.specs.Settled.{IsBetter}
use Rattle.brd_shrink.proofs.SettledLemmas.{never-same, less-to-do, settled-all}
use Rattle.brd_shrink.proofs.settling.move_turns.Goals as goal

pub loop-from-smaller-in-Some : goal.loop-from-smaller-in-Some
loop-from-smaller-in-Some c =
    let some = subst (λ found. IfSome found (λ moved. IsBetter c.args.wanted.now c.args.board.now c.as_slice.result.now moved.items)) c.in-Some.is c.in_ok-moved.ensures.some in
    let better = subst (λ (es : List Event). IsBetter c.args.wanted.now c.args.board.now es c.in-Some.moved.items) c.as_slice.ensures.value some in
    less-to-do c.args.wanted.now c.args.board.now c.loop-from.events.items c.in-Some.moved.items c.loop-from.from better

pub loop-from-preserved-in-Some : goal.loop-from-preserved-in-Some
loop-from-preserved-in-Some c =
    let some = subst (λ found. IfSome found (λ moved. IsBetter c.args.wanted.now c.args.board.now c.as_slice.result.now moved.items)) c.in-Some.is c.in_ok-moved.ensures.some in
    let better = subst (λ (es : List Event). IsBetter c.args.wanted.now c.args.board.now es c.in-Some.moved.items) c.as_slice.ensures.value some in
    record {
      fails = better.fails;
      permutes = IsPermutation-trans c.args.events.now.items c.loop-from.events.items c.in-Some.moved.items c.loop-from.invariant.permutes better.permutes;
      fewer = omega (arith, better.fewer, c.loop-from.invariant.fewer);
      same = never-same c.args.wanted.now c.args.board.now c.args.events.now.items c.loop-from.events.items c.in-Some.moved.items c.loop-from.from
          c.loop-from.invariant.fewer better;
    }

pub returns-clause-same : goal.returns-clause-same
returns-clause-same c same =
    let kept = c.loop-from.invariant.same same in
    let past = c.loop-from-test.false in
    (kept.0, settled-all c.args.wanted.now c.args.board.now c.loop-from.events.items c.loop-from.from (omega (arith, past, c.len.ensures)) kept.1)
