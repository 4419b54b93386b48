use Rattle.std.proofs.Common.{List, subst, ap, ◌∙◌, arith}
use Rattle.brd_board.specs.declared.event.Event.{Event}
use Rattle.brd_explore.specs.Shrinking.{IsPart}
use Rattle.brd_shrink.specs.Turns.{switches}
use Rattle.brd_shrink.proofs.SettledLemmas.{some-part, some-permuted, some-both, some-shorter, some-left, switches-part}
use Rattle.brd_shrink.proofs.settling.shrink.Goals as goal

pub loop-left-init : goal.loop-left-init
loop-left-init c = record {
  fails = c.in_ok-left.ensures.fails;
  some = some-part c.in_ok-left.left.items c.args.events.now c.in_ok-left.ensures.part;
  least = c.in_ok-left.ensures.least;
  fewer = switches-part c.in_ok-left.left.items c.args.events.now c.in_ok-left.ensures.part;
}

pub loop-left-smaller : goal.loop-left-smaller
loop-left-smaller c =
    let part = subst (λ (es : List Event). IsPart c.in_ok-left-2.left.items es) c.deref-in-loop-left-2.ensures.value c.in_ok-left-2.ensures.part in
    let few = switches-part c.in_ok-left-2.left.items c.move_turns.new.events.items part in
    let before = c.switches-before.ensures ∙ ap switches c.deref.ensures.value in
    let after = c.switches.ensures ∙ ap switches c.deref-in-loop-left.ensures.value in
    let other = c.if-switches-before.false in
    omega (arith, few, before, after, other, c.in_ok-move_turns.ensures.fewer)

pub loop-left-preserved : goal.loop-left-preserved
loop-left-preserved c =
    let part = subst (λ (es : List Event). IsPart c.in_ok-left-2.left.items es) c.deref-in-loop-left-2.ensures.value c.in_ok-left-2.ensures.part in
    let few = switches-part c.in_ok-left-2.left.items c.move_turns.new.events.items part in
    record {
      fails = c.in_ok-left-2.ensures.fails;
      some = some-left c.args.events.now c.loop-left.left.items c.move_turns.new.events.items c.in_ok-left-2.left.items c.loop-left.invariant.some
          c.in_ok-move_turns.ensures.permutes part;
      least = c.in_ok-left-2.ensures.least;
      fewer = omega (arith, few, c.in_ok-move_turns.ensures.fewer, c.loop-left.invariant.fewer);
    }

pub returns-then-switches-before-clause-shorter : goal.returns-then-switches-before-clause-shorter
returns-then-switches-before-clause-shorter c =
    some-shorter c.move_turns.new.events.items c.args.events.now
    (some-both c.move_turns.new.events.items c.loop-left.left.items c.args.events.now
    (some-permuted c.move_turns.new.events.items c.loop-left.left.items c.in_ok-move_turns.ensures.permutes) c.loop-left.invariant.some)
