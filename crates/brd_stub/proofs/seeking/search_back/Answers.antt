use Rattle.std.proofs.Common.{arith}
use Rattle.brd_stub.proofs.SeekingLemmas.{back-found, piece-goes, back-none, nothing-back}
use Rattle.brd_stub.proofs.seeking.search_back.Goals as goal

pub returns-in-Some : goal.returns-in-Some
returns-in-Some g c =
    back-found c.args.debugger.now c.loop-at.debugger c.seek_back.new.self c.loop-at.at c.saturating_sub-begin.result
    c.in-Some.found c.in_ok-found.field-0 c.in-Some.is c.loop-at.invariant.there c.loop-at.invariant.below
    c.loop-at.invariant.none c.in_ok-found.ensures.greatest c.in_ok-found.ensures.moved

pub returns-then-is_asked_to_stop : goal.returns-then-is_asked_to_stop
returns-then-is_asked_to_stop g c = (
  c.saturating_sub-begin.result,
  record {
    back = omega (arith, c.loop-at.invariant.below, c.loop-at-test.true, c.saturating_sub-begin.ensures);
    within = c.if-at-gt0.true;
    none = back-none c.args.debugger.now c.loop-at.debugger c.loop-at.at c.saturating_sub-begin.result c.in_ok-found.field-0
        c.in_default.is c.loop-at.invariant.there c.loop-at.invariant.none c.in_ok-found.ensures.greatest;
  },
  piece-goes c.args.debugger.now c.loop-at.debugger c.seek_back.new.self c.loop-at.at c.saturating_sub-begin.result
      c.in_ok-found.field-0 c.in_default.is c.loop-at.invariant.there c.in_ok-found.ensures.moved,
)

pub loop-at-preserved : goal.loop-at-preserved
loop-at-preserved g c = record {
  there = piece-goes c.args.debugger.now c.loop-at.debugger c.seek_back.new.self c.loop-at.at c.saturating_sub-begin.result
      c.in_ok-found.field-0 c.in_default.is c.loop-at.invariant.there c.in_ok-found.ensures.moved;
  below = omega (arith, c.loop-at.invariant.below, c.saturating_sub-begin.ensures);
  none = back-none c.args.debugger.now c.loop-at.debugger c.loop-at.at c.saturating_sub-begin.result c.in_ok-found.field-0
      c.in_default.is c.loop-at.invariant.there c.loop-at.invariant.none c.in_ok-found.ensures.greatest;
}

pub returns : goal.returns
returns g c =
    nothing-back c.args.debugger.now c.loop-at.debugger c.loop-at.at c.loop-at.invariant.there
    (omega (arith, c.loop-at-test.false)) c.loop-at.invariant.none
