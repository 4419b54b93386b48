use Rattle.std.proofs.Common.{arith}
use Rattle.brd_stub.proofs.SeekingLemmas.{piece-found, piece-goes, piece-none, nothing-on}
use Rattle.brd_stub.proofs.seeking.search_on.Goals as goal

pub returns-in-Some : goal.returns-in-Some
returns-in-Some g c =
    piece-found c.args.debugger.now c.loop-at.debugger c.seek.new.self c.loop-at.at c.min-end.result c.in-Some.found
    c.in_ok-found.field-0 c.in-Some.is c.loop-at.invariant.there c.loop-at.invariant.on
    (omega (arith, c.min-end.ensures, c.len-len.ensures.is)) c.loop-at.invariant.none c.in_ok-found.ensures.least
    c.in_ok-found.ensures.moved

pub returns-then-is_asked_to_stop : goal.returns-then-is_asked_to_stop
returns-then-is_asked_to_stop g c = (
  c.min-end.result,
  record {
    on = omega (arith, c.loop-at.invariant.on, c.loop-at-test.true, c.saturating_add.ensures, c.min-end.ensures);
    within = omega (arith, c.if-at-len.true, c.len-len.ensures.is);
    none = piece-none c.args.debugger.now c.loop-at.debugger c.loop-at.at c.min-end.result c.in_ok-found.field-0 c.in_default.is
        c.loop-at.invariant.there c.loop-at.invariant.none c.in_ok-found.ensures.least;
  },
  piece-goes c.args.debugger.now c.loop-at.debugger c.seek.new.self c.loop-at.at c.min-end.result c.in_ok-found.field-0
      c.in_default.is c.loop-at.invariant.there c.in_ok-found.ensures.moved,
)

pub loop-at-preserved : goal.loop-at-preserved
loop-at-preserved g c = record {
  there = piece-goes c.args.debugger.now c.loop-at.debugger c.seek.new.self c.loop-at.at c.min-end.result
      c.in_ok-found.field-0 c.in_default.is c.loop-at.invariant.there c.in_ok-found.ensures.moved;
  on = omega (arith, c.loop-at.invariant.on, c.loop-at-test.true, c.saturating_add.ensures, c.min-end.ensures);
  within = omega (arith, c.min-end.ensures, c.len-len.ensures.is);
  none = piece-none c.args.debugger.now c.loop-at.debugger c.loop-at.at c.min-end.result c.in_ok-found.field-0 c.in_default.is
      c.loop-at.invariant.there c.loop-at.invariant.none c.in_ok-found.ensures.least;
}

pub returns : goal.returns
returns g c =
    nothing-on c.args.debugger.now c.loop-at.debugger c.loop-at.at c.loop-at.invariant.there
    (omega (arith, c.loop-at-test.false, c.loop-at.invariant.within, c.len-len.ensures.is)) c.loop-at.invariant.none
