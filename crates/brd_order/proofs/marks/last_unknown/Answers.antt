use Rattle.std.proofs.Common.{arith}
use Rattle.std.proofs.lemmas.Option.{slice_get-get_or, slice_get_within}
use Rattle.brd_order.specs.Tables.{counts_of}
use Rattle.brd_order.proofs.TableLemmas.{later-unknown, later-last}
use Rattle.brd_order.proofs.marks.last_unknown.Goals as goal

pub loop-i-preserved : goal.loop-i-preserved
loop-i-preserved c = record {
  unknown = later-unknown (counts_of c.args.clock.now) c.args.new c.args.marks.now c.loop-i.i _ c.loop-i.found
      c.later_of-found.result
      (slice_get-get_or c.args.marks.now c.loop-i.i _ (omega arith)) c.later_of-found.ensures
      c.loop-i.invariant.unknown;
  last = later-last (counts_of c.args.clock.now) c.args.new c.args.marks.now c.loop-i.i _ c.loop-i.found
      c.later_of-found.result
      (slice_get-get_or c.args.marks.now c.loop-i.i _ (omega arith)) c.later_of-found.ensures c.loop-i.invariant.last;
}

pub returns : goal.returns
returns c = record {
  unknown = c.loop-i.invariant.unknown;
  last = λ m is unknown. c.loop-i.invariant.last is.0 m (omega (arith, slice_get_within c.args.marks.now is.0 m is.1))
      is.1 unknown;
}
