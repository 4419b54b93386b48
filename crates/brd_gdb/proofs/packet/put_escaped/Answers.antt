use Rattle.std.proofs.Common.{arith}
use Rattle.brd_gdb.proofs.PacketLemmas.{put_more, sum_at_end, sum_more}
use Rattle.brd_gdb.proofs.packet.put_escaped.Goals as goal

pub loop-byte-preserved : goal.loop-byte-preserved
loop-byte-preserved c = record {
  put = put_more _ _ _ c.loop-byte.byte-index c.args.payload.now c.loop-byte-test.true c.in_ok-sum.ensures.put c.loop-byte.invariant.put;
  sum = sum_more c.loop-byte.sum _ _ c.loop-byte.byte-index c.args.payload.now c.loop-byte-test.true c.in_ok-sum.ensures.sum c.loop-byte.invariant.sum;
  small = omega (arith, c.in_ok-sum.ensures.sum);
}

pub returns-clause-sum : goal.returns-clause-sum
returns-clause-sum c =
    sum_at_end c.loop-byte.sum c.loop-byte.byte-index _ c.args.payload.now c.loop-byte-test.false c.loop-byte.invariant.small c.loop-byte.invariant.sum
