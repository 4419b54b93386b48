use Rattle.std.proofs.Common.{[], arith}
use Rattle.std.proofs.lemmas.Result.{err_from_is_err_and}
use Rattle.brd_elf.specs.Segments.{loaded_from}
use Rattle.brd_elf.proofs.SegmentLoop.{goes_on, ends, is_done}
use Rattle.brd_elf.proofs.segments.load_all.Goals as goal

pub returns-in_err-load : goal.returns-in_err-load
returns-in_err-load c =
    let p = err_from_is_err_and c.from_residual.result c.from_residual.ensures.1 in
    rw (p.1, p.2) (ends c.in_err-load.field-0.0 c.args.order c.args.file.now c.loop.at c.args.count c.loop.counter c.loop.segments (loaded_from c.args.order c.args.file.now c.args.start c.args.count []) c.loop-test.true c.in_err-load.ensures c.loop.invariant.same)

pub loop-preserved : goal.loop-preserved
loop-preserved c = record {
  place = omega arith;
  same = goes_on c.args.order c.args.file.now c.loop.at c.args.count c.loop.counter c.loop.segments c.load.new.segments (loaded_from c.args.order c.args.file.now c.args.start c.args.count []) c.loop-test.true c.in_ok-load.ensures c.loop.invariant.same;
}

pub returns : goal.returns
returns c = rw c.into_segments.ensures (is_done c.args.order c.args.file.now c.loop.at c.args.count c.loop.counter c.loop.segments (loaded_from c.args.order c.args.file.now c.args.start c.args.count []) c.loop-test.false c.loop.invariant.same)
