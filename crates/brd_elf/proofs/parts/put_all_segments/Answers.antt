use Rattle.brd_elf.specs.File.{padded}
use Rattle.brd_elf.proofs.PartLemmas.{split, headers_go_on, flat_goes_on}
use Rattle.brd_elf.proofs.parts.put_all_segments.Goals as goal

pub loop-segment-preserved : goal.loop-segment-preserved
loop-segment-preserved c = record {
  programs = headers_go_on c.args.order c.args.start c.loop-segment.segment-index c.loop-segment.programs.items c.loop-segment.loaded.items c.put_segment.new.programs.items c.put_segment.new.loaded.items _ c.args.segments.now c.segment-item.result c.loop-segment-test.true c.segment-item.is c.in_ok-put_segment.ensures.program c.in_ok-put_segment.ensures.bytes c.loop-segment.invariant.programs;
  bytes = flat_goes_on (λ segment. padded segment.bytes) c.loop-segment.segment-index c.loop-segment.loaded.items c.put_segment.new.loaded.items _ c.args.segments.now c.segment-item.result (split c.args.segments.now c.loop-segment.segment-index c.segment-item.result c.loop-segment-test.true c.segment-item.is) c.in_ok-put_segment.ensures.bytes c.loop-segment.invariant.bytes;
}
