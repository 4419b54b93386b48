use Rattle.std.proofs.Common.{◌≡◌, ◌+◌, ◌-◌, sym, subst, arith}
use Rattle.std.proofs.lemmas.Result.{IfOk-weaker}
use Rattle.brd_asm.specs.Image.{AreStretches}
use Rattle.brd_asm.specs.Index.{byte_at}
use Rattle.brd_asm.proofs.RangeLemmas.{remains_all, remains_more, remains_none, cut_length, cut_at}
use Rattle.brd_asm.proofs.stretches.segments_of.Goals as goal

pub loop-range-init : goal.loop-range-init
loop-range-init c = rw c.new-stretches.ensures (remains_all _ _ _ c.into_ranges-ranges.ensures c.requires)

pub loop-range-preserved : goal.loop-range-preserved
loop-range-preserved c =
    let range = c.in-Some.range in
    let first = c.in-Some.ensures.some in
    let remains = rw first at c.loop-range.invariant in
    let room = remains.within.0 in
    let len : range.item + (range.end - range.start) - range.item ≡ range.end - range.start = omega arith in
    rw c.in_ok-stretches.ensures (remains_more range c.pop_first.new.self (byte_at c.args.output.now c.args.pieces) c.args.output.now c.loop-range.stretches _ remains (rw first at c.in-Some.ensures.apart)
    (rw len (cut_length c.args.output.now range.item (range.end - range.start) room))
    (λ i lt. rw len (cut_at c.args.output.now range.item (range.end - range.start) i room (rw (len, cut_length c.args.output.now range.item (range.end - range.start) room) at lt))))

pub returns : goal.returns
returns c =
    let done = remains_none (byte_at c.args.output.now c.args.pieces) c.args.output.now c.loop-range.stretches (rw c.in_default.ensures.none at c.loop-range.invariant) in
    IfOk-weaker c.into_segments.result _ _ (λ segments e. subst (λ ss. AreStretches (byte_at c.args.output.now c.args.pieces) ss) (sym e) done) c.into_segments.ensures
