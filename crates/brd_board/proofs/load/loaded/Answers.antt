use Rattle.std.proofs.Common.{sym, ◌∙◌, ap}
use Rattle.std.specs.Prelude.{if◌then◌else◌, Ok, Err}
use Rattle.brd_board.specs.Boot.{loaded, memory_of}
use Rattle.brd_board.specs.declared.boot.BootFault.TheVariants.{Outside}
use Rattle.brd_board.proofs.LoadLemmas.{begins, next_begins, stops, ends, all_inside}
use Rattle.brd_board.proofs.load.loaded.Goals as goal

pub loop-segment-init : goal.loop-segment-init
loop-segment-init c = begins _ _ _ _ c.in_ok-ram.ensures c.requires.apart

pub returns-then-not-contains-clause-is : goal.returns-then-not-contains-clause-is
unfolding loaded
returns-then-not-contains-clause-is c =
    let size = c.loop-segment.invariant.long in
    let bytes = c.as_slice-bytes.ensures in
    let outside = rw (size, bytes) at (sym c.contains.ensures ∙ c.if-not-contains.true) in
    ap (λ inside. if inside then Ok (memory_of c.args.order c.args.size c.args.segments.now) else Err Outside)
    (stops _ _ _ _ c.segment-item.result _ c.loop-segment-test.true c.segment-item.is c.loop-segment.invariant outside)

pub loop-segment-preserved : goal.loop-segment-preserved
loop-segment-preserved c =
    let size = c.loop-segment.invariant.long in
    let bytes = c.as_slice-bytes.ensures in
    let inside = rw (size, bytes) at (sym c.contains.ensures ∙ c.if-not-contains.false) in
    rw (c.copy_in.ensures.is, bytes)
    (next_begins _ _ _ _ c.segment-item.result _ c.loop-segment-test.true c.segment-item.is c.loop-segment.invariant inside)

pub returns-clause-is : goal.returns-clause-is
unfolding loaded
returns-clause-is c =
    ap (λ inside. if inside then Ok (memory_of c.args.order c.args.size c.args.segments.now) else Err Outside)
    (all_inside _ _ _ _ _ c.loop-segment-test.false c.loop-segment.invariant)
    ∙ ap Ok (sym (ends _ _ _ _ _ c.loop-segment-test.false c.loop-segment.invariant))
