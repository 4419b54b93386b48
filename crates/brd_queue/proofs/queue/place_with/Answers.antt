use Rattle.std.proofs.Common.{◌≡◌, ◌∷◌, suc, drop, arith, sym, ap, ◌∙◌, drop-cons}
use Rattle.brd_queue.proofs.QueueLemmas.{remove-without}
use Rattle.brd_queue.proofs.StepLemmas.{has_goes_on, has_stops, without_goes_on}
use Rattle.brd_queue.proofs.queue.place_with.Goals as goal

pub returns-then-other-id-clause-is : goal.returns-then-other-id-clause-is
returns-then-other-id-clause-is g c apart =
    let split : drop c.loop-i.i c.args.entries.now ≡ c.index-entries-i.result ∷ drop (suc c.loop-i.i) c.args.entries.now =
    drop-cons c.args.entries.now c.loop-i.i c.index-entries-i.result (omega arith)
    ∙ ap (λ other. other ∷ drop (suc c.loop-i.i) c.args.entries.now) (sym c.index-entries-i.is) in
    remove-without c.args.id c.loop-i.i _ c.args.entries.now apart split c.if-other-id.true c.loop-i.invariant.kept

pub loop-i-preserved : goal.loop-i-preserved
loop-i-preserved g c = record {
  kept = without_goes_on c.args.id c.args.entries.now c.loop-i.i c.index-entries-i.result c.loop-i-test.true c.index-entries-i.is c.if-other-id.false c.loop-i.invariant.kept;
  passed = has_goes_on c.args.id c.args.entries.now c.loop-i.i c.index-entries-i.result c.loop-i-test.true c.index-entries-i.is c.if-other-id.false c.loop-i.invariant.passed;
}

pub returns-then-other-id-clause-there : goal.returns-then-other-id-clause-there
returns-then-other-id-clause-there g c = has_stops c.args.id c.args.entries.now c.loop-i.i c.index-entries-i.result c.loop-i-test.true c.index-entries-i.is c.if-other-id.true c.loop-i.invariant.passed
