use Rattle.std.proofs.Common.{◌≡◌, ◌-◌, ℕ, [], arith, refl, sym, subst}
use Rattle.std.proofs.lemmas.List.{append-nil}
use Rattle.std.specs.List.{range_with_len}
use Rattle.brd_listing.specs.Listing.{IsBehind}
use Rattle.brd_summary.specs.Summary.{IsKnownProcessor}
use Rattle.brd_summary.specs.Texts.{AreTexts}
use Rattle.brd_summary.proofs.SummaryLemmas.{numbers-on}
use Rattle.brd_summary.proofs.summary.put_processors.Goals as goal

pub loop-cpu-init : goal.loop-cpu-init
loop-cpu-init c = record {
  least = omega arith;
  most = omega arith;
  put = record { text = []; is_it = refl; behind = sym (append-nil c.args.out.now.items) };
}

pub loop-cpu-preserved : goal.loop-cpu-preserved
loop-cpu-preserved c = record {
  least = omega arith;
  most = omega (arith, c.loop-cpu-test.true);
  put = numbers-on (IsKnownProcessor c.args.names c.args.steps.now c.args.tracer.now.notes) c.loop-cpu.cpu
      c.args.out.now.items c.loop-cpu.out.items c.put_processor.new.out.items c.loop-cpu.invariant.least
      c.loop-cpu.invariant.put
      c.in_ok-put_processor.ensures;
}

pub returns : goal.returns
returns c =
    let all : c.loop-cpu.cpu ≡ 9 = omega (arith, c.loop-cpu-test.false, c.loop-cpu.invariant.most) in
    subst
    (λ (n : ℕ). IsBehind (AreTexts (IsKnownProcessor c.args.names c.args.steps.now c.args.tracer.now.notes)
    (range_with_len 1 (n - 1))) c.args.out.now.items c.loop-cpu.out.items) all c.loop-cpu.invariant.put
