use Rattle.std.proofs.Common.{sym, refl, ◌∙◌, arith}
use Rattle.std.proofs.lemmas.Bool.{false≢true}
use Rattle.brd_verdicts.proofs.DeadlockLemmas.{still-more, copy-reports, copy-stays}
use Rattle.brd_verdicts.proofs.deadlock.no_step_does.Goals as goal

pub loop-cpu-init : goal.loop-cpu-init
loop-cpu-init c = record {
  least = omega arith;
  most = omega arith;
  same = c.in_ok-copy.ensures;
  still = λ cpu some few. absurd (omega (arith, some, few));
}

pub loop-cpu-preserved : goal.loop-cpu-preserved
loop-cpu-preserved c =
    let board = c.args.board.now in
    let old = c.loop-cpu.copy in
    let next = c.event_apart.new.self in
    let told = c.event_apart.result in
    let nothing = sym c.did_nothing.ensures ∙ c.if-not-did_nothing.false in
    record {
      least = omega arith;
      most = omega (arith, c.loop-cpu-test.true);
      same = copy-stays board old next told c.loop-cpu.cpu c.loop-cpu.invariant.same c.event_apart.ensures nothing;
      still = still-more board c.loop-cpu.cpu c.loop-cpu.invariant.still
          (copy-reports board old next told c.loop-cpu.cpu c.loop-cpu.invariant.same c.event_apart.ensures ∙ nothing);
    }

pub returns-then-not-did_nothing : goal.returns-then-not-did_nothing
returns-then-not-did_nothing c = (
  λ it. absurd (false≢true it),
  λ still.
      let told = c.event_apart.result in
      absurd (false≢true (sym c.if-not-did_nothing.true ∙ c.did_nothing.ensures
      ∙ sym (copy-reports c.args.board.now c.loop-cpu.copy c.event_apart.new.self told c.loop-cpu.cpu
      c.loop-cpu.invariant.same c.event_apart.ensures)
      ∙ still c.loop-cpu.cpu c.loop-cpu.invariant.least (omega (arith, c.loop-cpu-test.true)))),
)

pub returns : goal.returns
returns c = (
  λ _. λ cpu some few. c.loop-cpu.invariant.still cpu some (omega (arith, few, c.loop-cpu-test.false)),
  λ _. refl,
)
