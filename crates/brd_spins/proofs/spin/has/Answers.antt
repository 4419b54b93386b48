use Rattle.std.proofs.Common.{◌≡◌, length, take, sym, ap, subst, ◌∙◌, refl, List, arith}
use Rattle.std.specs.Prelude.{Contains}
use Rattle.std.proofs.Math.Seq.{take-length}
use Rattle.std.proofs.lemmas.Bool.{false≢true}
use Rattle.brd_exec.specs.State.{State}
use Rattle.brd_spins.proofs.StateLemmas.{first-none, one-more, here}
use Rattle.brd_spins.proofs.spin.has.Goals as goal

pub loop-i-init : goal.loop-i-init
loop-i-init c = first-none c.args.states.now c.args.registers.now

pub loop-i-preserved : goal.loop-i-preserved
loop-i-preserved c =
    one-more c.args.states.now c.args.registers.now c.index-states-i.result c.loop-i.i c.loop-i-test.true c.index-states-i.is
    (λ same. false≢true (sym c.if-is_same.false ∙ c.is_same.ensures.1 same)) c.loop-i.invariant

pub returns-then-is_same : goal.returns-then-is_same
returns-then-is_same c = (
  λ _. here c.args.states.now c.args.registers.now c.index-states-i.result c.loop-i.i c.loop-i-test.true c.index-states-i.is (c.is_same.ensures.0 c.if-is_same.true),
  λ _. refl,
)

pub returns : goal.returns
returns c =
    let end : c.loop-i.i ≡ length c.args.states.now = omega (arith, c.loop-i.auto.i-end, c.loop-i-test.false) in (
      λ it. absurd (false≢true it),
      λ has. absurd (c.loop-i.invariant (subst (λ (them : List State). Contains them c.args.registers.now)
          (sym (take-length c.args.states.now) ∙ ap (λ n. take n c.args.states.now) (sym end)) has)),
    )
