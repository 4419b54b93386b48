use Rattle.std.proofs.Common.{◌≡◌, suc, ◌+◌, ◌∙◌, ap, subst, length, arith}
use Rattle.brd_kernel.specs.Kernel.{KernelState}
use Rattle.brd_kernel.specs.Dispatch.{dispatched, dispatched_on, has_changed}
use Rattle.brd_kernel.proofs.DispatchLemmas.{with_first, on-next, all-first, changed-next, bits-next}
use Rattle.brd_kernel.proofs.kernel.Kernel.dispatch.Goals as goal

pub loop-cpu-preserved : goal.loop-cpu-preserved
loop-cpu-preserved c =
    let k : KernelState = c.args.self.now in
    let processors : length k.processors ≡ 9 = subst (λ (s : KernelState). length s.processors ≡ 9) c.self.view_is c.self.invariant.0.kernel.processors in
    let other : c.dispatch_on-other.result ≡ has_changed k (dispatched k) c.loop-cpu.cpu =
    c.dispatch_on-other.ensures.changed ∙ ap (λ s. has_changed s (dispatched_on s c.loop-cpu.cpu) c.loop-cpu.cpu) c.loop-cpu.invariant.is
    ∙ changed-next k c.loop-cpu.cpu processors c.loop-cpu-test.true in
    let next : suc c.loop-cpu.cpu ≡ c.loop-cpu.cpu + 1 = omega arith in
    record {
      is = c.dispatch_on-other.ensures.is ∙ ap (λ s. dispatched_on s c.loop-cpu.cpu) c.loop-cpu.invariant.is
          ∙ on-next k c.loop-cpu.cpu processors c.loop-cpu-test.true ∙ ap (with_first k) next;
      bits = bits-next k c.loop-cpu.cpu c.loop-cpu.changed c.with_change-changed.result c.dispatch_on-other.result other c.loop-cpu.invariant.bits c.with_change-changed.ensures;
    }

pub returns-clause-is : goal.returns-clause-is
returns-clause-is c =
    let k : KernelState = c.args.self.now in
    let processors : length k.processors ≡ 9 = subst (λ (s : KernelState). length s.processors ≡ 9) c.self.view_is c.self.invariant.0.kernel.processors in
    let end : c.loop-cpu.cpu ≡ 9 = omega (arith, c.loop-cpu-test.false, c.loop-cpu.auto.cpu-end) in
    c.loop-cpu.invariant.is ∙ ap (with_first k) end ∙ all-first k processors
