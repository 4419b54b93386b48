use Rattle.std.proofs.Common.{◌≡◌, sym, ap, ◌∙◌, arith}
use Rattle.std.specs.Prelude.{Some, None}
use Rattle.brd_time.specs.Time.{next_due_of}
use Rattle.brd_kernel.specs.Kernel.{KernelState}
use Rattle.brd_kernel.proofs.WaitLemmas.{timed-turn, timed-end}
use Rattle.brd_kernel.proofs.kernel.Kernel.end_waits.Goals as goal

pub loop-id-preserved : goal.loop-id-preserved
loop-id-preserved c =
    let found : next_due_of c.loop-id.self.time c.loop-id.from ≡ Some c.in-Some.id =
    ap (λ (s : KernelState). next_due_of s.time c.loop-id.from) (sym c.self.view_is) ∙ sym c.next_due.ensures.is ∙ c.in-Some.is in
    record {
      same = timed-turn c.loop-id.self c.time_out.new.self c.loop-id.from c.in-Some.id found c.time_out.ensures ∙ c.loop-id.invariant.same;
      within = omega (arith, c.in-Some.ensures.within.1);
    }

pub returns : goal.returns
returns c =
    let none : next_due_of c.loop-id.self.time c.loop-id.from ≡ None =
    ap (λ (s : KernelState). next_due_of s.time c.loop-id.from) (sym c.self.view_is) ∙ sym c.next_due.ensures.is ∙ c.in_default.is in
    sym (timed-end c.loop-id.self c.loop-id.from none) ∙ c.loop-id.invariant.same
