-- Whether a kernel has the profile stays as it is.
use Rattle.std.proofs.Common.{◌≡◌, ℕ, refl, ◌∙◌}
use Rattle.std.specs.Prelude.{Bool, true, false, if◌then◌else◌, Option, None, Some, is_some, nat_lt}
use Rattle.brd_tasks.specs.Tasks.{noted, without_activation}
use Rattle.brd_time.specs.Time.{last_count, advanced}
use Rattle.brd_kernel.specs.declared.processor.Processor.{Processor}
use Rattle.brd_kernel.specs.declared.call.Call.{Call}
use Rattle.brd_kernel.specs.Kernel.{KernelState, with_tasks, with_processor, processor_at, letting_go, accepted_line, handles}
use Rattle.brd_kernel.specs.Waits.{ticked_on, ticked, faulted_task, faulted_in, ended_by_fault, quits_in}
use Rattle.brd_kernel.specs.Services.{unmarked_on, serve_of, caller_on}
use Rattle.brd_kernel.proofs.WalkLemmas.{Anything, Law, serve-always}
use Rattle.brd_kernel.proofs.SameLemmas.{same-law, same-quits, same-prioritized}
use Rattle.brd_kernel.proofs.SpinLemmas.{same-ticked}

-- it has the profile where another one has
abbrev pub AlikeTo : KernelState → KernelState → Type 0
AlikeTo k new = new.standard ≡ k.standard

exits-alike : (k : KernelState) (cpu id : ℕ) (found : Option Processor) → AlikeTo k (unmarked_on (quits_in k id) cpu found)
exits-alike k cpu id None = (same-quits k id).standard
exits-alike k cpu id (Some p) = (same-quits k id).standard

alike-law : (k : KernelState) (cpu : ℕ) → Law Anything (AlikeTo k) k cpu (caller_on k cpu)
alike-law k cpu = same-law (AlikeTo k) k cpu (caller_on k cpu) (record {
  same = λ new same. same.standard;
  exits = λ may. exits-alike k cpu (caller_on k cpu) (processor_at k cpu);
  marks = λ p q there same how. refl;
  returns = λ p there. refl;
})

pub serve-alike : (k : KernelState) (cpu : ℕ) (c : Call) → AlikeTo k (serve_of k cpu c).kernel
serve-alike k cpu c = serve-always (AlikeTo k) k cpu (alike-law k cpu) (λ new same. (same-prioritized new).standard ∙ same) c

pub ticked-on-alike : (k : KernelState) → AlikeTo k (ticked_on k (advanced k.time))
ticked-on-alike k = (same-ticked k).standard

ticked-if : (test : Bool) (k new : KernelState) → AlikeTo k new → AlikeTo k (if test then new else k)
ticked-if true k new same = same
ticked-if false k new same = refl

pub ticked-alike : (k : KernelState) → AlikeTo k (ticked k)
ticked-alike k = ticked-if (nat_lt k.time.count last_count) k (ticked_on k (advanced k.time)) (ticked-on-alike k)

faulted-task-alike : (k : KernelState) (cpu : ℕ) (p : Processor) (running : Option ℕ) → AlikeTo k (faulted_task k cpu p running)
faulted-task-alike k cpu p None = refl
faulted-task-alike k cpu p (Some id) = (same-quits (with_tasks k (noted without_activation k.tasks id)) id).standard

faulted-if : (test : Bool) (k : KernelState) (cpu : ℕ) (p : Processor) →
    AlikeTo k (if test then with_processor k cpu (record (letting_go p) { stopped = true }) else faulted_task k cpu p p.running)
faulted-if true k cpu p = refl
faulted-if false k cpu p = faulted-task-alike k cpu p p.running

faulted-alike : (k : KernelState) (cpu : ℕ) (found : Option Processor) → AlikeTo k (faulted_in k cpu found)
faulted-alike k cpu None = refl
faulted-alike k cpu (Some p) = faulted-if (is_some p.handling) k cpu p

pub fault-alike : (k : KernelState) (cpu : ℕ) → AlikeTo k (ended_by_fault k cpu)
fault-alike k cpu = (same-prioritized (faulted_in k cpu (processor_at k cpu))).standard ∙ faulted-alike k cpu (processor_at k cpu)

handles-alike : (k : KernelState) (cpu line : ℕ) (found : Option Processor) → AlikeTo k (handles k cpu line found)
handles-alike k cpu line None = refl
handles-alike k cpu line (Some p) = refl

pub accepted-alike : (k : KernelState) (cpu line : ℕ) → AlikeTo k (accepted_line k cpu line)
accepted-alike k cpu line = handles-alike k cpu line (processor_at k cpu)
