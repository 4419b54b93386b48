-- What a SYSCALL leaves, as it comes through the gate: it is made again and changes nothing; or the context goes on,
-- the call is served, and its reply is written.
use Rattle.std.proofs.Common.{◌≡◌, ℕ, refl, sym, ap, subst, ◌∙◌}
use Rattle.std.proofs.lemmas.Bool.{false≢true}
use Rattle.std.specs.Prelude.{Bool, true, false, if◌then◌else◌, slice_index_or, Option, None, Some, is_some, unwrap_or, Result, Ok, Err}
use Rattle.std.specs.Option.{option_map}
use Rattle.brd_exec.specs.State.{State, advanced}
use Rattle.brd_kernel.specs.declared.processor.Processor.{Processor}
use Rattle.brd_kernel.specs.declared.processor.Executor.{Executor}
use Rattle.brd_kernel.specs.declared.call.Call.{Call}
use Rattle.brd_kernel.specs.declared.call.Ercd.{Ercd}
use Rattle.brd_kernel.specs.Kernel.{KernelState, processor_at, running_in, executor_by, executor_in, executor_on, context_of, with_context_of, context_on}
use Rattle.brd_kernel.specs.Row.{Served}
use Rattle.brd_kernel.specs.Services.{caller_on, serve_of}
use Rattle.brd_kernel.proofs.who_runs.RunningCallLemmas.{MayServe}
use Rattle.brd_kernel.proofs.SameLemmas.{Same, same-context}
use Rattle.brd_sysgate.specs.Gate.{changed_in, with_changed_context, served_call, is_again, called_in, called, agent_in, caller_of, read_of, written}
use Rattle.brd_board.proofs.GateLemmas.{MayBe, read-may}

-- a processor on which somebody executes
pub record IsActive (found : Option Processor) (p : Processor) : Type 0 where
  pub there : found ≡ Some p
  pub on : p.stopped ≡ false
  pub by : is_some (executor_by p.running p.handling) ≡ true

record Active (found : Option Processor) : Type 0 where
  p : Processor
  is : IsActive found p

active-by : (stopped : Bool) (p : Processor) → p.stopped ≡ stopped →
    is_some (if stopped then None else executor_by p.running p.handling) ≡ true → Active (Some p)
active-by true p test is = absurd (false≢true is)
active-by false p test is = record { p = p; is = record { there = refl; on = test; by = is } }

active : (found : Option Processor) → is_some (executor_in found) ≡ true → Active found
active None is = absurd (false≢true is)
active (Some p) is = active-by p.stopped p refl is

-- What has to be shown: `P` holds before a call of a processor of the kernel `k`, `Q` after it.
pub record Calls (P Q : KernelState → Type 0) (k : KernelState) (cpu : ℕ) : Type 0 where
  -- where nothing changes
  pub quiet : (now : KernelState) → P now → Q now
  -- the context goes on, and the reply is written to it
  pub goes_on : (now : KernelState) (who : Executor) (s : State) → P now → P (with_context_of now cpu who s)
  pub replies : (now : KernelState) (who : Executor) (s : State) → Q now → Q (with_context_of now cpu who s)
  -- a call that the gate lets through is served in the kernel in which the context has gone on
  pub serves : (now : KernelState) (p : Processor) (c : Call) → Same now k → processor_at now cpu ≡ Some p →
      MayServe now.standard p (caller_on now cpu) c → P now →
      Q (serve_of now cpu c).kernel

changed-leaves : (P : KernelState → Type 0) (change : State → State) (k : KernelState) (cpu : ℕ)
    (who : Option Executor) →
    ((x : Executor) (s : State) → P k → P (with_context_of k cpu x s)) → P k → P (changed_in change k cpu who)
changed-leaves P change k cpu None leaves was = was
changed-leaves P change k cpu (Some who) leaves was = leaves who (change (context_of k cpu who)) was

changed-same : (change : State → State) (k : KernelState) (cpu : ℕ) (who : Option Executor) →
    Same (changed_in change k cpu who) k
changed-same change k cpu None = record { processors = refl; spin_locks = refl; standard = refl }
changed-same change k cpu (Some who) = same-context k cpu who (change (context_of k cpu who))

served-leaves : {P Q : KernelState → Type 0} (k now : KernelState) (cpu : ℕ) (p : Processor)
    (asked : Result Call Ercd) → Calls P Q k cpu → Same now k →
    processor_at now cpu ≡ Some p → MayBe now.standard p (caller_on now cpu) asked → P now → Q (served_call now cpu asked).kernel
served-leaves k now cpu p (Ok c) law same there may was = law.serves now p c same there may was
served-leaves k now cpu p (Err code) law same there may was = law.quiet now was

either : (Q : KernelState → Type 0) (test : Bool) (one other : KernelState) → Q one → Q other →
    Q (if test then one else other)
either Q true one other first second = first
either Q false one other first second = second

read-leaves : {P Q : KernelState → Type 0} (k : KernelState) (cpu : ℕ) (s : State) (p : Processor) → Calls P Q k cpu →
    IsActive (processor_at k cpu) p → P k →
    Q (called_in k cpu (caller_of k cpu) (Some s))
read-leaves {P = P} {Q = Q} k cpu s p law is was =
    let on : KernelState = with_changed_context advanced k cpu in
    let same : Same on k = changed-same advanced k cpu (executor_on k cpu) in
    let there : processor_at on cpu ≡ Some p = ap (λ ps. slice_index_or ps cpu None) same.processors ∙ is.there in
    let asked : Result Call Ercd = read_of s (caller_of k cpu) in
    let may : MayBe on.standard p (caller_on on cpu) asked =
    subst (λ standard. MayBe standard p (caller_on on cpu) asked) (sym same.standard)
    (subst (λ found. MayBe k.standard p (unwrap_or (running_in found) 0) asked) (sym there)
    (subst (λ found. MayBe k.standard p (unwrap_or p.running 0)
    (read_of s (record { agent = agent_in (unwrap_or (running_in found) 0) found; standard = k.standard })))
    (sym is.there)
    (read-may k.standard p s is.on is.by))) in
    let done : Served = served_call on cpu asked in
    let left : Q done.kernel =
    served-leaves k on cpu p asked law same there may
    (changed-leaves P advanced k cpu (executor_on k cpu) (law.goes_on k) was) in
    either Q (is_again k asked) k _ (law.quiet k was)
    (changed-leaves Q (λ c. written c done.reply) done.kernel cpu (executor_on done.kernel cpu)
    (law.replies done.kernel) left)

some-map : (who : Option Executor) (k : KernelState) (cpu : ℕ) → is_some (option_map (context_of k cpu) who) ≡ true →
    is_some who ≡ true
some-map None k cpu is = absurd (false≢true is)
some-map (Some who) k cpu is = refl

in-leaves : {P Q : KernelState → Type 0} (k : KernelState) (cpu : ℕ) (s : Option State) → Calls P Q k cpu →
    context_on k cpu ≡ s → P k →
    Q (called_in k cpu (caller_of k cpu) s)
in-leaves k cpu None law is was = law.quiet k was
in-leaves k cpu (Some s) law is was =
    let who : Active (processor_at k cpu) =
    active (processor_at k cpu) (some-map (executor_on k cpu) k cpu (ap is_some is)) in
    read-leaves k cpu s who.p law who.is was

pub called-leaves : {P Q : KernelState → Type 0} (k : KernelState) (cpu : ℕ) → Calls P Q k cpu → P k → Q (called k cpu)
unfolding called
called-leaves k cpu law was = in-leaves k cpu (context_on k cpu) law refl was
