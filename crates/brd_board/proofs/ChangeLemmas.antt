-- Where another task runs than before an event, there is no link after it. Only dispatch changes who runs, and it ends
-- these links.
use Rattle.std.proofs.Common.{◌≡◌, ◌≤◌, ℕ, zero, suc, List, [], ◌∷◌, refl, sym, ap, ◌∙◌, arith}
use Rattle.std.specs.Prelude.{Bool, true, false, not, ◌==◌, nat_lt, if◌then◌else◌, filter, Option, None, Some, is_some, unwrap_or, slice_index_or, slice_set}
use Rattle.std.specs.List.{list_any}
use Rattle.std.proofs.lemmas.Bool.{true≢false, false≢true}
use Rattle.std.proofs.lemmas.Bool.Decides.{nat_tests}
use Rattle.brd_exec.specs.State.{State}
use Rattle.brd_exec.specs.declared.outcome.Outcome.{Outcome}
use Rattle.brd_exec.specs.declared.outcome.Outcome.TheVariants.{Done, Syscall, Exception}
use Rattle.brd_link.specs.LinkSet.{LinkSet, linked_address, without}
use Rattle.brd_link.proofs.LinkLemmas.{linked_address-without_all}
use Rattle.brd_mem.specs.Memory.{Memory}
use Rattle.brd_kernel.specs.declared.processor.Processor.{Processor}
use Rattle.brd_kernel.specs.declared.processor.Executor.{Executor}
use Rattle.brd_kernel.specs.declared.processor.Executor.TheVariants as executor
use Rattle.brd_kernel.specs.Kernel.{KernelState, with_tasks, processor_at, running_in, running_on, unmarked, letting_go, executor_on, with_context_of, handles, accepted_line, deliverable, can_be_raised, with_pending}
use Rattle.brd_board.specs.Executing.{Executed, executed_in, executed}
use Rattle.brd_kernel.specs.Dispatch.{dispatched, is_same_task, has_changed, changed_processors}
use Rattle.brd_kernel.proofs.SameLemmas.{Same, same-quits, same-prioritized, same-law}
use Rattle.brd_kernel.proofs.SpinLemmas.{same-ticked}
use Rattle.brd_kernel.proofs.WalkLemmas.{Anything, Law, serve-always}
use Rattle.brd_tasks.specs.Tasks.{noted, without_activation}
use Rattle.brd_time.specs.Time.{last_count, advanced as time_advanced}
use Rattle.brd_kernel.specs.Waits.{quits_in, prioritized, ticked_on, faulted_task, faulted_in}
use Rattle.brd_kernel.specs.Services.{unmarked_on, caller_on}
use Rattle.brd_sysgate.specs.Gate.{called}
use Rattle.brd_board.proofs.CallingLemmas.{Calls, called-leaves}
use Rattle.brd_board.specs.declared.event.Event.{Event}
use Rattle.brd_board.specs.declared.event.Event.TheVariants.{Step, Tick, Raise}
use Rattle.brd_board.specs.Board.{BoardState, Happened, dispatched_board, with_call, with_fault, happens, happens_on, stepped_in, accepts_or_executes, executes_in, instruction_done, with_executed}

-- every processor has the same running task
abbrev KeepsRunners : KernelState → KernelState → Type 0
KeepsRunners new old = (at : ℕ) → running_on new at ≡ running_on old at

-- a processor is written anew, with the same running task
runners-set : (ps : List (Option Processor)) (cpu at : ℕ) (p q : Processor) → slice_index_or ps cpu None ≡ Some p → q.running ≡ p.running →
    running_in (slice_index_or (slice_set ps cpu (Some q)) at None) ≡ running_in (slice_index_or ps at None)
runners-set [] cpu at p q is same = absurd (false≢true (ap is_some is))
runners-set (x ∷ ps) zero zero p q is same = same ∙ ap running_in (sym is)
runners-set (x ∷ ps) zero (suc at) p q is same = refl
runners-set (x ∷ ps) (suc cpu) zero p q is same = refl
runners-set (x ∷ ps) (suc cpu) (suc at) p q is same = runners-set ps cpu at p q is same

-- What keeps the processors.

runs : (new old : KernelState) → Same new old → KeepsRunners new old
runs new old same = λ at. ap (λ ps. running_in (slice_index_or ps at None)) same.processors

-- Service calls.

keeps-unmarked : (k : KernelState) (cpu : ℕ) (found : Option Processor) → processor_at k cpu ≡ found → KeepsRunners (unmarked_on k cpu found) k
keeps-unmarked k cpu None is = λ at. refl
keeps-unmarked k cpu (Some p) is = λ at. runners-set k.processors cpu at p (unmarked p) is refl

keeps-exit : (k : KernelState) (cpu caller : ℕ) → KeepsRunners (unmarked_on (quits_in k caller) cpu (processor_at k cpu)) k
keeps-exit k cpu caller =
    let out : KernelState = quits_in k caller in
    λ at. keeps-unmarked out cpu (processor_at k cpu) (ap (λ ps. slice_index_or ps cpu None) (same-quits k caller).processors) at
    ∙ runs out k (same-quits k caller) at

runners-law : (k : KernelState) (cpu caller : ℕ) → Law Anything (λ new. KeepsRunners new k) k cpu caller
runners-law k cpu caller = same-law (λ new. KeepsRunners new k) k cpu caller (record {
  same = λ new is. runs new k is;
  exits = λ may. keeps-exit k cpu caller;
  marks = λ p q there same how at. runners-set k.processors cpu at p q there same;
  returns = λ (p : Processor) there at. runners-set k.processors cpu at p (record (letting_go p) { handling = None }) there refl;
})

keeps-context : (k : KernelState) (cpu : ℕ) (who : Executor) (s : State) → KeepsRunners (with_context_of k cpu who s) k
keeps-context k cpu executor.Handler s = λ at. refl
keeps-context k cpu (executor.Task id) s = λ at. refl

calls-keep : (k : KernelState) (cpu : ℕ) → Calls (λ new. KeepsRunners new k) (λ new. KeepsRunners new k) k cpu
calls-keep k cpu = record {
  quiet = λ now was. was;
  goes_on = λ now who s was at. keeps-context now cpu who s at ∙ was at;
  replies = λ now who s was at. keeps-context now cpu who s at ∙ was at;
  serves = λ now p c same there may was at.
      serve-always (λ new. KeepsRunners new now) now cpu (runners-law now cpu (caller_on now cpu))
      (λ new kept at. runs (prioritized new) new (same-prioritized new) at ∙ kept at) c at ∙ was at;
}

keeps-called : (k : KernelState) (cpu : ℕ) → KeepsRunners (called k cpu) k
keeps-called k cpu = called-leaves k cpu (calls-keep k cpu) (λ at. refl)

-- Interrupts and exceptions.

keeps-handles : (k : KernelState) (cpu line : ℕ) (found : Option Processor) → processor_at k cpu ≡ found → KeepsRunners (handles k cpu line found) k
keeps-handles k cpu line None is = λ at. refl
keeps-handles k cpu line (Some p) is = λ at. runners-set k.processors cpu at p (record p { handling = Some line }) is refl

keeps-faulted_task : (k : KernelState) (cpu : ℕ) (p : Processor) (running : Option ℕ) → processor_at k cpu ≡ Some p → KeepsRunners (faulted_task k cpu p running) k
keeps-faulted_task k cpu p None is = λ at. refl
keeps-faulted_task k cpu p (Some id) is =
    let noted-one : KernelState = with_tasks k (noted without_activation k.tasks id) in
    let out : KernelState = quits_in noted-one id in
    let only : Same out noted-one = same-quits noted-one id in
    let same : Same out k = record { processors = only.processors; spin_locks = only.spin_locks; standard = only.standard } in
    λ at. runners-set out.processors cpu at p (unmarked p) (ap (λ ps. slice_index_or ps cpu None) same.processors ∙ is) refl ∙ runs out k same at

keeps-runners-if : (test : Bool) (old one other : KernelState) → KeepsRunners one old → KeepsRunners other old → KeepsRunners (if test then one else other) old
keeps-runners-if true old one other first second = first
keeps-runners-if false old one other first second = second

keeps-faulted : (k : KernelState) (cpu : ℕ) (found : Option Processor) → processor_at k cpu ≡ found → KeepsRunners (faulted_in k cpu found) k
keeps-faulted k cpu None is = λ at. refl
keeps-faulted k cpu (Some p) is =
    keeps-runners-if (is_some p.handling) k _ _ (λ at. runners-set k.processors cpu at p (record (letting_go p) { stopped = true }) is refl)
    (keeps-faulted_task k cpu p p.running is)

keeps-executed : (k : KernelState) (cpu : ℕ) (memory : Memory) (links : LinkSet) (who : Option Executor) (e : Executed) →
    executed_in k cpu memory links who ≡ Some e → KeepsRunners e.kernel k
keeps-executed k cpu memory links None e is = absurd (false≢true (ap is_some is))
keeps-executed k cpu memory links (Some who) e is =
    λ at. ap (λ (o : Option Executed). running_on (unwrap_or o e).kernel at) (sym is) ∙ keeps-context k cpu who _ at

-- Links.

same-task : (r : Option ℕ) → is_same_task r r ≡ true
same-task None = refl
same-task (Some id) = grind (arith, nat_tests)

filter-by : (test same : Bool) (p : ℕ → Bool) (q c : ℕ) (cs : List ℕ) → p c ≡ test → (q == c) ≡ same → p q ≡ true →
    list_any (λ n. q == n) (filter p cs) ≡ list_any (λ n. q == n) cs → list_any (λ n. q == n) (filter p (c ∷ cs)) ≡ list_any (λ n. q == n) (c ∷ cs)
filter-by true same p q c cs test is chosen others = grind (arith, test, others)
filter-by false true p q c cs test is chosen others =
    let one : q ≡ c = grind (arith, nat_tests, is) in
    absurd (true≢false (sym chosen ∙ ap p one ∙ test))
filter-by false false p q c cs test is chosen others = grind (arith, test, is, others)

any-filter : (p : ℕ → Bool) (q : ℕ) (cs : List ℕ) → p q ≡ true → list_any (λ n. q == n) (filter p cs) ≡ list_any (λ n. q == n) cs
any-filter p q [] chosen = refl
any-filter p q (c ∷ cs) chosen = filter-by (p c) (q == c) p q c cs refl refl chosen (any-filter p q cs chosen)

-- what an event leaves: no link where another task runs
abbrev EndsLinks : BoardState → BoardState → Type 0
EndsLinks b after = (cpu : ℕ) → 1 ≤ cpu → cpu ≤ 8 → has_changed b.kernel after.kernel cpu ≡ true → linked_address after.links cpu ≡ None

ends-reported : (b c : BoardState) → KeepsRunners c.kernel b.kernel → EndsLinks b c
ends-reported b c keeps cpu low high other =
    absurd (false≢true (sym (ap not (ap (is_same_task (running_on b.kernel cpu)) (keeps cpu) ∙ same-task (running_on b.kernel cpu))) ∙ other))

ends-dispatched : (b c : BoardState) → KeepsRunners c.kernel b.kernel → EndsLinks b (dispatched_board c)
ends-dispatched b c keeps cpu low high other =
    let here : has_changed c.kernel (dispatched c.kernel) cpu ≡ true =
    ap (λ r. not (is_same_task r (running_on (dispatched c.kernel) cpu))) (keeps cpu) ∙ other in
    let in_range : list_any (λ n. cpu == n) (1 ∷ 2 ∷ 3 ∷ 4 ∷ 5 ∷ 6 ∷ 7 ∷ 8 ∷ []) ≡ true = grind (arith, nat_tests, low, high) in
    let among : list_any (λ n. cpu == n) (changed_processors c.kernel (dispatched c.kernel)) ≡ true =
    any-filter (has_changed c.kernel (dispatched c.kernel)) cpu (1 ∷ 2 ∷ 3 ∷ 4 ∷ 5 ∷ 6 ∷ 7 ∷ 8 ∷ []) here ∙ in_range in
    linked_address-without_all c.links (changed_processors c.kernel (dispatched c.kernel)) cpu ∙ ap (λ t. if t then None else linked_address c.links cpu) among

ends-either : (test : Bool) (b : BoardState) (one other : Happened) → EndsLinks b one.board → EndsLinks b other.board → EndsLinks b (if test then one else other).board
ends-either true b one other first second = first
ends-either false b one other first second = second

ends-done : (b c : BoardState) (cpu address : ℕ) (outcome : Outcome) → KeepsRunners c.kernel b.kernel → EndsLinks b (instruction_done c cpu address outcome).board
ends-done b c cpu address Done keeps = ends-reported b c keeps
ends-done b c cpu address Syscall keeps = ends-dispatched b (with_call c cpu) (λ at. keeps-called c.kernel cpu at ∙ keeps at)
ends-done b c cpu address (Exception code epc bd) keeps =
    ends-dispatched b (with_fault c cpu (record { code = code; epc = epc; bd = bd })) (λ at. runs (prioritized (faulted_in c.kernel cpu (processor_at c.kernel cpu))) (faulted_in c.kernel cpu (processor_at c.kernel cpu))
    (same-prioritized (faulted_in c.kernel cpu (processor_at c.kernel cpu))) at
    ∙ keeps-faulted c.kernel cpu (processor_at c.kernel cpu) refl at ∙ keeps at)

ends-executes : (b : BoardState) (cpu : ℕ) (done : Option Executed) → executed b.kernel cpu b.memory b.links ≡ done → EndsLinks b (executes_in b cpu done).board
ends-executes b cpu None is = ends-reported b b (λ at. refl)
ends-executes b cpu (Some e) is =
    ends-done b (with_executed b e) cpu e.ended.address e.ended.outcome (keeps-executed b.kernel cpu b.memory b.links (executor_on b.kernel cpu) e is)

ends-accepts : (b : BoardState) (cpu : ℕ) (line : Option ℕ) → EndsLinks b (accepts_or_executes b cpu line).board
ends-accepts b cpu None = ends-executes b cpu (executed b.kernel cpu b.memory b.links) refl
ends-accepts b cpu (Some line) = ends-dispatched b (record b { kernel = accepted_line b.kernel cpu line; links = without b.links cpu }) (keeps-handles b.kernel cpu line (processor_at b.kernel cpu) refl)

ends-stepped : (b : BoardState) (cpu : ℕ) (found : Option Processor) → EndsLinks b (stepped_in b cpu found).board
ends-stepped b cpu None = ends-reported b b (λ at. refl)
ends-stepped b cpu (Some p) = ends-either p.stopped b _ _ (ends-reported b b (λ at. refl)) (ends-accepts b cpu (deliverable b.kernel cpu))

ends-on : (b : BoardState) (event : Event) → EndsLinks b (happens_on b event).board
ends-on b (Step cpu) = ends-stepped b cpu (processor_at b.kernel cpu)
ends-on b Tick = ends-either (nat_lt b.kernel.time.count last_count) b _ _
    (ends-dispatched b (record b { kernel = ticked_on b.kernel (time_advanced b.kernel.time) })
    (runs (ticked_on b.kernel (time_advanced b.kernel.time)) b.kernel (same-ticked b.kernel))) (ends-reported b b (λ at. refl))
ends-on b (Raise line) = ends-either (can_be_raised b.kernel line) b _ _ (ends-reported b (record b { kernel = with_pending b.kernel line }) (λ at. refl)) (ends-reported b b (λ at. refl))

pub change-ends-links : (b : BoardState) (event : Event) → EndsLinks b (happens b event).board
unfolding happens
change-ends-links b event = ends-either b.kernel.off b _ _ (ends-reported b b (λ at. refl)) (ends-on b event)
