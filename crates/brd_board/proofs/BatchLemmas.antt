-- Steps of a processor that go on change the context in which they are executed, memory and links, and nothing else.
use Rattle.std.proofs.Common.{◌≡◌, ℕ, zero, suc, ◌+◌, ◌<◌, Bool, true, false, if◌then◌else◌, List, replicate, refl, sym, ap, subst, ◌∙◌, length-set, inl, inr, arith}
use Rattle.std.specs.Prelude.{Option, None, Some, IfSome, is_some}
use Rattle.std.proofs.lemmas.Bool.{cases_lt}
use Rattle.std.proofs.lemmas.List.{get_or-set_same, set-set, set-get_or}
use Rattle.brd_mem.specs.Memory.{Memory}
use Rattle.brd_mem.specs.Window.{window_start, window_at}
use Rattle.brd_link.specs.LinkSet.{LinkSet}
use Rattle.brd_exec.specs.declared.outcome.Outcome.TheVariants.{Done}
use Rattle.brd_exec.specs.State.{State}
use Rattle.brd_exec.specs.Step.{Effect, effect, Ran, ended, ran}
use Rattle.brd_exec.specs.Went.{Machine, went_by, went_on, went}
use Rattle.brd_exec.specs.Lent.{lent}
use Rattle.brd_exec.proofs.LentLemmas.{lent-steps}
use Rattle.brd_tasks.specs.Tasks.{no_context}
use Rattle.brd_kernel.specs.declared.processor.Processor.{Processor}
use Rattle.brd_kernel.specs.declared.processor.Executor.{Executor}
use Rattle.brd_kernel.specs.declared.processor.Executor.TheVariants as executor
use Rattle.brd_kernel.specs.Kernel.{KernelState, processor_at, executor_by, executor_in, executor_on, context_of, with_context_of, deliverable}
use Rattle.brd_board.specs.Executing.{executed_by, executed_in}
use Rattle.brd_kernel.specs.Always.{HasPlace}
use Rattle.brd_board.specs.declared.event.Event.{Event}
use Rattle.brd_board.specs.declared.event.Event.TheVariants.{Step}
use Rattle.brd_board.specs.declared.event.Report.TheVariants as report
use Rattle.brd_board.specs.Board.{BoardState, Happened, reported, with_executed, instruction_done, executes_in, accepts_or_executes, stepped_in, stepped, happens, after}
use Rattle.brd_board.specs.Batch.{GoesOn, GoesBatch, Runs, AllRun, machine_of, with_machine}

-- One step.

isnt-stopped : (stopped : Bool) (by : Option Executor) (who : Executor) → (if stopped then None else by) ≡ Some who → stopped ≡ false
isnt-stopped true by who is = let wrong : ⊥ = cc in absurd wrong
isnt-stopped false by who is = refl

-- who executes does so on a processor that is there, and isn't stopped
executes-on : (found : Option Processor) (who : Executor) → executor_in found ≡ Some who →
    (p : Processor) × (found ≡ Some p) × (p.stopped ≡ false)
executes-on None who is = let wrong : ⊥ = cc in absurd wrong
executes-on (Some p) who is = (p, refl, isnt-stopped p.stopped (executor_by p.running p.handling) who is)

ran-done : (how : Effect) (s : State) (memory : Memory) (m : Machine) → went_by how ≡ Some m →
    ended how s memory ≡ record { state = m.state; memory = m.memory; links = m.links; outcome = Done }
ran-done (Effect.Goes to stored links) s memory m is =
    let same : (record { state = to; memory = stored; links = links }) ≡ m = cc in
    ap (λ (x : Machine). record { state = x.state; memory = x.memory; links = x.links; outcome = Done }) same
ran-done (Effect.Stops stop links) s memory m is = let wrong : ⊥ = cc in absurd wrong

step-goes : (b : BoardState) (cpu : ℕ) (who : Executor) (m : Machine) → GoesOn b cpu who →
    went_by (effect cpu (context_of b.kernel cpu who) b.memory b.links) ≡ Some m →
    happens b (Step cpu) ≡ reported (with_machine b cpu who m) (report.Ran (context_of b.kernel cpu who).pc)
unfolding happens ran
step-goes b cpu who m goes is =
    let s = context_of b.kernel cpu who in
    let on = executes-on (processor_at b.kernel cpu) who goes.executes in
    ap (λ test. if test then reported b report.Off else stepped b cpu) goes.on
    ∙ ap (stepped_in b cpu) on.1
    ∙ ap (λ test. if test then reported b report.Stopped else accepts_or_executes b cpu (deliverable b.kernel cpu)) on.2
    ∙ ap (accepts_or_executes b cpu) goes.uninterrupted
    ∙ ap (λ by. executes_in b cpu (executed_in b.kernel cpu b.memory b.links by)) goes.executes
    ∙ ap (λ (left : Ran). instruction_done (with_executed b (executed_by b.kernel cpu who s.pc left)) cpu s.pc left.outcome)
    (ran-done (effect cpu s b.memory b.links) s b.memory m is)

-- The board goes on after a step.

still-goes : (b : BoardState) (cpu : ℕ) (who : Executor) (m : Machine) → GoesOn b cpu who → GoesOn (with_machine b cpu who m) cpu who
still-goes b cpu executor.Handler m goes = record {
  on = goes.on;
  executes = goes.executes;
  uninterrupted = goes.uninterrupted;
  place = subst (λ n. cpu < n) (sym (length-set b.kernel.handler_contexts cpu m.state)) goes.place;
}
still-goes b cpu (executor.Task id) m goes = record {
  on = goes.on;
  executes = goes.executes;
  uninterrupted = goes.uninterrupted;
  place = subst (λ n. id < n) (sym (length-set b.kernel.tasks.contexts id m.state)) goes.place;
}

-- what was put in place is found there
put-found : (k : KernelState) (cpu : ℕ) (who : Executor) (s : State) → HasPlace k cpu who → context_of (with_context_of k cpu who s) cpu who ≡ s
put-found k cpu executor.Handler s place = get_or-set_same k.handler_contexts cpu s no_context place
put-found k cpu (executor.Task id) s place = get_or-set_same k.tasks.contexts id s no_context place

put-twice : (k : KernelState) (cpu : ℕ) (who : Executor) (s t : State) →
    with_context_of (with_context_of k cpu who s) cpu who t ≡ with_context_of k cpu who t
put-twice k cpu executor.Handler s t =
    ap (λ contexts. record k { handler_contexts = contexts }) (set-set k.handler_contexts cpu s t)
put-twice k cpu (executor.Task id) s t =
    ap (λ contexts. record k { tasks = record k.tasks { contexts = contexts } }) (set-set k.tasks.contexts id s t)

put-same : (k : KernelState) (cpu : ℕ) (who : Executor) → with_context_of k cpu who (context_of k cpu who) ≡ k
put-same k cpu executor.Handler =
    ap (λ contexts. record k { handler_contexts = contexts }) (set-get_or k.handler_contexts cpu no_context)
put-same k cpu (executor.Task id) =
    ap (λ contexts. record k { tasks = record k.tasks { contexts = contexts } }) (set-get_or k.tasks.contexts id no_context)

-- Many steps.

last-event : (count : ℕ) (b : BoardState) (event : Event) →
    after b (replicate (suc count) event) ≡ (happens (after b (replicate count event)) event).board
last-event zero b event = refl
last-event (suc count) b event = last-event count (happens b event).board event

goes-after : (before : Option Machine) (b : BoardState) (cpu : ℕ) (who : Executor) (there : BoardState) (m : Machine) → GoesOn b cpu who →
    ((x : Machine) → before ≡ Some x → there ≡ with_machine b cpu who x) →
    went_on cpu before ≡ Some m → (happens there (Step cpu)).board ≡ with_machine b cpu who m
goes-after None b cpu who there m goes led is = let wrong : ⊥ = cc in absurd wrong
goes-after (Some x) b cpu who there m goes led is =
    let here = with_machine b cpu who x in
    let found : context_of here.kernel cpu who ≡ x.state = put-found b.kernel cpu who x.state goes.place in
    ap (λ (board : BoardState). (happens board (Step cpu)).board) (led x refl)
    ∙ ap (λ (done : Happened). done.board)
    (step-goes here cpu who m (still-goes b cpu who x goes) (ap (λ s. went_by (effect cpu s x.memory x.links)) found ∙ is))
    ∙ ap (λ k. record b { kernel = k; memory = m.memory; links = m.links }) (put-twice b.kernel cpu who x.state m.state)

pub steps-go : (b : BoardState) (cpu count : ℕ) (who : Executor) (m : Machine) → GoesOn b cpu who →
    went cpu count (machine_of b cpu who) ≡ Some m → after b (replicate count (Step cpu)) ≡ with_machine b cpu who m
steps-go b cpu zero who m goes is =
    let same : machine_of b cpu who ≡ m = cc in
    ap (λ k. record b { kernel = k }) (sym (put-same b.kernel cpu who)) ∙ ap (with_machine b cpu who) same
steps-go b cpu (suc count) who m goes is =
    last-event count b (Step cpu)
    ∙ goes-after (went cpu count (machine_of b cpu who)) b cpu who (after b (replicate count (Step cpu))) m goes
    (λ x there. steps-go b cpu count who x goes there) is

pub local-steps-go : (b : BoardState) (cpu count address : ℕ) (who : Executor) (s : State) (window : List ℕ) → GoesOn b cpu who →
    window_at b.memory address ≡ Some window → lent count (context_of b.kernel cpu who) window (window_start address) ≡ Some s →
    after b (replicate count (Step cpu)) ≡ record b { kernel = with_context_of b.kernel cpu who s }
local-steps-go b cpu count address who s window goes whole is =
    steps-go b cpu count who (record { state = s; memory = b.memory; links = b.links }) goes
    (lent-steps count cpu address (context_of b.kernel cpu who) s b.memory b.links window whole is)

-- Batches of steps.

-- events of one kind, some after the others
pub after-both : (first second : ℕ) (b : BoardState) (event : Event) →
    after (after b (replicate first event)) (replicate second event) ≡ after b (replicate (first + second) event)
after-both zero second b event =
    let count : zero + second ≡ second = omega arith in
    rw count refl
after-both (suc first) second b event =
    let count : suc first + second ≡ suc (first + second) = omega arith in
    rw count (after-both first second (happens b event).board event)

pub none-is : (x : Option ℕ) → is_some x ≡ false → x ≡ None
none-is None is = refl
none-is (Some n) is = let wrong : ⊥ = cc in absurd wrong

-- what a batch leaves is the board after its steps
pub batch-goes : (b : BoardState) (cpu count : ℕ) (found : Option Executor) (new : KernelState) (stored : Memory) (linked : LinkSet) →
    b.kernel.off ≡ false → deliverable b.kernel cpu ≡ None → executor_on b.kernel cpu ≡ found → IfSome found (HasPlace b.kernel cpu) →
    GoesBatch found cpu count b.kernel b.memory b.links new stored linked →
    record b { kernel = new; memory = stored; links = linked } ≡ after b (replicate count (Step cpu))
batch-goes b cpu count None new stored linked on uninterrupted executes place batch =
    rw batch.0 (λ i. record b { kernel = batch.1 i; memory = batch.2 i; links = batch.3 i })
batch-goes b cpu count (Some who) new stored linked on uninterrupted executes place batch =
    let m : Machine = record { state = batch.0; memory = stored; links = linked } in
    let goes : GoesOn b cpu who = record { on = on; executes = executes; uninterrupted = uninterrupted; place = place } in
    ap (λ k. record b { kernel = k; memory = stored; links = linked }) batch.1 ∙ sym (steps-go b cpu count who m goes batch.2)

-- Each of them executes an instruction.

some-before : (cpu : ℕ) (before : Option Machine) (m : Machine) → went_on cpu before ≡ Some m → (x : Machine) × (before ≡ Some x)
some-before cpu None m is = let wrong : ⊥ = cc in absurd wrong
some-before cpu (Some x) m is = (x, refl)

-- steps that go on do so from the first one on
goes-so-far : (count n cpu : ℕ) (x m : Machine) → n < count → went cpu count x ≡ Some m → (y : Machine) × (went cpu (suc n) x ≡ Some y)
goes-so-far zero n cpu x m less is = absurd (omega (arith, less))
goes-so-far (suc count) n cpu x m less is =
    elim (cases_lt n count) [
      | inl sooner ↦ let there = some-before cpu (went cpu count x) m is in goes-so-far count n cpu x there.0 sooner there.1
      | inr last ↦ let same : n ≡ count = omega (arith, less, last) in (m, ap (λ k. went cpu (suc k) x) same ∙ is)
    ]

runs-after : (before : Option Machine) (b : BoardState) (cpu : ℕ) (who : Executor) (there : BoardState) (m : Machine) → GoesOn b cpu who →
    ((x : Machine) → before ≡ Some x → there ≡ with_machine b cpu who x) →
    went_on cpu before ≡ Some m → Runs there cpu
runs-after None b cpu who there m goes led is = let wrong : ⊥ = cc in absurd wrong
runs-after (Some x) b cpu who there m goes led is =
    let here = with_machine b cpu who x in
    let found : context_of here.kernel cpu who ≡ x.state = put-found b.kernel cpu who x.state goes.place in (
      (context_of here.kernel cpu who).pc,
      ap (λ (board : BoardState). (happens board (Step cpu)).report) (led x refl)
          ∙ ap (λ (done : Happened). done.report)
          (step-goes here cpu who m (still-goes b cpu who x goes) (ap (λ s. went_by (effect cpu s x.memory x.links)) found ∙ is)),
    )

pub batch-runs : (b : BoardState) (cpu count : ℕ) (found : Option Executor) (new : KernelState) (stored : Memory) (linked : LinkSet) →
    b.kernel.off ≡ false → deliverable b.kernel cpu ≡ None → executor_on b.kernel cpu ≡ found → IfSome found (HasPlace b.kernel cpu) →
    GoesBatch found cpu count b.kernel b.memory b.links new stored linked → AllRun b cpu count
batch-runs b cpu count None new stored linked on uninterrupted executes place batch = λ n less. absurd (omega (arith, less, batch.0))
batch-runs b cpu count (Some who) new stored linked on uninterrupted executes place batch = λ n less.
    let goes : GoesOn b cpu who = record { on = on; executes = executes; uninterrupted = uninterrupted; place = place } in
    let far = goes-so-far count n cpu (machine_of b cpu who) (record { state = batch.0; memory = stored; links = linked }) less batch.2 in
    runs-after (went cpu n (machine_of b cpu who)) b cpu who (after b (replicate n (Step cpu))) far.0 goes (λ x so. steps-go b cpu n who x goes so) far.1
