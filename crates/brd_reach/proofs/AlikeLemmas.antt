-- A board that lags behind another one by invisible instructions fails where that one does.
use Rattle.std.proofs.Common.{◌≡◌, ℕ, zero, suc, ◌+◌, ◌-◌, ◌≤◌, ◌⊎◌, inl, inr, Bool, true, false, not, List, [], ◌∷◌, refl, sym, ap, subst, ◌∙◌, arith}
use Rattle.std.specs.Prelude.{◌%◌, ◌^◌, ◌==◌, ◌&&◌, ◌||◌, if◌then◌else◌, bytes_eq, nat_lt, slice_index, slice_index_or, slice_set, Option, None, Some, is_some}
use Rattle.std.specs.Option.{option_map}
use Rattle.std.specs.List.{All, list_any}
use Rattle.std.proofs.lemmas.Bool.{false≢true, eqb-true, eq-eqb}
use Rattle.std.proofs.lemmas.Bool.Decides.{nat_tests}
use Rattle.std.proofs.lemmas.List.Elements.{All-head, All-tail}
use Rattle.brd_base.specs.Space.{base}
use Rattle.brd_mem.specs.Memory.{Memory, size_of, contains, byte_from, byte_at}
use Rattle.brd_exec.specs.State.{State}
use Rattle.brd_exec.specs.declared.outcome.Outcome.{Outcome}
use Rattle.brd_exec.specs.declared.outcome.Outcome.TheVariants.{Done, Syscall, Exception}
use Rattle.brd_exec.specs.Step.{ran}
use Rattle.brd_tasks.specs.declared.task.Task.{Task}
use Rattle.brd_tasks.specs.Tasks.{no_context, shown, task_at, context_at, with_context}
use Rattle.brd_kernel.specs.declared.processor.Processor.{Processor}
use Rattle.brd_kernel.specs.declared.processor.Executor.{Executor}
use Rattle.brd_kernel.specs.Kernel.{KernelState, processor_at, executor_on, context_of, context_on, deliverable, timer_due}
use Rattle.brd_time.specs.Time.{due_of}
use Rattle.brd_kernel.specs.Waits.{shown_until, seen_at}
use Rattle.brd_board.specs.Executing.{executed_by, executed_in}
use Rattle.brd_board.specs.declared.event.Event.TheVariants.{Step}
use Rattle.brd_board.specs.declared.event.Report.TheVariants as report
use Rattle.brd_board.specs.Board.{BoardState, Happened, reported, with_executed, instruction_done, executes_in, accepts_or_executes, stepped_in, happens_on, happens, registers_of, task_of}
use Rattle.brd_journal.specs.Still.{did_nothing}
use Rattle.brd_explore.specs.declared.bounds.Bounds.{Bounds}
use Rattle.brd_explore.specs.declared.condition.Condition.{Condition}
use Rattle.brd_explore.specs.declared.condition.Term.{Term}
use Rattle.brd_explore.specs.declared.condition.Term.TheVariants as term
use Rattle.brd_explore.specs.declared.wanted.Ending.{Ending}
use Rattle.brd_explore.specs.declared.wanted.Failure.{Failure}
use Rattle.brd_explore.specs.declared.wanted.Failure.TheVariants as failure
use Rattle.brd_explore.specs.declared.wanted.Wanted.{Wanted}
use Rattle.brd_explore.specs.Schedules.{does}
use Rattle.brd_explore.specs.Failures.{some_below, nobody_goes, waits, has_due, is_due, some_are_due, is_stuck, word_in, word_of, is_value, is_between, are_values, is_ending, begins_with, is_at, fails_by_now, fails_at_last, fails_now, lacks, is_at_rest, is_end, is_cut, fails_fairly, goes_fairly, fails_at}
use Rattle.brd_frames.specs.Agents as agents
use Rattle.brd_frames.specs.Agents.{Agent, agent_by, context_in, with_context_in}
use Rattle.brd_frames.specs.Touching.{stores, changed, put_at}
use Rattle.brd_frames.specs.Lagging.{Sharing, IsInvisible, Lags}
use Rattle.brd_frames.proofs.DeedLemmas.{get-bytes}
use Rattle.brd_frames.proofs.FootprintLemmas.{PutsAt, put-keeps, put-length, stores-touches}
use Rattle.brd_frames.proofs.GoingLemmas.{context-by}
use Rattle.brd_frames.proofs.LagLemmas.{Leads, leads, leads-kernel}
use Rattle.brd_explore.specs.Failures.{worth, plus, sum_of, is_so, holds}
use Rattle.brd_reach.specs.Reaching.{IsSharedTerm, IsSharedWord, IsGuarded, IsSeen, Guards}

-- Whether a step does something is a matter of the kernel, but for contexts.

abbrev goes_by : Option ℕ → Option Executor → Bool
goes_by (Some line) who = true
goes_by None (Some who) = true
goes_by None None = false

abbrev goes_in : KernelState → ℕ → Option Processor → Bool
goes_in k cpu None = false
goes_in k cpu (Some p) = if p.stopped then false else goes_by (deliverable k cpu) (executor_on k cpu)

abbrev goes_on : KernelState → ℕ → Bool
goes_on k cpu = if k.off then false else goes_in k cpu (processor_at k cpu)

abbrev did : Happened → Bool
did done = not (did_nothing done.report)

did-instruction : (b : BoardState) (cpu address : ℕ) (outcome : Outcome) → did (instruction_done b cpu address outcome) ≡ true
did-instruction b cpu address Done = refl
did-instruction b cpu address Syscall = refl
did-instruction b cpu address (Exception code epc bd) = refl

did-execute : (b : BoardState) (cpu : ℕ) (by : Option Executor) →
    did (executes_in b cpu (executed_in b.kernel cpu b.memory b.links by)) ≡ goes_by None by
did-execute b cpu None = refl
did-execute b cpu (Some who) =
    let s : State = context_of b.kernel cpu who in
    let left = ran cpu s b.memory b.links in
    did-instruction (with_executed b (executed_by b.kernel cpu who s.pc left)) cpu s.pc left.outcome

did-accept : (b : BoardState) (cpu : ℕ) (line : Option ℕ) → did (accepts_or_executes b cpu line) ≡ goes_by line (executor_on b.kernel cpu)
did-accept b cpu (Some line) = refl
did-accept b cpu None = did-execute b cpu (executor_on b.kernel cpu)

did-unless : (test : Bool) (one other : Happened) (goes : Bool) → did one ≡ false → did other ≡ goes →
    did (if test then one else other) ≡ (if test then false else goes)
did-unless true one other goes none is = none
did-unless false one other goes none is = is

did-step : (b : BoardState) (cpu : ℕ) (found : Option Processor) → did (stepped_in b cpu found) ≡ goes_in b.kernel cpu found
did-step b cpu None = refl
did-step b cpu (Some p) =
    did-unless p.stopped (reported b report.Stopped) (accepts_or_executes b cpu (deliverable b.kernel cpu))
    (goes_by (deliverable b.kernel cpu) (executor_on b.kernel cpu)) refl (did-accept b cpu (deliverable b.kernel cpu))

does-is : (b : BoardState) (cpu : ℕ) → does b (Step cpu) ≡ goes_on b.kernel cpu
unfolding does happens
does-is b cpu =
    did-unless b.kernel.off (reported b report.Off) (happens_on b (Step cpu)) (goes_in b.kernel cpu (processor_at b.kernel cpu)) refl
    (did-step b cpu (processor_at b.kernel cpu))

goes-put : (k : KernelState) (who : Agent) (s : State) (cpu : ℕ) → goes_on (with_context_in k who s) cpu ≡ goes_on k cpu
goes-put k (agents.Task id) s cpu = refl
goes-put k (agents.Handler at) s cpu = refl

-- So is whether a task waits, and until when.

waits-shown : (due : Option ℕ) (one other : State) (task : Option Task) →
    waits (option_map (shown_until due) (option_map (shown one) task)) ≡ waits (option_map (shown_until due) (option_map (shown other) task))
waits-shown due one other None = refl
waits-shown due one other (Some task) = refl

due-shown : (due : Option ℕ) (one other : State) (task : Option Task) →
    has_due (option_map (shown_until due) (option_map (shown one) task)) ≡ has_due (option_map (shown_until due) (option_map (shown other) task))
due-shown due one other None = refl
due-shown due one other (Some task) = refl

waits-put : (k : KernelState) (who : Agent) (s : State) (id : ℕ) → waits (seen_at (with_context_in k who s) id) ≡ waits (seen_at k id)
waits-put k (agents.Task at) s id =
    waits-shown (due_of k.time id) (context_at (with_context k.tasks at s) id) (context_at k.tasks id) (task_at k.tasks id)
waits-put k (agents.Handler at) s id = refl

due-put : (k : KernelState) (who : Agent) (s : State) (id : ℕ) → has_due (seen_at (with_context_in k who s) id) ≡ has_due (seen_at k id)
due-put k (agents.Task at) s id =
    due-shown (due_of k.time id) (context_at (with_context k.tasks at s) id) (context_at k.tasks id) (task_at k.tasks id)
due-put k (agents.Handler at) s id = refl

-- So is whether a time handler is due.

handler-due-put : (k : KernelState) (who : Agent) (s : State) (place : ℕ) → timer_due (with_context_in k who s) place ≡ timer_due k place
handler-due-put k (agents.Task at) s place = refl
handler-due-put k (agents.Handler at) s place = refl

off-put : (k : KernelState) (who : Agent) (s : State) → (with_context_in k who s).off ≡ k.off
off-put k (agents.Task at) s = refl
off-put k (agents.Handler at) s = refl

console-put : (k : KernelState) (who : Agent) (s : State) → (with_context_in k who s).console ≡ k.console
console-put k (agents.Task at) s = refl
console-put k (agents.Handler at) s = refl

-- Bytes to which an instruction doesn't store stay.

byte-by : (inside : Bool) (one two : ℕ) → (inside ≡ true → two ≡ one) → (if inside then Some two else None) ≡ (if inside then Some one else None)
byte-by true one two same = ap Some (same refl)
byte-by false one two same = refl

byte-same : (one two : Memory) (address : ℕ) → size_of two ≡ size_of one →
    (base ≤ address → slice_index two.bytes (address - base) ≡ slice_index one.bytes (address - base)) → byte_at two address ≡ byte_at one address
byte-same one two address size same =
    ap (λ n. if contains n address 1 then Some (byte_from two (address - base)) else None) size
    ∙ byte-by (contains (size_of one) address 1) (byte_from one (address - base)) (byte_from two (address - base)) (λ inside.
    let from : base ≤ address = grind (arith, nat_tests, inside) in
    let place : address - base + 0 ≡ address - base = omega arith in
    get-bytes two (address - base) 1 0 (omega arith) ∙ ap (slice_index two.bytes) place ∙ same from
    ∙ ap (slice_index one.bytes) (sym place) ∙ sym (get-bytes one (address - base) 1 0 (omega arith)))

byte-put : (memory : Memory) (first : ℕ) (bytes : List ℕ) (stored : ℕ → Bool) (address : ℕ) → PutsAt stored memory first bytes →
    stored address ≡ false → byte_at (changed memory (put_at (first - base) bytes)) address ≡ byte_at memory address
byte-put memory first bytes stored address puts none =
    byte-same memory (changed memory (put_at (first - base) bytes)) address (put-length (first - base) bytes memory.bytes)
    (λ above. put-keeps (first - base) (address - base) bytes memory.bytes (λ i below is.
    let there : address ≡ first + i = omega (arith, is, above, puts.from) in
    false≢true (sym none ∙ puts.at address (omega (arith, there)) (omega (arith, there, below)))))

-- Who stands at an instruction to which nobody comes unseen.

set-choice : {X : Type 0} (xs : List X) (i j : ℕ) (x d : X) →
    (slice_index_or (slice_set xs i x) j d ≡ x) ⊎ (slice_index_or (slice_set xs i x) j d ≡ slice_index_or xs j d)
set-choice [] i j x d = inr refl
set-choice (y ∷ ys) zero zero x d = inl refl
set-choice (y ∷ ys) zero (suc j) x d = inr refl
set-choice (y ∷ ys) (suc i) zero x d = inr refl
set-choice (y ∷ ys) (suc i) (suc j) x d = set-choice ys i j x d

context-choice : (k : KernelState) (who x : Agent) (s : State) →
    (context_in (with_context_in k who s) x ≡ s) ⊎ (context_in (with_context_in k who s) x ≡ context_in k x)
context-choice k (agents.Task id) (agents.Task at) s = set-choice k.tasks.contexts id at s no_context
context-choice k (agents.Task id) (agents.Handler at) s = inr refl
context-choice k (agents.Handler cpu) (agents.Task at) s = inr refl
context-choice k (agents.Handler cpu) (agents.Handler at) s = set-choice k.handler_contexts cpu at s no_context

executor-put : (k : KernelState) (who : Agent) (s : State) (cpu : ℕ) → executor_on (with_context_in k who s) cpu ≡ executor_on k cpu
executor-put k (agents.Task id) s cpu = refl
executor-put k (agents.Handler at) s cpu = refl

stands-by : (by : Sharing) (k : KernelState) (who : Agent) (s : State) (cpu address : ℕ) (found : Option Executor) → by.seen s.pc ≡ false →
    by.seen address ≡ true → is_at address (option_map (context_of (with_context_in k who s) cpu) found) ≡ true →
    is_at address (option_map (context_of k cpu) found) ≡ true
stands-by by k who s cpu address None unseen seen at = at
stands-by by k who s cpu address (Some x) unseen seen at =
    let new : KernelState = with_context_in k who s in
    let there : (context_in new (agent_by cpu x)).pc ≡ address =
    ap (λ (c : State). c.pc) (context-by new cpu x) ∙ eqb-true (context_of new cpu x).pc address at in
    elim (context-choice k who (agent_by cpu x) s) [
      | inl own ↦
          absurd (false≢true
          (sym unseen ∙ ap by.seen (sym (ap (λ (c : State). c.pc) own) ∙ there) ∙ seen))
      | inr same ↦
          eq-eqb (context_of k cpu x).pc address
          (ap (λ (c : State). c.pc) (sym (context-by k cpu x)) ∙ sym (ap (λ (c : State). c.pc) same) ∙ there)
    ]

stands-put : (by : Sharing) (k : KernelState) (who : Agent) (s : State) (cpu address : ℕ) → by.seen s.pc ≡ false → by.seen address ≡ true →
    is_at address (context_on (with_context_in k who s) cpu) ≡ true → is_at address (context_on k cpu) ≡ true
stands-put by k who s cpu address unseen seen at =
    stands-by by k who s cpu address (executor_on k cpu) unseen seen
    (subst (λ found. is_at address (option_map (context_of (with_context_in k who s) cpu) found) ≡ true) (executor-put k who s cpu) at)

-- What failures are about is the same on two boards; but of instructions to which nobody comes unseen this alone, that a
-- processor that stands at one of them on the second board does so on the first.
pub record Alike (by : Sharing) (b c : BoardState) : Type 0 where
  pub off : c.kernel.off ≡ b.kernel.off
  pub console : c.kernel.console ≡ b.kernel.console
  pub faults : c.faults ≡ b.faults
  pub goes : (cpu : ℕ) → does c (Step cpu) ≡ does b (Step cpu)
  pub waiting : (id : ℕ) → waits (task_of c id) ≡ waits (task_of b id)
  pub due : (id : ℕ) → has_due (task_of c id) ≡ has_due (task_of b id)
  pub handlers : (place : ℕ) → is_due c place ≡ is_due b place
  pub order : c.memory.order ≡ b.memory.order
  pub bytes : (address : ℕ) → by.shared address ≡ true → byte_at c.memory address ≡ byte_at b.memory address
  pub stands : (cpu address : ℕ) → by.seen address ≡ true → is_at address (registers_of c cpu) ≡ true →
      is_at address (registers_of b cpu) ≡ true

alike-own : (by : Sharing) (b : BoardState) → Alike by b b
alike-own by b = record {
  off = refl;
  console = refl;
  faults = refl;
  goes = λ cpu. refl;
  waiting = λ id. refl;
  due = λ id. refl;
  handlers = λ place. refl;
  order = refl;
  bytes = λ address shared. refl;
  stands = λ cpu address seen at. at;
}

alike-more : (by : Sharing) (a b c : BoardState) → Alike by a b → Alike by b c → Alike by a c
alike-more by a b c one two = record {
  off = two.off ∙ one.off;
  console = two.console ∙ one.console;
  faults = two.faults ∙ one.faults;
  goes = λ cpu. two.goes cpu ∙ one.goes cpu;
  waiting = λ id. two.waiting id ∙ one.waiting id;
  due = λ id. two.due id ∙ one.due id;
  handlers = λ place. two.handlers place ∙ one.handlers place;
  order = two.order ∙ one.order;
  bytes = λ address shared. two.bytes address shared ∙ one.bytes address shared;
  stands = λ cpu address seen at. one.stands cpu address seen (two.stands cpu address seen at);
}

false-by : (x : Bool) → (x ≡ true → ⊥) → x ≡ false
false-by true never = absurd (never refl)
false-by false never = refl

unstored : (by : Sharing) (b new : BoardState) (who : Agent) (address : ℕ) → IsInvisible by b who new → by.shared address ≡ true →
    stores (context_in b.kernel who) b.memory address ≡ false
unstored by b new who address it shared =
    false-by (stores (context_in b.kernel who) b.memory address) (λ stored.
    false≢true (sym (it.apart address (stores-touches (context_in b.kernel who) b.memory address stored)) ∙ shared))

-- an invisible instruction leaves all that so
alike-step : (by : Sharing) (b new : BoardState) (who : Agent) → IsInvisible by b who new → Alike by b new
alike-step by b new who it =
    let led : Leads b who new = leads b who new it.goes in
    let kernel : new.kernel ≡ with_context_in b.kernel who led.gone.context = leads-kernel b who new led in
    record {
      off = ap (λ (k : KernelState). k.off) kernel ∙ off-put b.kernel who led.gone.context;
      console = ap (λ (k : KernelState). k.console) kernel ∙ console-put b.kernel who led.gone.context;
      faults = ap (λ (x : BoardState). x.faults) led.is;
      goes = λ cpu.
          does-is new cpu ∙ ap (λ k. goes_on k cpu) kernel ∙ goes-put b.kernel who led.gone.context cpu ∙ sym (does-is b cpu);
      waiting = λ id. ap (λ k. waits (seen_at k id)) kernel ∙ waits-put b.kernel who led.gone.context id;
      due = λ id. ap (λ k. has_due (seen_at k id)) kernel ∙ due-put b.kernel who led.gone.context id;
      handlers = λ place.
          ap (λ (k : KernelState). is_some (timer_due k place)) kernel
          ∙ ap (λ (due : Option ℕ). is_some due) (handler-due-put b.kernel who led.gone.context place);
      order = ap (λ (x : BoardState). x.memory.order) led.is;
      bytes = λ address shared.
          ap (λ (x : BoardState). byte_at x.memory address) led.is
          ∙ byte-put b.memory led.put.first led.put.bytes (stores (context_in b.kernel who) b.memory) address led.put.puts
          (unstored by b new who address it shared);
      stands = λ cpu address seen at.
          stands-put by b.kernel who led.gone.context cpu address (it.unseen led.gone led.means) seen
          (subst (λ k. is_at address (context_on k cpu) ≡ true) kernel at);
    }

pub alike-lags : (by : Sharing) (b new : BoardState) (steps : List Agent) → Lags by b steps new → Alike by b new
alike-lags by b new [] lags = subst (Alike by b) (sym lags) (alike-own by b)
alike-lags by b new (who ∷ more) lags =
    alike-more by b lags.0 new (alike-step by b lags.0 who lags.1) (alike-lags by lags.0 new more lags.3)

-- So where the second one fails, the first one does.

nobody-alike : (by : Sharing) (b c : BoardState) → Alike by b c → nobody_goes c ≡ nobody_goes b
nobody-alike by b c it = λ i. not (some_below 9 (λ cpu. it.goes cpu i))

due-alike : (by : Sharing) (b c : BoardState) → Alike by b c → some_are_due c ≡ some_are_due b
due-alike by b c it = λ i. some_below 256 (λ id. it.due id i) || some_below 128 (λ place. it.handlers place i)

stuck-alike : (by : Sharing) (b c : BoardState) → Alike by b c → is_stuck c ≡ is_stuck b
stuck-alike by b c it = λ i.
    not (it.off i) && some_below 256 (λ id. it.waiting id i) && not (due-alike by b c it i) && nobody-alike by b c it i

rest-alike : (by : Sharing) (b c : BoardState) → Alike by b c → is_at_rest c ≡ is_at_rest b
unfolding is_at_rest
rest-alike by b c it = λ i. it.off i || (nobody-alike by b c it i && not (due-alike by b c it i))

word-alike : (by : Sharing) (b c : BoardState) (address : ℕ) → Alike by b c → IsSharedWord by address → word_of c address ≡ word_of b address
unfolding word_of
word-alike by b c address it shared = λ i.
    word_in (it.order i) (it.bytes address shared.first i) (it.bytes ((address + 1) % 2 ^ 32) shared.second i)
    (it.bytes ((address + 2) % 2 ^ 32) shared.third i) (it.bytes ((address + 3) % 2 ^ 32) shared.fourth i)

worth-alike : (by : Sharing) (b c : BoardState) (t : Term) → Alike by b c → IsSharedTerm by t → worth c t ≡ worth b t
worth-alike by b c (term.Number number) it shared = refl
worth-alike by b c (term.Word address) it shared = word-alike by b c address it shared

sum-alike : (by : Sharing) (b c : BoardState) (ts : List Term) → Alike by b c → All (IsSharedTerm by) ts → sum_of c ts ≡ sum_of b ts
sum-alike by b c [] it shared = refl
sum-alike by b c (t ∷ ts) it shared = λ i.
    plus (worth-alike by b c t it (All-head (IsSharedTerm by) t ts shared) i)
    (sum-alike by b c ts it (All-tail (IsSharedTerm by) t ts shared) i)

holds-alike : (by : Sharing) (b c : BoardState) (condition : Condition) → Alike by b c → IsGuarded by (failure.Holds condition) →
    holds c condition ≡ holds b condition
unfolding holds
holds-alike by b c condition it shared = λ i.
    is_so condition.order (sum-alike by b c condition.left it shared.left i) (sum-alike by b c condition.right it shared.right i)

values-alike : (by : Sharing) (b c : BoardState) (words values : List ℕ) → Alike by b c → All (IsSharedWord by) words →
    are_values c words values ≡ are_values b words values
values-alike by b c [] [] it shared = refl
values-alike by b c [] (value ∷ values) it shared = refl
values-alike by b c (address ∷ words) [] it shared = refl
values-alike by b c (address ∷ words) (value ∷ values) it shared = λ i.
    is_value value (word-alike by b c address it (All-head (IsSharedWord by) address words shared) i)
    && values-alike by b c words values it (All-tail (IsSharedWord by) address words shared) i

ending-alike : (by : Sharing) (b c : BoardState) (words : List ℕ) (ending : Ending) → Alike by b c → All (IsSharedWord by) words →
    is_ending c words ending ≡ is_ending b words ending
ending-alike by b c words ending it shared = λ i.
    bytes_eq (it.console i) ending.console && values-alike by b c words ending.values it shared i

listed-alike : (by : Sharing) (b c : BoardState) (words : List ℕ) (finals : List Ending) → Alike by b c → All (IsSharedWord by) words →
    list_any (is_ending c words) finals ≡ list_any (is_ending b words) finals
listed-alike by b c words [] it shared = refl
listed-alike by b c words (ending ∷ finals) it shared = λ i.
    ending-alike by b c words ending it shared i || listed-alike by b c words finals it shared i

or-so : (w x y z : Bool) → (w ≡ true → y ≡ true) → (x ≡ true → z ≡ true) → (w || x) ≡ true → (y || z) ≡ true
or-so true x true z one two is = refl
or-so true x false z one two is = absurd (false≢true (one refl))
or-so false x true z one two is = refl
or-so false x false z one two is = two is

some-so : (n : ℕ) (one two : ℕ → Bool) → ((cpu : ℕ) → two cpu ≡ true → one cpu ≡ true) → some_below n two ≡ true → some_below n one ≡ true
unfolding some_below
some-so zero one two so is = is
some-so (suc n) one two so is = or-so (some_below n two) (two n) (some_below n one) (one n) (some-so n one two so) (so n) is

now-fails : (by : Sharing) (b c : BoardState) (f : Failure) → Alike by b c → IsGuarded by f → IsSeen by f → fails_by_now c f ≡ true →
    fails_by_now b f ≡ true
unfolding fails_by_now
now-fails by b c failure.Exception it guarded seen fails =
    sym (ap (λ faults. some_below 9 (λ cpu. is_some (slice_index_or faults cpu None))) it.faults) ∙ fails
now-fails by b c failure.Deadlock it guarded seen fails = sym (stuck-alike by b c it) ∙ fails
now-fails by b c (failure.Console text) it guarded seen fails = sym (ap (λ console. not (begins_with text console)) it.console) ∙ fails
now-fails by b c (failure.Word address value) it guarded seen fails = fails
now-fails by b c (failure.Outside address least most) it guarded seen fails =
    sym (ap (λ word. not (is_between least most word)) (word-alike by b c address it guarded)) ∙ fails
now-fails by b c (failure.Holds condition) it guarded seen fails = sym (holds-alike by b c condition it guarded) ∙ fails
now-fails by b c failure.On it guarded seen fails = fails
now-fails by b c failure.Ended it guarded seen fails = fails
now-fails by b c (failure.Unlisted words finals) it guarded seen fails = fails
now-fails by b c (failure.At address) it guarded seen fails =
    some-so 9 (λ cpu. is_at address (registers_of b cpu)) (λ cpu. is_at address (registers_of c cpu))
    (λ cpu. it.stands cpu address seen) fails

last-alike : (by : Sharing) (b c : BoardState) (f : Failure) → Alike by b c → IsGuarded by f → fails_at_last c f ≡ fails_at_last b f
unfolding fails_at_last
last-alike by b c failure.Exception it guarded = refl
last-alike by b c failure.Deadlock it guarded = refl
last-alike by b c (failure.Console text) it guarded = ap (λ console. not (begins_with console text)) it.console
last-alike by b c (failure.Word address value) it guarded =
    ap (λ word. not (is_value value word)) (word-alike by b c address it guarded)
last-alike by b c (failure.Outside address least most) it guarded = refl
last-alike by b c (failure.Holds condition) it guarded = refl
last-alike by b c (failure.At address) it guarded = refl
last-alike by b c failure.On it guarded = ap not it.off
last-alike by b c failure.Ended it guarded = refl
last-alike by b c (failure.Unlisted words finals) it guarded = ap not (listed-alike by b c words finals it guarded)

any-same : {X : Type 0} (P : X → Type 0) (one two : X → Bool) (xs : List X) → All P xs → ((x : X) → P x → two x ≡ one x) →
    list_any two xs ≡ list_any one xs
any-same P one two [] all same = refl
any-same P one two (x ∷ xs) all same = λ i.
    same x (All-head P x xs all) i || any-same P one two xs (All-tail P x xs all) same i

any-so : {X : Type 0} (P Q : X → Type 0) (one two : X → Bool) (xs : List X) → All P xs → All Q xs →
    ((x : X) → P x → Q x → two x ≡ true → one x ≡ true) → list_any two xs ≡ true → list_any one xs ≡ true
any-so P Q one two [] ps qs so is = is
any-so P Q one two (x ∷ xs) ps qs so is =
    or-so (two x) (list_any two xs) (one x) (list_any one xs) (so x (All-head P x xs ps) (All-head Q x xs qs))
    (any-so P Q one two xs (All-tail P x xs ps) (All-tail Q x xs qs) so) is

no-fair : (wanted : Wanted) (b : BoardState) (left : Bounds) → wanted.rounds ≡ 0 → goes_fairly wanted b left ≡ false
unfolding goes_fairly
no-fair wanted b left none = ap (λ n. nat_lt 0 n && left.owed == 0 && is_cut b left) none

-- what fails without a fair end
abbrev fails_soon : Wanted → BoardState → Bounds → Bool
fails_soon wanted b left = fails_now wanted b || (is_end b left && lacks wanted b)

or-none : (x y : Bool) → (x || (false && y)) ≡ x
or-none true y = refl
or-none false y = refl

fails-soon : (wanted : Wanted) (b : BoardState) (left : Bounds) → wanted.rounds ≡ 0 → fails_at wanted b left ≡ fails_soon wanted b left
unfolding fails_at
fails-soon wanted b left none =
    ap (λ fair. fails_soon wanted b left || (fair && fails_fairly wanted b)) (no-fair wanted b left none)
    ∙ or-none (fails_soon wanted b left) (fails_fairly wanted b)

ends-alike : (by : Sharing) (wanted : Wanted) (b c : BoardState) (one other : Bounds) → Guards by wanted → Alike by b c →
    other.owed ≡ one.owed → (is_end c other && lacks wanted c) ≡ (is_end b one && lacks wanted b)
unfolding is_end
ends-alike by wanted b c one other guards it owed = λ i.
    (it.off i || (owed i == 0 && rest-alike by b c it i))
    && any-same (IsGuarded by) (fails_at_last b) (fails_at_last c) wanted.failures guards.memory (λ f. last-alike by b c f it) i

soon-fails : (by : Sharing) (wanted : Wanted) (b c : BoardState) (one other : Bounds) → Guards by wanted → Alike by b c →
    other.owed ≡ one.owed → fails_soon wanted c other ≡ true → fails_soon wanted b one ≡ true
unfolding fails_now
soon-fails by wanted b c one other guards it owed fails =
    or-so (list_any (fails_by_now c) wanted.failures) (is_end c other && lacks wanted c) (list_any (fails_by_now b) wanted.failures)
    (is_end b one && lacks wanted b)
    (any-so (IsGuarded by) (IsSeen by) (fails_by_now b) (fails_by_now c) wanted.failures guards.memory guards.instructions
    (λ f. now-fails by b c f it))
    (λ is. sym (ends-alike by wanted b c one other guards it owed) ∙ is) fails

pub fails-behind : (by : Sharing) (wanted : Wanted) (b c : BoardState) (one other : Bounds) → wanted.rounds ≡ 0 → Guards by wanted →
    Alike by b c → other.owed ≡ one.owed → fails_at wanted c other ≡ true → fails_at wanted b one ≡ true
fails-behind by wanted b c one other none guards it owed fails =
    fails-soon wanted b one none
    ∙ soon-fails by wanted b c one other guards it owed (sym (fails-soon wanted c other none) ∙ fails)
