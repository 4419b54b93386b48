-- A processor that sleeps could as well execute its instruction later.
use Rattle.std.proofs.Common.{◌≡◌, ℕ, ◌+◌, ◌-◌, ◌<◌, ◌≤◌, ◌%◌, Bool, true, false, if◌then◌else◌, [], ◌∷◌, take, drop, get_or, refl, sym, ap, subst, ◌∙◌, is_some, arith}
use Rattle.std.specs.Prelude.{not, ◌==◌, ◌&&◌, Option, None, Some, Ok, Err}
use Rattle.std.specs.Option.{option_map}
use Rattle.std.proofs.lemmas.Bool.{false≢true, and_parts, not-true}
use Rattle.std.proofs.lemmas.Bool.Decides.{nat_tests}
use Rattle.std.proofs.lemmas.List.{get_or-set_other, get_or-take, get_or-drop, set_comm}
use Rattle.brd_base.specs.Space.{base}
use Rattle.brd_word.specs.declared.order.Order.{Order}
use Rattle.brd_word.specs.Words.{word_of_bytes}
use Rattle.brd_word.proofs.BytesLemmas.{word-by_bytes}
use Rattle.brd_isa.specs.declared.instruction.Insn.{Insn}
use Rattle.brd_isa.specs.Decoding.{decoded}
use Rattle.brd_isa.specs.Local.{is_local}
use Rattle.brd_mem.specs.declared.fault.Exc.{Exc}
use Rattle.brd_mem.specs.Memory.{Memory, size_of, contains, byte_from, word_at}
use Rattle.brd_mem.specs.Access.{at_place, fetched}
use Rattle.brd_link.specs.LinkSet.{LinkSet}
use Rattle.brd_exec.specs.declared.outcome.{ExceptionCode.ExceptionCode, Outcome.Outcome, Stop.Stop}
use Rattle.brd_exec.specs.declared.outcome.Outcome.TheVariants.{Done}
use Rattle.brd_exec.specs.State.{State}
use Rattle.brd_exec.specs.Action.{Action, action, local_context, local_meaning}
use Rattle.brd_exec.specs.Step.{Effect, done, effect, next_instruction, of_fetch, of_word, of_next, has_slot, Ran, ended, ran}
use Rattle.brd_exec.specs.Went.{Machine, went_by}
use Rattle.brd_exec.proofs.LentLemmas.{local-table}
use Rattle.brd_tasks.specs.Tasks.{no_context}
use Rattle.brd_kernel.specs.declared.processor.Processor.{Processor}
use Rattle.brd_kernel.specs.declared.processor.Executor.{Executor}
use Rattle.brd_kernel.specs.declared.processor.Executor.TheVariants as executor
use Rattle.brd_kernel.specs.declared.processor.Standing.TheVariants as standing
use Rattle.brd_kernel.specs.Kernel.{KernelState, processor_at, executor_by, executor_in, executor_on, context_of, with_context_of, standing_by, standing_in, deliverable}
use Rattle.brd_board.specs.Executing.{executed_by, executed_in}
use Rattle.brd_board.specs.declared.event.Event.TheVariants.{Step}
use Rattle.brd_board.specs.declared.event.Report.TheVariants as report
use Rattle.brd_board.specs.Board.{BoardState, Happened, reported, with_executed, instruction_done, executes_in, accepts_or_executes, stepped_in, stepped, happens, registers_of, standing_of}
use Rattle.brd_board.specs.Batch.{with_machine}
use Rattle.brd_explore.specs.declared.asleep.Asleep.{Asleep}
use Rattle.brd_journal.specs.Still.{did_nothing}
use Rattle.brd_explore.specs.Failures.{word_in}
use Rattle.brd_explore.specs.Schedules.{does}
use Rattle.brd_explore.specs.Sleeping.{has_run, task_in, differ, are_apart, code_at, is_local_insn, asleep_by, asleep_in, falls_asleep, executes}

-- A step that has executed an instruction.

record Runs (b : BoardState) (cpu : ℕ) : Type 0 where
  who : Executor
  left : Machine
  on : b.kernel.off ≡ false
  executes : executor_on b.kernel cpu ≡ Some who
  uninterrupted : deliverable b.kernel cpu ≡ None
  goes : went_by (effect cpu (context_of b.kernel cpu who) b.memory b.links) ≡ Some left

isnt-stopped : (stopped : Bool) (by : Option Executor) (who : Executor) → (if stopped then None else by) ≡ Some who → stopped ≡ false
isnt-stopped true by who is = let wrong : ⊥ = cc in absurd wrong
isnt-stopped false by who is = refl

executes-on : (found : Option Processor) (who : Executor) → executor_in found ≡ Some who →
    (p : Processor) × (found ≡ Some p) × (p.stopped ≡ false)
executes-on None who is = let wrong : ⊥ = cc in absurd wrong
executes-on (Some p) who is = (p, refl, isnt-stopped p.stopped (executor_by p.running p.handling) who is)

ran-done : (how : Effect) (s : State) (memory : Memory) (m : Machine) → went_by how ≡ Some m →
    ended how s memory ≡ record { state = m.state; memory = m.memory; links = m.links; outcome = Done }
ran-done (Effect.Goes to stored links) s memory m is =
    let same : (record { state = to; memory = stored; links = links }) ≡ m = cc in
    ap (λ (x : Machine). record { state = x.state; memory = x.memory; links = x.links; outcome = Done }) same
ran-done (Effect.Stops stop links) s memory m is = let wrong : ⊥ = cc in absurd wrong

-- what it leaves
step-runs : (b : BoardState) (cpu : ℕ) (who : Executor) (m : Machine) → b.kernel.off ≡ false → executor_on b.kernel cpu ≡ Some who →
    deliverable b.kernel cpu ≡ None → went_by (effect cpu (context_of b.kernel cpu who) b.memory b.links) ≡ Some m →
    happens b (Step cpu) ≡ reported (with_machine b cpu who m) (report.Ran (context_of b.kernel cpu who).pc)
unfolding happens ran
step-runs b cpu who m is-on executes uninterrupted is =
    let s = context_of b.kernel cpu who in
    let on = executes-on (processor_at b.kernel cpu) who executes in
    ap (λ test. if test then reported b report.Off else stepped b cpu) is-on
    ∙ ap (stepped_in b cpu) on.1
    ∙ ap (λ test. if test then reported b report.Stopped else accepts_or_executes b cpu (deliverable b.kernel cpu)) on.2
    ∙ ap (accepts_or_executes b cpu) uninterrupted
    ∙ ap (λ by. executes_in b cpu (executed_in b.kernel cpu b.memory b.links by)) executes
    ∙ ap (λ (left : Ran). instruction_done (with_executed b (executed_by b.kernel cpu who s.pc left)) cpu s.pc left.outcome)
    (ran-done (effect cpu s b.memory b.links) s b.memory m is)

-- and where it has executed one, it was so
runs-effect : (x : BoardState) (cpu pc : ℕ) (how : Effect) (s : State) (memory : Memory) →
    has_run (instruction_done x cpu pc (ended how s memory).outcome).report ≡ true → (m : Machine) × (went_by how ≡ Some m)
runs-effect x cpu pc (Effect.Goes to stored links) s memory ran = (record { state = to; memory = stored; links = links }, refl)
runs-effect x cpu pc (Effect.Stops Stop.Call links) s memory ran = absurd (false≢true ran)
runs-effect x cpu pc (Effect.Stops (Stop.Raise code) links) s memory ran = absurd (false≢true ran)

runs-by : (b : BoardState) (cpu : ℕ) (by : Option Executor) → b.kernel.off ≡ false → deliverable b.kernel cpu ≡ None → executor_on b.kernel cpu ≡ by →
    has_run (executes_in b cpu (executed_in b.kernel cpu b.memory b.links by)).report ≡ true → Runs b cpu
unfolding ran
runs-by b cpu None on free is run = absurd (false≢true run)
runs-by b cpu (Some who) on free is run =
    let s = context_of b.kernel cpu who in
    let how = effect cpu s b.memory b.links in
    let goes = runs-effect (with_executed b (executed_by b.kernel cpu who s.pc (ended how s b.memory))) cpu s.pc how s b.memory run in
    record { who = who; left = goes.0; on = on; executes = is; uninterrupted = free; goes = goes.1 }

runs-free : (b : BoardState) (cpu : ℕ) (line : Option ℕ) → b.kernel.off ≡ false → deliverable b.kernel cpu ≡ line →
    has_run (accepts_or_executes b cpu line).report ≡ true → Runs b cpu
runs-free b cpu None on is run = runs-by b cpu (executor_on b.kernel cpu) on is refl run
runs-free b cpu (Some line) on is run = absurd (false≢true run)

runs-there : (b : BoardState) (cpu : ℕ) (stopped : Bool) → b.kernel.off ≡ false →
    has_run (if stopped then reported b report.Stopped else accepts_or_executes b cpu (deliverable b.kernel cpu)).report ≡ true → Runs b cpu
runs-there b cpu true on run = absurd (false≢true run)
runs-there b cpu false on run = runs-free b cpu (deliverable b.kernel cpu) on refl run

runs-found : (b : BoardState) (cpu : ℕ) (found : Option Processor) → b.kernel.off ≡ false → has_run (stepped_in b cpu found).report ≡ true → Runs b cpu
runs-found b cpu None on run = absurd (false≢true run)
runs-found b cpu (Some p) on run = runs-there b cpu p.stopped on run

runs-on : (b : BoardState) (cpu : ℕ) (off : Bool) → b.kernel.off ≡ off →
    has_run (if off then reported b report.Off else stepped b cpu).report ≡ true → Runs b cpu
runs-on b cpu true is run = absurd (false≢true run)
runs-on b cpu false is run = runs-found b cpu (processor_at b.kernel cpu) is run

runs : (b : BoardState) (cpu : ℕ) → has_run (happens b (Step cpu)).report ≡ true → Runs b cpu
unfolding happens
runs b cpu run = runs-on b cpu b.kernel.off refl run

-- The word at an address is what is fetched there.

four-there : (order : Order) (one two three four : Bool) (a b c d word : ℕ) →
    word_in order (if one then Some a else None) (if two then Some b else None) (if three then Some c else None) (if four then Some d else None) ≡ Some word →
    (one ≡ true) × (four ≡ true) × (word_of_bytes order (a ∷ b ∷ c ∷ d ∷ []) ≡ word)
four-there order false two three four a b c d word is = let wrong : ⊥ = cc in absurd wrong
four-there order true false three four a b c d word is = let wrong : ⊥ = cc in absurd wrong
four-there order true true false four a b c d word is = let wrong : ⊥ = cc in absurd wrong
four-there order true true true false a b c d word is = let wrong : ⊥ = cc in absurd wrong
four-there order true true true true a b c d word is = (refl, refl, cc)

found-at : (aligned inside : Bool) (found : ℕ → ℕ) (at word : ℕ) → aligned ≡ true → inside ≡ true → found at ≡ word →
    at_place found (if aligned then (if inside then Ok at else Err Exc.IBE) else Err Exc.AdEL) ≡ Ok word
found-at true true found at word yes_aligned yes_inside is = ap Ok is
found-at true false found at word yes_aligned yes_inside is = absurd (false≢true yes_inside)
found-at false inside found at word yes_aligned yes_inside is = absurd (false≢true yes_aligned)

some-if : {X : Type 0} (test : Bool) (x : Option X) (y : X) → (if test then x else None) ≡ Some y → (test ≡ true) × (x ≡ Some y)
some-if true x y is = (refl, is)
some-if false x y is = let wrong : ⊥ = cc in absurd wrong

inside : (size a : ℕ) → contains size a 1 ≡ true → contains size (a + 3) 1 ≡ true → contains size a 4 ≡ true
inside size a first last = grind (arith, nat_tests, first, last)

from-base : (size a : ℕ) → contains size a 1 ≡ true → base ≤ a
from-base size a first = grind (arith, nat_tests, first)

byte-there : (memory : Memory) (a k : ℕ) → base ≤ a → k < 4 → byte_from memory (a + k - base) ≡ get_or (take 4 (drop (a - base) memory.bytes)) k 0
byte-there memory a k from below =
    get_or-take 1 (drop (a + k - base) memory.bytes) 0 0 (omega arith)
    ∙ get_or-drop (a + k - base) memory.bytes 0 0
    ∙ ap (λ n. get_or memory.bytes n 0) (omega (arith, from))
    ∙ sym (get_or-take 4 (drop (a - base) memory.bytes) k 0 below ∙ get_or-drop (a - base) memory.bytes k 0)

first-byte : (memory : Memory) (a : ℕ) → base ≤ a → byte_from memory (a - base) ≡ get_or (take 4 (drop (a - base) memory.bytes)) 0 0
first-byte memory a from =
    let same : a - base ≡ a + 0 - base = omega arith in
    ap (byte_from memory) same ∙ byte-there memory a 0 from (omega arith)

code-fetched : (b : BoardState) (a word : ℕ) → code_at b a ≡ Some word → fetched b.memory a ≡ Ok word
unfolding code_at
code-fetched b a word is =
    let m = b.memory in
    let size = size_of m in
    let whole = some-if (a % 4 == 0) _ word is in
    let four = four-there m.order (contains size a 1) (contains size (a + 1) 1) (contains size (a + 2) 1) (contains size (a + 3) 1)
    (byte_from m (a - base)) (byte_from m (a + 1 - base)) (byte_from m (a + 2 - base)) (byte_from m (a + 3 - base)) word whole.1 in
    let from = from-base size a four.0 in
    found-at (a % 4 == 0) (contains size a 4) (word_at m) (a - base) word whole.0 (inside size a four.0 four.1)
    (sym (word-by_bytes m.order
    (byte_from m (a - base) ∷ byte_from m (a + 1 - base) ∷ byte_from m (a + 2 - base) ∷ byte_from m (a + 3 - base) ∷ [])
    (take 4 (drop (a - base) m.bytes))
    (first-byte m a from) (byte-there m a 1 from (omega arith)) (byte-there m a 2 from (omega arith)) (byte-there m a 3 from (omega arith))) ∙ four.2)

-- A local instruction does the same whenever it is done.

local-done : (cpu : ℕ) (act : Action) (s after : State) (memory : Memory) (links : LinkSet) →
    local_context act ≡ Some after → done cpu s memory links act ≡ Effect.Goes after memory links
local-done cpu (Action.Local to) s after memory links is = cc
local-done cpu (Action.MayStop outcome) s after memory links is = cc
local-done cpu (Action.Loads op rt address) s after memory links is = cc
local-done cpu (Action.Stores op rt address) s after memory links is = cc
local-done cpu (Action.LoadsLinked rt address) s after memory links is = cc
local-done cpu (Action.StoresIfLinked rt address) s after memory links is = cc

isnt-refused : (refused : Bool) (insn : Insn) (cpu : ℕ) (s : State) (memory : Memory) (links : LinkSet) (m : Machine) →
    went_by (of_next cpu s memory links (if refused then Err ExceptionCode.RI else Ok insn)) ≡ Some m → refused ≡ false
isnt-refused true insn cpu s memory links m is = let wrong : ⊥ = cc in absurd wrong
isnt-refused false insn cpu s memory links m is = refl

-- what an instruction does whose word is fetched
effect-of : (cpu word : ℕ) (insn : Insn) (s : State) (memory : Memory) (links : LinkSet) → fetched memory s.pc ≡ Ok word → decoded word ≡ Some insn →
    effect cpu s memory links ≡ of_next cpu s memory links (if s.slot && has_slot insn then Err ExceptionCode.RI else Ok insn)
unfolding effect next_instruction
effect-of cpu word insn s memory links fetches is =
    ap (λ f. of_next cpu s memory links (of_fetch s f)) fetches ∙ ap (λ d. of_next cpu s memory links (of_word s d)) is

does-same : (cpu word : ℕ) (insn : Insn) (s after : State) (memory : Memory) (links : LinkSet) → fetched memory s.pc ≡ Ok word → decoded word ≡ Some insn →
    (s.slot && has_slot insn) ≡ false → local_meaning insn s ≡ Some after → effect cpu s memory links ≡ Effect.Goes after memory links
does-same cpu word insn s after memory links fetches is free means =
    effect-of cpu word insn s memory links fetches is
    ∙ ap (λ test. of_next cpu s memory links (if test then Err ExceptionCode.RI else Ok insn)) free
    ∙ local-done cpu (action insn s) s after memory links means

-- Of a board on which who sleeps has executed its instruction, and one on which it hasn't yet.
pub record Sleeps (a : Asleep) (before b : BoardState) : Type 0 where
  who : Executor
  after : State
  on : before.kernel.off ≡ false
  executes : executor_on before.kernel a.cpu ≡ Some who
  uninterrupted : deliverable before.kernel a.cpu ≡ None
  at : (context_of before.kernel a.cpu who).pc ≡ a.address
  code : fetched before.memory a.address ≡ Ok a.word
  goes : (memory : Memory) (links : LinkSet) → fetched memory a.address ≡ Ok a.word →
      effect a.cpu (context_of before.kernel a.cpu who) memory links ≡ Effect.Goes after memory links
  is : b ≡ record before { kernel = with_context_of before.kernel a.cpu who after }

-- that it executes it then
pub sleeps-steps : (a : Asleep) (before b : BoardState) → Sleeps a before b →
    (has_run (happens before (Step a.cpu)).report ≡ true) × ((happens before (Step a.cpu)).board ≡ b)
sleeps-steps a before b s =
    let done = step-runs before a.cpu s.who (record { state = s.after; memory = before.memory; links = before.links }) s.on s.executes s.uninterrupted
    (ap went_by (s.goes before.memory before.links s.code)) in
    (ap (λ (h : Happened). has_run h.report) done, ap (λ (h : Happened). h.board) done ∙ sym s.is)

-- How it falls asleep.

asleep-word : (cpu address : ℕ) (code : Option ℕ) (a : Asleep) → asleep_by cpu address code ≡ Some a →
    (word : ℕ) × (code ≡ Some word) × (is_local_insn (decoded word) ≡ true) × (a ≡ record { cpu = cpu; address = address; word = word })
asleep-word cpu address None a is = let wrong : ⊥ = cc in absurd wrong
asleep-word cpu address (Some word) a is =
    let parts = some-if (is_local_insn (decoded word)) (Some (record { cpu = cpu; address = address; word = word })) a is in
    (word, refl, parts.0, cc)

insn-there : (found : Option Insn) → is_local_insn found ≡ true → (insn : Insn) × (found ≡ Some insn) × (is_local insn ≡ true)
insn-there None is = absurd (false≢true is)
insn-there (Some insn) is = (insn, refl, is)

some-there : {X : Type 0} (found : Option X) → is_some found ≡ true → (x : X) × (found ≡ Some x)
some-there None is = absurd (false≢true is)
some-there (Some x) is = (x, refl)

falls-by : (b : BoardState) (cpu : ℕ) (a : Asleep) (r : Runs b cpu) → falls_asleep b cpu ≡ Some a →
    asleep_by cpu (context_of b.kernel cpu r.who).pc (code_at b (context_of b.kernel cpu r.who).pc) ≡ Some a
unfolding falls_asleep
falls-by b cpu a r is = sym (ap (λ by. asleep_in b cpu (option_map (context_of b.kernel cpu) by)) r.executes) ∙ is

falls-so : (b : BoardState) (cpu word : ℕ) (r : Runs b cpu) → code_at b (context_of b.kernel cpu r.who).pc ≡ Some word →
    is_local_insn (decoded word) ≡ true →
    Sleeps (record { cpu = cpu; address = (context_of b.kernel cpu r.who).pc; word = word }) b (happens b (Step cpu)).board
falls-so b cpu word r code local =
    let s = context_of b.kernel cpu r.who in
    let insn = insn-there (decoded word) local in
    let means = some-there (local_meaning insn.0 s) (local-table insn.0 s ∙ insn.2) in
    let fetches = code-fetched b s.pc word code in
    let free = isnt-refused (s.slot && has_slot insn.0) insn.0 cpu s b.memory b.links r.left
    (ap went_by (sym (effect-of cpu word insn.0 s b.memory b.links fetches insn.1)) ∙ r.goes) in
    record {
      who = r.who;
      after = means.0;
      on = r.on;
      executes = r.executes;
      uninterrupted = r.uninterrupted;
      at = refl;
      code = fetches;
      goes = λ memory links fetched. does-same cpu word insn.0 s means.0 memory links fetched insn.1 free means.1;
      is = ap (λ (h : Happened). h.board)
          (step-runs b cpu r.who (record { state = means.0; memory = b.memory; links = b.links }) r.on r.executes r.uninterrupted
          (ap went_by (does-same cpu word insn.0 s means.0 b.memory b.links fetches insn.1 free means.1)));
    }

pub falls : (b : BoardState) (cpu : ℕ) (a : Asleep) → falls_asleep b cpu ≡ Some a → has_run (happens b (Step cpu)).report ≡ true →
    (a.cpu ≡ cpu) × Sleeps a b (happens b (Step cpu)).board
falls b cpu a is run =
    let r = runs b cpu run in
    let word = asleep-word cpu (context_of b.kernel cpu r.who).pc (code_at b (context_of b.kernel cpu r.who).pc) a (falls-by b cpu a r is) in
    (ap (λ (x : Asleep). x.cpu) word.3, subst (λ (x : Asleep). Sleeps x b (happens b (Step cpu)).board) (sym word.3) (falls-so b cpu word.0 r word.1 word.2))

-- Where a context is written, the rest stays.

off-stays : (k : KernelState) (cpu : ℕ) (who : Executor) (s : State) → (with_context_of k cpu who s).off ≡ k.off
off-stays k cpu executor.Handler s = refl
off-stays k cpu (executor.Task id) s = refl

executor-stays : (k : KernelState) (cpu other : ℕ) (who : Executor) (s : State) → executor_on (with_context_of k cpu who s) other ≡ executor_on k other
executor-stays k cpu other executor.Handler s = refl
executor-stays k cpu other (executor.Task id) s = refl

deliverable-stays : (k : KernelState) (cpu other : ℕ) (who : Executor) (s : State) → deliverable (with_context_of k cpu who s) other ≡ deliverable k other
deliverable-stays k cpu other executor.Handler s = refl
deliverable-stays k cpu other (executor.Task id) s = refl

-- two processors execute apart
abbrev Apart : Executor → Executor → Type 0
Apart one other = (id : ℕ) → one ≡ executor.Task id → other ≡ executor.Task id → ⊥

context-stays : (k : KernelState) (cpu other : ℕ) (who by : Executor) (s : State) → (other ≡ cpu → ⊥) → Apart who by →
    context_of (with_context_of k cpu who s) other by ≡ context_of k other by
context-stays k cpu other executor.Handler executor.Handler s never apart = get_or-set_other k.handler_contexts cpu other s no_context never
context-stays k cpu other executor.Handler (executor.Task id) s never apart = refl
context-stays k cpu other (executor.Task id) executor.Handler s never apart = refl
context-stays k cpu other (executor.Task id) (executor.Task at) s never apart =
    get_or-set_other k.tasks.contexts id at s no_context (λ same. apart id refl (ap executor.Task same))

contexts-swap : (k : KernelState) (cpu other : ℕ) (who by : Executor) (s t : State) → (other ≡ cpu → ⊥) → Apart who by →
    with_context_of (with_context_of k cpu who s) other by t ≡ with_context_of (with_context_of k other by t) cpu who s
contexts-swap k cpu other executor.Handler executor.Handler s t never apart =
    ap (λ contexts. record k { handler_contexts = contexts }) (set_comm k.handler_contexts cpu other s t (λ same. never (sym same)))
contexts-swap k cpu other executor.Handler (executor.Task id) s t never apart = refl
contexts-swap k cpu other (executor.Task id) executor.Handler s t never apart = refl
contexts-swap k cpu other (executor.Task id) (executor.Task at) s t never apart =
    ap (λ contexts. record k { tasks = record k.tasks { contexts = contexts } })
    (set_comm k.tasks.contexts id at s t (λ same. apart id refl (ap executor.Task (sym same))))

-- who executes on two processors that don't run one task

task-by : (stopped : Bool) (running handling : Option ℕ) (id : ℕ) →
    (if stopped then None else executor_by running handling) ≡ Some (executor.Task id) →
    (if stopped then standing.Stopped else standing_by running handling) ≡ standing.Task id
task-by true running handling id is = let wrong : ⊥ = cc in absurd wrong
task-by false running (Some line) id is = let wrong : ⊥ = cc in absurd wrong
task-by false None None id is = let wrong : ⊥ = cc in absurd wrong
task-by false (Some other) None id is = let same : other ≡ id = cc in ap standing.Task same

task-stands : (found : Option Processor) (id : ℕ) → executor_in found ≡ Some (executor.Task id) → option_map standing_in found ≡ Some (standing.Task id)
task-stands None id is = let wrong : ⊥ = cc in absurd wrong
task-stands (Some p) id is = ap Some (task-by p.stopped p.running p.handling id is)

same-task : (id : ℕ) → differ (Some id) (Some id) ≡ false
same-task id = grind (arith, nat_tests)

apart-so : (b : BoardState) (one other : ℕ) (who by : Executor) → are_apart b one other ≡ true → executor_on b.kernel one ≡ Some who →
    executor_on b.kernel other ≡ Some by → Apart who by
unfolding are_apart
apart-so b one other who by apart first second id is same =
    let here = task-stands (processor_at b.kernel one) id (first ∙ ap Some is) in
    let there = task-stands (processor_at b.kernel other) id (second ∙ ap Some same) in
    false≢true (sym (same-task id) ∙ sym (ap (λ x. differ (task_in x) (Some id)) here)
    ∙ sym (ap (λ x. differ (task_in (standing_of b one)) (task_in x)) there) ∙ apart)

-- How it sleeps on.

abbrev put : BoardState → ℕ → Executor → State → BoardState
put b cpu who s = record b { kernel = with_context_of b.kernel cpu who s }

-- both boards go on by the step of another processor
abbrev BothGo : Asleep → BoardState → BoardState → ℕ → Type 0
BothGo a before b cpu = (has_run (happens before (Step cpu)).report ≡ true) × Sleeps a (happens before (Step cpu)).board (happens b (Step cpu)).board

other-put : (a : Asleep) (before b : BoardState) (cpu : ℕ) (s : Sleeps a before b) → (cpu ≡ a.cpu → ⊥) →
    are_apart (put before a.cpu s.who s.after) a.cpu cpu ≡ true →
    has_run (happens (put before a.cpu s.who s.after) (Step cpu)).report ≡ true →
    code_at (happens (put before a.cpu s.who s.after) (Step cpu)).board a.address ≡ Some a.word →
    BothGo a before (put before a.cpu s.who s.after) cpu
other-put a before b cpu s never is-apart run code =
    let k = before.kernel in
    let x = a.cpu in
    let here = put before x s.who s.after in
    let r = runs here cpu run in
    let m = r.left in
    let apart : Apart s.who r.who = apart-so here x cpu s.who r.who is-apart (executor-stays k x x s.who s.after ∙ s.executes) r.executes in
    let context = context-stays k x cpu s.who r.who s.after never apart in
    let own = context-stays k cpu x r.who s.who m.state (λ same. never (sym same)) (λ id one two. apart id two one) in
    let is-on : k.off ≡ false = sym (off-stays k x s.who s.after) ∙ r.on in
    let executes : executor_on k cpu ≡ Some r.who = sym (executor-stays k x cpu s.who s.after) ∙ r.executes in
    let free : deliverable k cpu ≡ None = sym (deliverable-stays k x cpu s.who s.after) ∙ r.uninterrupted in
    let first = step-runs before cpu r.who m is-on executes free (ap (λ c. went_by (effect cpu c before.memory before.links)) (sym context) ∙ r.goes) in
    let second = step-runs here cpu r.who m r.on r.executes r.uninterrupted r.goes in
    let kept : code_at (with_machine here cpu r.who m) a.address ≡ Some a.word = subst (λ (h : Happened). code_at h.board a.address ≡ Some a.word) second code in
    let both : Sleeps a (with_machine before cpu r.who m) (with_machine here cpu r.who m) = record {
      who = s.who;
      after = s.after;
      on = off-stays k cpu r.who m.state ∙ is-on;
      executes = executor-stays k cpu x r.who m.state ∙ s.executes;
      uninterrupted = deliverable-stays k cpu x r.who m.state ∙ s.uninterrupted;
      at = ap (λ (c : State). c.pc) own ∙ s.at;
      code = code-fetched (with_machine here cpu r.who m) a.address a.word kept;
      goes = λ memory links fetches. ap (λ c. effect x c memory links) own ∙ s.goes memory links fetches;
      is = ap (λ kernel. record before { kernel = kernel; memory = m.memory; links = m.links }) (contexts-swap k x cpu s.who r.who s.after m.state never apart);
    } in (
      ap (λ (h : Happened). has_run h.report) first,
      subst (λ (h : Happened). Sleeps a h.board (happens here (Step cpu)).board) (sym first)
          (subst (λ (h : Happened). Sleeps a (with_machine before cpu r.who m) h.board) (sym second) both),
    )

pub sleeps-other : (a : Asleep) (before b : BoardState) (cpu : ℕ) → Sleeps a before b → (cpu ≡ a.cpu → ⊥) → are_apart b a.cpu cpu ≡ true →
    has_run (happens b (Step cpu)).report ≡ true → code_at (happens b (Step cpu)).board a.address ≡ Some a.word → BothGo a before b cpu
sleeps-other a before b cpu s never is-apart run code =
    subst (λ (x : BoardState). BothGo a before x cpu) (sym s.is)
    (other-put a before b cpu s never
    (subst (λ (x : BoardState). are_apart x a.cpu cpu ≡ true) s.is is-apart)
    (subst (λ (x : BoardState). has_run (happens x (Step cpu)).report ≡ true) s.is run)
    (subst (λ (x : BoardState). code_at (happens x (Step cpu)).board a.address ≡ Some a.word) s.is code))

-- Who executes.

some-mapped : {X Y : Type 0} (f : X → Y) (x : Option X) → is_some (option_map f x) ≡ is_some x
some-mapped f None = refl
some-mapped f (Some x) = refl

somebody : (b : BoardState) (cpu : ℕ) → is_some (registers_of b cpu) ≡ is_some (executor_on b.kernel cpu)
somebody b cpu = some-mapped (context_of b.kernel cpu) (executor_on b.kernel cpu)

-- the same ones execute on both boards
pub sleeps-alike : (a : Asleep) (before b : BoardState) (cpu : ℕ) → Sleeps a before b → is_some (registers_of b cpu) ≡ is_some (registers_of before cpu)
sleeps-alike a before b cpu s =
    somebody b cpu
    ∙ ap is_some (ap (λ (x : BoardState). executor_on x.kernel cpu) s.is ∙ executor-stays before.kernel a.cpu cpu s.who s.after)
    ∙ sym (somebody before cpu)

-- and somebody does on the processor that sleeps
pub sleeper-executes : (a : Asleep) (before b : BoardState) → Sleeps a before b → is_some (registers_of b a.cpu) ≡ true
sleeper-executes a before b s = sleeps-alike a before b a.cpu s ∙ somebody before a.cpu ∙ ap is_some s.executes

-- A step does something where somebody executes.

outcome-does : (x : BoardState) (cpu address : ℕ) (outcome : Outcome) → not (did_nothing (instruction_done x cpu address outcome).report) ≡ true
outcome-does x cpu address Outcome.Done = refl
outcome-does x cpu address Outcome.Syscall = refl
outcome-does x cpu address (Outcome.Exception code epc bd) = refl

accepts-does : (b : BoardState) (cpu : ℕ) (who : Executor) (line : Option ℕ) → executor_on b.kernel cpu ≡ Some who →
    not (did_nothing (accepts_or_executes b cpu line).report) ≡ true
accepts-does b cpu who None is =
    let e = executed_by b.kernel cpu who (context_of b.kernel cpu who).pc (ran cpu (context_of b.kernel cpu who) b.memory b.links) in
    ap (λ by. not (did_nothing (executes_in b cpu (executed_in b.kernel cpu b.memory b.links by)).report)) is
    ∙ outcome-does (with_executed b e) cpu e.ended.address e.ended.outcome
accepts-does b cpu who (Some line) is = refl

step-does : (b : BoardState) (cpu : ℕ) (who : Executor) → b.kernel.off ≡ false → executor_on b.kernel cpu ≡ Some who → does b (Step cpu) ≡ true
unfolding does happens
step-does b cpu who is-on executes =
    let on = executes-on (processor_at b.kernel cpu) who executes in
    ap (λ (h : Happened). not (did_nothing h.report))
    (ap (λ test. if test then reported b report.Off else stepped b cpu) is-on
    ∙ ap (stepped_in b cpu) on.1
    ∙ ap (λ test. if test then reported b report.Stopped else accepts_or_executes b cpu (deliverable b.kernel cpu)) on.2)
    ∙ accepts-does b cpu who (deliverable b.kernel cpu) executes

pub executes-does : (b : BoardState) (cpu : ℕ) → executes b cpu ≡ true → does b (Step cpu) ≡ true
executes-does b cpu is =
    let parts = and_parts (not b.kernel.off) (is_some (registers_of b cpu)) is in
    let who = some-there (executor_on b.kernel cpu) (sym (somebody b cpu) ∙ parts.1) in
    step-does b cpu who.0 (not-true b.kernel.off parts.0) who.1

-- a step that has run did something
pub run-does : (b : BoardState) (cpu : ℕ) → has_run (happens b (Step cpu)).report ≡ true → does b (Step cpu) ≡ true
run-does b cpu run = let r = runs b cpu run in step-does b cpu r.who r.on r.executes
