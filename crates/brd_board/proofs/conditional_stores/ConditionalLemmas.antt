-- Each event is the run of its moves. So an SC finds a link exactly where its processor has a reservation.
use Rattle.std.proofs.Common.{◌≡◌, ◌⊎◌, inl, inr, ℕ, zero, suc, List, [], ◌∷◌, refl, sym, ap, subst, subst₂, ◌∙◌}
use Rattle.std.specs.Prelude.{Bool, true, false, ◌==◌, nat_lt, if◌then◌else◌, MatchBool, Option, None, Some, unwrap_or, Result, Ok, Err, is_ok, slice_index_or, slice_set}
use Rattle.std.specs.Option.{option_map}
use Rattle.std.proofs.lemmas.Bool.{false≢true}
use Rattle.brd_isa.specs.declared.instruction.Insn.{Insn}
use Rattle.brd_isa.specs.declared.instruction.Insn.TheVariants.{Linked}
use Rattle.brd_isa.specs.declared.instruction.LinkedOp.TheVariants.{Sc}
use Rattle.brd_mem.specs.declared.fault.Exc.{Exc}
use Rattle.brd_mem.specs.declared.image.Image.{Image}
use Rattle.brd_mem.specs.Memory.{Memory}
use Rattle.brd_mem.specs.Access.{stored32}
use Rattle.brd_link.specs.LinkSet.{Link, LinkSet, is_linked, without, without_all}
use Rattle.brd_exec.specs.declared.outcome.Outcome.{Outcome}
use Rattle.brd_exec.specs.declared.outcome.Outcome.TheVariants.{Done, Syscall, Exception}
use Rattle.brd_exec.specs.State.{State, read, with_register, address_of}
use Rattle.brd_exec.specs.Step.{Ran, ran, ended, stores_if_linked, next_instruction}
use Rattle.brd_exec.specs.Action.{Action, action}
use Rattle.brd_exec.specs.declared.outcome.ExceptionCode.{ExceptionCode}
use Rattle.brd_exec.specs.Kept.{KeepsUnlessDone, links_behind, links_left}
use Rattle.brd_exec.specs.Did.{Did, Conditional, Ended, did_conditional, did}
use Rattle.brd_exec.proofs.KeptLemmas.{keeps-ran}
use Rattle.brd_exec.proofs.StepLemmas.{Moved, ran-does, ran-next, did-known}
use Rattle.brd_time.specs.Time.{last_count, advanced}
use Rattle.brd_tasks.specs.Tasks.{no_context}
use Rattle.brd_config.specs.Configuration.{Configuration}
use Rattle.brd_kernel.specs.declared.processor.Processor.{Processor}
use Rattle.brd_kernel.specs.declared.processor.Executor.{Executor}
use Rattle.brd_kernel.specs.declared.processor.Executor.TheVariants as executor
use Rattle.brd_kernel.specs.Kernel.{KernelState, processor_at, executor_on, context_of, with_context_of, context_on, accepted_line, deliverable, can_be_raised}
use Rattle.brd_board.specs.Executing.{executed_by, executed_in}
use Rattle.brd_kernel.specs.Waits.{ticked_on}
use Rattle.brd_kernel.specs.Dispatch.{dispatched, changed_processors}
use Rattle.brd_board.proofs.EventLemmas.{boot-begins}
use Rattle.brd_board.specs.declared.event.Event.{Event}
use Rattle.brd_board.specs.declared.event.Event.TheVariants.{Step, Tick, Raise}
use Rattle.brd_board.specs.declared.event.Report.{Report}
use Rattle.brd_board.specs.declared.event.Report.TheVariants as report
use Rattle.brd_board.specs.Boot.{boot}
use Rattle.brd_board.specs.Board.{BoardState, Happened, with_executed, with_call, with_fault, instruction_done, executes_in, accepts_or_executes, stepped_in, happens_on, happens, after, registers_of}
use Rattle.brd_board.specs.History.{Move, ends_of, moves_done, moves_executing, moves_accepting, moves_stepping, moves_on, moves, history, HasReserved}
use Rattle.brd_board.specs.Conditional.{DoesConditional, Leaves, ConditionalLaw, WordLaw}
use Rattle.brd_board.proofs.conditional_stores.RunLemmas.{Run, run-join, FromStart, linked-back, linked-reserved, word-reserved}

-- An event is the run of its moves.

abbrev Walks : BoardState → Happened → List Move → Type 0
Walks b h ms = Run b.memory b.links ms h.board.memory h.board.links

ends-run : (memory : Memory) (links : LinkSet) (cpus : List ℕ) → Run memory links (ends_of cpus) memory (without_all links cpus)
ends-run memory links [] = (refl, refl)
ends-run memory links (cpu ∷ cpus) = (memory, without links cpu, (refl, refl), ends-run memory (without links cpu) cpus)

without-by : (own : Bool) (link : Link) (links : LinkSet) (cpu : ℕ) → (link.processor == cpu) ≡ own →
    without (without links cpu) cpu ≡ without links cpu →
    without (without (link ∷ links) cpu) cpu ≡ without (link ∷ links) cpu
without-by true link links cpu is same = rw is same
without-by false link links cpu is same = rw (is, is) (ap (λ ls. link ∷ ls) same)

-- a link ends once
without-twice : (links : LinkSet) (cpu : ℕ) → without (without links cpu) cpu ≡ without links cpu
without-twice [] cpu = refl
without-twice (link ∷ links) cpu = without-by (link.processor == cpu) link links cpu refl (without-twice links cpu)

without-behind : (cpu : ℕ) (links : LinkSet) (act : Action) → without (links_behind cpu links act) cpu ≡ without links cpu
without-behind cpu links (Action.Local after) = refl
without-behind cpu links (Action.MayStop outcome) = refl
without-behind cpu links (Action.Loads op rt address) = refl
without-behind cpu links (Action.Stores op rt address) = refl
without-behind cpu links (Action.LoadsLinked rt address) = refl
without-behind cpu links (Action.StoresIfLinked rt address) = without-twice links cpu

-- where a step stops, the links but for the processor's own are what they were
without-left : (cpu : ℕ) (s : State) (links : LinkSet) (next : Result Insn ExceptionCode) →
    without (links_left cpu s links next) cpu ≡ without links cpu
without-left cpu s links (Ok insn) = without-behind cpu links (action insn s)
without-left cpu s links (Err code) = refl

-- an end of the processor's link, and then those of a dispatch, over memory and links that are already changed so
end-then : (memory : Memory) (links : LinkSet) (cpu : ℕ) (cpus : List ℕ) (there : Memory) (left : LinkSet) → there ≡ memory →
    left ≡ without links cpu →
    Run memory links ((record { processor = cpu; did = Ended }) ∷ ends_of cpus) there (without_all left cpus)
end-then memory links cpu cpus there left same own = (there, left, (same, own), ends-run there left cpus)

walk-done : (b : BoardState) (k : KernelState) (cpu address : ℕ) (s : State) (left : Ran) (what : Did) (outcome : Outcome) →
    Moved b.memory b.links cpu what left.memory left.links → KeepsUnlessDone cpu s b.memory b.links left outcome →
    Walks b (instruction_done (record b { kernel = k; memory = left.memory; links = left.links }) cpu address outcome)
    (moves_done (record b { kernel = k; memory = left.memory; links = left.links }) cpu what outcome)
walk-done b k cpu address s left what Done moved keeps = (left.memory, left.links, moved, (refl, refl))
walk-done b k cpu address s left what Syscall moved keeps =
    let c : BoardState = with_call (record b { kernel = k; memory = left.memory; links = left.links }) cpu in
    end-then b.memory b.links cpu (changed_processors c.kernel (dispatched c.kernel)) left.memory (without left.links cpu) keeps.memory
    (ap (λ ls. without ls cpu) keeps.links ∙ without-left cpu s b.links (next_instruction s b.memory))
walk-done b k cpu address s left what (Exception code epc bd) moved keeps =
    let c : BoardState = with_fault (record b { kernel = k; memory = left.memory; links = left.links }) cpu
    (record { code = code; epc = epc; bd = bd }) in
    (left.memory, left.links, moved, ends-run left.memory left.links (changed_processors c.kernel (dispatched c.kernel)))

walk-executing : (b : BoardState) (cpu : ℕ) (who : Option Executor) →
    Walks b (executes_in b cpu (executed_in b.kernel cpu b.memory b.links who)) (moves_executing b cpu who)
walk-executing b cpu None = (refl, refl)
walk-executing b cpu (Some who) =
    let s : State = context_of b.kernel cpu who in
    let left : Ran = ran cpu s b.memory b.links in
    walk-done b (with_context_of b.kernel cpu who left.state) cpu s.pc s left (did cpu s b.memory b.links) left.outcome
    (ran-does cpu s b.memory b.links) (keeps-ran cpu s b.memory b.links)

walk-accepting : (b : BoardState) (cpu : ℕ) (line : Option ℕ) → Walks b (accepts_or_executes b cpu line) (moves_accepting b cpu line)
walk-accepting b cpu None = walk-executing b cpu (executor_on b.kernel cpu)
walk-accepting b cpu (Some line) =
    let k : KernelState = accepted_line b.kernel cpu line in
    end-then b.memory b.links cpu (changed_processors k (dispatched k)) b.memory (without b.links cpu) refl refl

walk-either : (test : Bool) (b : BoardState) (one other : Happened) (first second : List Move) → Walks b one first → Walks b other second →
    Walks b (if test then one else other) (if test then first else second)
walk-either true b one other first second walk else_walk = walk
walk-either false b one other first second walk else_walk = else_walk

walk-stepping : (b : BoardState) (cpu : ℕ) (found : Option Processor) → Walks b (stepped_in b cpu found) (moves_stepping b cpu found)
walk-stepping b cpu None = (refl, refl)
walk-stepping b cpu (Some p) = walk-either p.stopped b _ _ [] _ (refl, refl) (walk-accepting b cpu (deliverable b.kernel cpu))

-- a test that doesn't matter, since nothing moves in either case
walk-still : (test : Bool) (b : BoardState) (one other : Happened) → Walks b one [] → Walks b other [] → Walks b (if test then one else other) []
walk-still true b one other walk else_walk = walk
walk-still false b one other walk else_walk = else_walk

walk-on : (b : BoardState) (event : Event) → Walks b (happens_on b event) (moves_on b event)
walk-on b (Step cpu) = walk-stepping b cpu (processor_at b.kernel cpu)
walk-on b Tick =
    let k : KernelState = ticked_on b.kernel (advanced b.kernel.time) in
    walk-either (nat_lt b.kernel.time.count last_count) b _ _ _ [] (ends-run b.memory b.links (changed_processors k (dispatched k))) (refl, refl)
walk-on b (Raise line) = walk-still (can_be_raised b.kernel line) b _ _ (refl, refl) (refl, refl)

event-run : (b : BoardState) (event : Event) → Walks b (happens b event) (moves b event)
unfolding happens moves
event-run b event = walk-either b.kernel.off b _ _ [] _ (refl, refl) (walk-on b event)

history-run : (b : BoardState) (events : List Event) → Run b.memory b.links (history b events) (after b events).memory (after b events).links
history-run b [] = (refl, refl)
history-run b (event ∷ events) =
    let next : BoardState = (happens b event).board in
    run-join b.memory b.links (moves b event) (history next events) next.memory next.links (after next events).memory (after next events).links
    (event-run b event) (history-run next events)

-- A step that reports an instruction.

abbrev is_ran : Report → Bool
is_ran (report.Ran address) = true
is_ran told = false

-- what one instruction of who executes on a processor leaves
abbrev ran_by : BoardState → ℕ → Executor → Ran
ran_by b cpu who = ran cpu (context_of b.kernel cpu who) b.memory b.links

abbrev board_by : BoardState → ℕ → Executor → BoardState
board_by b cpu who = with_executed b (executed_by b.kernel cpu who (context_of b.kernel cpu who).pc (ran_by b cpu who))

-- somebody executes on the processor, the step is one instruction of theirs, and what it did is its move
record RanBy (b : BoardState) (cpu : ℕ) (h : Happened) (ms : List Move) : Type 0 where
  who : Executor
  executes : executor_on b.kernel cpu ≡ Some who
  outcome : (ran_by b cpu who).outcome ≡ Done
  board : h.board ≡ board_by b cpu who
  moves_are : ms ≡ (record { processor = cpu; did = did cpu (context_of b.kernel cpu who) b.memory b.links }) ∷ []

abbrev IfRan : BoardState → ℕ → Happened → List Move → Type 0
IfRan b cpu h ms = is_ran h.report ≡ true → RanBy b cpu h ms

ran-done : (b : BoardState) (cpu : ℕ) (who : Executor) (outcome : Outcome) → executor_on b.kernel cpu ≡ Some who →
    (ran_by b cpu who).outcome ≡ outcome →
    IfRan b cpu (instruction_done (board_by b cpu who) cpu (context_of b.kernel cpu who).pc outcome)
    (moves_done (board_by b cpu who) cpu (did cpu (context_of b.kernel cpu who) b.memory b.links) outcome)
ran-done b cpu who Done executes is told = record { who = who; executes = executes; outcome = is; board = refl; moves_are = refl }
ran-done b cpu who Syscall executes is told = absurd (false≢true told)
ran-done b cpu who (Exception code epc bd) executes is told = absurd (false≢true told)

ran-executing : (b : BoardState) (cpu : ℕ) (who : Option Executor) → executor_on b.kernel cpu ≡ who →
    IfRan b cpu (executes_in b cpu (executed_in b.kernel cpu b.memory b.links who)) (moves_executing b cpu who)
ran-executing b cpu None executes told = absurd (false≢true told)
ran-executing b cpu (Some who) executes told = ran-done b cpu who (ran_by b cpu who).outcome executes refl told

ran-accepting : (b : BoardState) (cpu : ℕ) (line : Option ℕ) → IfRan b cpu (accepts_or_executes b cpu line) (moves_accepting b cpu line)
ran-accepting b cpu None told = ran-executing b cpu (executor_on b.kernel cpu) refl told
ran-accepting b cpu (Some line) told = absurd (false≢true told)

ran-either : (test : Bool) (b : BoardState) (cpu : ℕ) (one other : Happened) (first second : List Move) → IfRan b cpu one first →
    IfRan b cpu other second →
    IfRan b cpu (if test then one else other) (if test then first else second)
ran-either true b cpu one other first second run else_run told = run told
ran-either false b cpu one other first second run else_run told = else_run told

ran-stepping : (b : BoardState) (cpu : ℕ) (found : Option Processor) → IfRan b cpu (stepped_in b cpu found) (moves_stepping b cpu found)
ran-stepping b cpu None told = absurd (false≢true told)
ran-stepping b cpu (Some p) told = ran-either p.stopped b cpu _ _ [] _ (λ stopped. absurd (false≢true stopped))
    (ran-accepting b cpu (deliverable b.kernel cpu)) told

ran-step : (b : BoardState) (cpu : ℕ) → IfRan b cpu (happens b (Step cpu)) (moves b (Step cpu))
unfolding happens moves
ran-step b cpu told = ran-either b.kernel.off b cpu _ _ [] _ (λ off. absurd (false≢true off)) (ran-stepping b cpu (processor_at b.kernel cpu)) told

-- An SC that raises nothing.

record ScLeaves (s : State) (memory : Memory) (rt address : ℕ) (linked : Bool) (left : Ran) (what : Did) : Type 0 where
  memory_is : MatchBool linked (stored32 memory address (read s rt) ≡ Ok left.memory) (left.memory ≡ memory)
  state_is : left.state ≡ with_register s rt (if linked then 1 else 0)
  did_is : what ≡ Conditional address linked

abbrev is_done : Outcome → Bool
is_done Done = true
is_done other = false

sc-ended : (cpu : ℕ) (s : State) (memory : Memory) (links : LinkSet) (rt address : ℕ) (linked : Bool) (stored : Result Memory Exc) →
    stored32 memory address (read s rt) ≡ stored →
    is_done (ended (stores_if_linked cpu s memory links rt address linked stored) s memory).outcome ≡ true →
    ScLeaves s memory rt address linked (ended (stores_if_linked cpu s memory links rt address linked stored) s memory)
    (did_conditional address linked stored)
sc-ended cpu s memory links rt address true (Ok new) is done = record { memory_is = is; state_is = refl; did_is = refl }
sc-ended cpu s memory links rt address false (Ok new) is done = record { memory_is = refl; state_is = refl; did_is = refl }
sc-ended cpu s memory links rt address linked (Err exc) is done = absurd (false≢true done)

sc-ran : (cpu : ℕ) (s : State) (memory : Memory) (links : LinkSet) (rt register offset : ℕ) →
    next_instruction s memory ≡ Ok (Linked Sc rt register offset) →
    (ran cpu s memory links).outcome ≡ Done →
    ScLeaves s memory rt (address_of s register offset) (is_linked links cpu (address_of s register offset)) (ran cpu s memory links)
    (did cpu s memory links)
sc-ran cpu s memory links rt register offset next done =
    let address : ℕ = address_of s register offset in
    let left : Ran =
    ended (stores_if_linked cpu s memory links rt address (is_linked links cpu address) (stored32 memory address (read s rt))) s memory in
    let is : ran cpu s memory links ≡ left = ran-next cpu s memory links (Linked Sc rt register offset) next in
    subst₂ (λ (r : Ran) (d : Did). ScLeaves s memory rt address (is_linked links cpu address) r d) (sym is)
    (sym (did-known cpu s memory links (Linked Sc rt register offset) next))
    (sc-ended cpu s memory links rt address (is_linked links cpu address) (stored32 memory address (read s rt)) refl
    (sym (ap (λ (r : Ran). is_done r.outcome) is) ∙ ap is_done done))

-- Nothing can be fetched in the context that a table doesn't have, so a context that does an instruction is one of the
-- table.

nothing-fetched : (memory : Memory) → is_ok (next_instruction no_context memory) ≡ false
unfolding next_instruction no_context
nothing-fetched memory = refl

set-or-none : (contexts : List State) (at : ℕ) (new : State) →
    (slice_index_or (slice_set contexts at new) at no_context ≡ new) ⊎ (slice_index_or contexts at no_context ≡ no_context)
set-or-none [] at new = inr refl
set-or-none (context ∷ contexts) zero new = inl refl
set-or-none (context ∷ contexts) (suc at) new = set-or-none contexts at new

abbrev IsSetOrNone : KernelState → ℕ → Executor → State → Type 0
IsSetOrNone k cpu who new = (context_of (with_context_of k cpu who new) cpu who ≡ new) ⊎ (context_of k cpu who ≡ no_context)

context-or-none : (k : KernelState) (cpu : ℕ) (who : Executor) (new : State) → IsSetOrNone k cpu who new
context-or-none k cpu executor.Handler new = set-or-none k.handler_contexts cpu new
context-or-none k cpu (executor.Task id) new = set-or-none k.tasks.contexts id new

context-by : (k : KernelState) (cpu : ℕ) (who : Executor) (new : State) (memory : Memory) →
    is_ok (next_instruction (context_of k cpu who) memory) ≡ true →
    IsSetOrNone k cpu who new → context_of (with_context_of k cpu who new) cpu who ≡ new
context-by k cpu who new memory fetched (inl is) = is
context-by k cpu who new memory fetched (inr none) =
    absurd (false≢true (sym (nothing-fetched memory) ∙ sym (ap (λ s. is_ok (next_instruction s memory)) none) ∙ fetched))

executor-same : (k : KernelState) (cpu : ℕ) (who : Executor) (new : State) → executor_on (with_context_of k cpu who new) cpu ≡ executor_on k cpu
executor-same k cpu executor.Handler new = refl
executor-same k cpu (executor.Task id) new = refl

context-left : (k : KernelState) (cpu : ℕ) (who : Executor) (new : State) (memory : Memory) → executor_on k cpu ≡ Some who →
    is_ok (next_instruction (context_of k cpu who) memory) ≡ true → context_on (with_context_of k cpu who new) cpu ≡ Some new
context-left k cpu who new memory executes fetched =
    let there : KernelState = with_context_of k cpu who new in
    ap (λ (e : Option Executor). option_map (context_of there cpu) e) (executor-same k cpu who new ∙ executes)
    ∙ ap Some (context-by k cpu who new memory fetched (context-or-none k cpu who new))

-- The law.

sc-context : (b : BoardState) (cpu : ℕ) (who : Executor) (context : State) → executor_on b.kernel cpu ≡ Some who → registers_of b cpu ≡ Some context →
    context ≡ context_of b.kernel cpu who
sc-context b cpu who context executes runs =
    ap (λ (o : Option State). unwrap_or o context) (sym runs ∙ ap (λ (e : Option Executor). option_map (context_of b.kernel cpu) e) executes)

-- what the step of an SC leaves, by what it was
sc-by : (b : BoardState) (cpu rt address : ℕ) (who : Executor) (s context : State) (left : Ran) (what : Did) (linked : Bool) → context ≡ s →
    ScLeaves s b.memory rt address linked left what →
    (happens b (Step cpu)).board ≡ with_executed b (executed_by b.kernel cpu who s.pc left) →
    moves b (Step cpu) ≡ (record { processor = cpu; did = what }) ∷ [] →
    context_on (with_context_of b.kernel cpu who left.state) cpu ≡ Some left.state →
    Leaves b cpu rt address context linked
sc-by b cpu rt address who s context left what linked same leaves board moves_are runs =
    subst (λ (c : State). Leaves b cpu rt address c linked) (sym same) (record {
      memory_is =
          subst (λ (c : BoardState). MatchBool linked (stored32 b.memory address (read s rt) ≡ Ok c.memory) (c.memory ≡ b.memory))
          (sym board) leaves.memory_is;
      context_is = ap (λ (c : BoardState). registers_of c cpu) board ∙ runs ∙ ap Some leaves.state_is;
      moves_are = moves_are ∙ ap (λ (d : Did). (record { processor = cpu; did = d }) ∷ []) leaves.did_is;
    })

sc-leaves : (b : BoardState) (cpu rt address : ℕ) (sc : DoesConditional b cpu rt address) →
    Leaves b cpu rt address sc.context (is_linked b.links cpu address)
sc-leaves b cpu rt address sc =
    let by : RanBy b cpu (happens b (Step cpu)) (moves b (Step cpu)) = ran-step b cpu (ap is_ran sc.done) in
    let s : State = context_of b.kernel cpu by.who in
    let same : sc.context ≡ s = sc-context b cpu by.who sc.context by.executes sc.runs in
    let next : next_instruction s b.memory ≡ Ok (Linked Sc rt sc.register sc.offset) =
    ap (λ (c : State). next_instruction c b.memory) (sym same) ∙ sc.instruction in
    let there : address ≡ address_of s sc.register sc.offset = sc.names ∙ ap (λ (c : State). address_of c sc.register sc.offset) same in
    let left : Ran = ran cpu s b.memory b.links in
    let leaves : ScLeaves s b.memory rt address (is_linked b.links cpu address) left (did cpu s b.memory b.links) =
    subst (λ at. ScLeaves s b.memory rt at (is_linked b.links cpu at) left (did cpu s b.memory b.links)) (sym there)
    (sc-ran cpu s b.memory b.links rt sc.register sc.offset next by.outcome) in
    sc-by b cpu rt address by.who s sc.context left (did cpu s b.memory b.links) (is_linked b.links cpu address) same leaves by.board by.moves_are
    (context-left b.kernel cpu by.who left.state b.memory by.executes (ap is_ok next))

abbrev IsExact : BoardState → List Event → ℕ → ℕ → Bool → Type 0
IsExact b events cpu address linked =
    (HasReserved cpu address (history b events) → linked ≡ true) × ((HasReserved cpu address (history b events) → ⊥) → linked ≡ false)

reserved-or-not : (b : BoardState) (events : List Event) (cpu address : ℕ) → b.links ≡ [] →
    HasReserved cpu address (history b events) ⊎ FromStart b.links cpu address (history b events) → HasReserved cpu address (history b events)
reserved-or-not b events cpu address none (inl reserved) = reserved
reserved-or-not b events cpu address none (inr from) = absurd (false≢true (sym (ap (λ l. is_linked l cpu address) none) ∙ from.0))

exact-by : (linked : Bool) (b : BoardState) (events : List Event) (cpu address : ℕ) → b.links ≡ [] →
    is_linked (after b events).links cpu address ≡ linked →
    (HasReserved cpu address (history b events) → ⊥) → linked ≡ false
exact-by true b events cpu address none is not_reserved =
    absurd (not_reserved (reserved-or-not b events cpu address none
    (linked-back b.memory b.links (history b events) (after b events).memory (after b events).links cpu address (history-run b events) is)))
exact-by false b events cpu address none is not_reserved = refl

-- who has a reservation is linked
pub reserved-linked : (b : BoardState) (events : List Event) (cpu address : ℕ) → HasReserved cpu address (history b events) →
    is_linked (after b events).links cpu address ≡ true
reserved-linked b events cpu address reserved =
    linked-reserved b.memory b.links (history b events) (after b events).memory (after b events).links cpu address reserved.0
    (history-run b events) reserved.1

exact : (b : BoardState) (events : List Event) (cpu address : ℕ) → b.links ≡ [] →
    IsExact b events cpu address (is_linked (after b events).links cpu address)
exact b events cpu address none = (
  reserved-linked b events cpu address,
  exact-by (is_linked (after b events).links cpu address) b events cpu address none refl,
)

-- the law of an SC after any events of a board that began without links
pub conditional-from : (b : BoardState) (events : List Event) → b.links ≡ [] → ConditionalLaw b events
conditional-from b events none cpu rt address sc =
    let c : BoardState = after b events in
    let leaves : Leaves c cpu rt address sc.context (is_linked c.links cpu address) = sc-leaves c cpu rt address sc in
    let is : IsExact b events cpu address (is_linked c.links cpu address) = exact b events cpu address none in (
      λ reserved. subst (Leaves c cpu rt address sc.context) (is.0 reserved) leaves,
      λ not_reserved. subst (Leaves c cpu rt address sc.context) (is.1 not_reserved) leaves,
    )

pub word-from : (b : BoardState) (events : List Event) → WordLaw b events
word-from b events cpu address word reserved untouched =
    word-reserved b.memory b.links (history b events) (after b events).memory (after b events).links cpu address word
    (history-run b events) reserved untouched

pub boot-conditional : (image : Image) (config : Configuration) (board : BoardState) (events : List Event) → boot image config ≡ Ok board →
    ConditionalLaw board events
boot-conditional image config board events is = conditional-from board events (boot-begins (λ b. b.links ≡ []) image config board (λ s l p m good. refl) is)

pub boot-word : (image : Image) (config : Configuration) (board : BoardState) (events : List Event) → boot image config ≡ Ok board →
    WordLaw board events
boot-word image config board events is = word-from board events
