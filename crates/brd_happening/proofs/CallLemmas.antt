-- An event that makes a service call finds a SYSCALL before it.
use Rattle.std.proofs.Common.{◌≡◌, ℕ, refl, sym, ap, ◌∙◌}
use Rattle.std.specs.Prelude.{Bool, true, false, ◌&&◌, ◌||◌, ◌-◌, ◌%◌, ◌==◌, if◌then◌else◌, is_some, [], Option, None, Some, Result, Ok, Err}
use Rattle.std.proofs.lemmas.Bool.{false≢true}
use Rattle.std.specs.Option.{option_map}
use Rattle.std.specs.List.{filter_map}
use Rattle.brd_base.specs.Space.{base}
use Rattle.brd_isa.specs.declared.instruction.{Insn.Insn, LinkedOp.LinkedOp}
use Rattle.brd_isa.specs.Decoding.{decoded}
use Rattle.brd_mem.specs.declared.fault.Exc.{Exc}
use Rattle.brd_mem.specs.Memory.{Memory, size_of, contains, word_at}
use Rattle.brd_mem.specs.Access.{at_place, loaded32, stored32}
use Rattle.brd_link.specs.LinkSet.{LinkSet, is_linked}
use Rattle.brd_exec.specs.declared.outcome.{ExceptionCode.ExceptionCode, Stop.Stop}
use Rattle.brd_exec.specs.declared.outcome.Outcome.{Outcome}
use Rattle.brd_exec.specs.declared.outcome.Outcome.TheVariants.{Done, Syscall, Exception}
use Rattle.brd_exec.specs.State.{State, read, address_of}
use Rattle.brd_exec.specs.Values.{Given, register_gives, immediate_gives, traps, traps_immediate}
use Rattle.brd_exec.specs.Action.{Action, with_word, sets, linked, unless_trap, action}
use Rattle.brd_exec.specs.Step.{unless_stopped, stores, loads_linked, stores_if_linked, load_gives, store_gives, with_code, done, has_slot, of_word, of_fetch, of_next, next_instruction, effect, ended, ran}
use Rattle.brd_kernel.specs.declared.processor.Processor.{Processor}
use Rattle.brd_kernel.specs.declared.processor.Executor.{Executor}
use Rattle.brd_kernel.specs.declared.processor.Standing.{Standing}
use Rattle.brd_kernel.specs.Kernel.{processor_at, executor_in, executor_on, context_of, standing_in, deliverable, can_be_raised}
use Rattle.brd_board.specs.Executing.{executed_by, executed_in}
use Rattle.brd_board.specs.declared.event.Event.{Event}
use Rattle.brd_board.specs.declared.event.Event.TheVariants.{Step, Tick, Raise}
use Rattle.brd_board.specs.Board.{BoardState, Happened, with_executed, happens, happens_on, stepped_in, accepts_or_executes, executes_in, instruction_done, standing_of}
use Rattle.brd_board.specs.Words as word
use Rattle.brd_happening.specs.Found.{stands_for, found_where, found_on}
use Rattle.brd_happening.specs.Before.{is_call, finds_call, found_in, may_release, waiters_in}
use Rattle.brd_happening.specs.Release.{waiters_of, release_in}
use Rattle.brd_happening.specs.Happening.{releases, happening_of, released_between}

-- An action that stops at a service call.

abbrev stops_so : Result State Stop → Bool
stops_so (Ok after) = false
stops_so (Err Stop.Call) = true
stops_so (Err (Stop.Raise code)) = false

abbrev calls : Action → Bool
calls (Action.Local after) = false
calls (Action.MayStop outcome) = stops_so outcome
calls (Action.Loads op rt address) = false
calls (Action.Stores op rt address) = false
calls (Action.LoadsLinked rt address) = false
calls (Action.StoresIfLinked rt address) = false

-- Only SYSCALL does.

word-stops : (s : State) (register : ℕ) (given : Result ℕ ExceptionCode) → stops_so (with_word s register given) ≡ false
word-stops s register (Ok word) = refl
word-stops s register (Err code) = refl

sets-calls : (s : State) (register : ℕ) (given : Given) → calls (sets s register given) ≡ false
sets-calls s register (Given.Always word) = refl
sets-calls s register (Given.MayRaise given) = word-stops s register given

trap-stops : (s : State) (trap : Bool) → stops_so (unless_trap s trap) ≡ false
trap-stops s true = refl
trap-stops s false = refl

linked-calls : (op : LinkedOp) (rt address : ℕ) → calls (linked op rt address) ≡ false
linked-calls LinkedOp.Ll rt address = refl
linked-calls LinkedOp.Sc rt address = refl

action-calls : (insn : Insn) (s : State) → calls (action insn s) ≡ is_call (Some insn)
action-calls (Insn.Shift op rd rt sa) s = refl
action-calls (Insn.ShiftVariable op rd rt rs) s = refl
action-calls (Insn.ThreeRegisters op rd rs rt) s = sets-calls s rd (register_gives op (read s rd) (read s rs) (read s rt))
action-calls (Insn.Multiply rd rs rt) s = refl
action-calls (Insn.JumpRegister rs) s = refl
action-calls (Insn.JumpLinkRegister rd rs) s = refl
action-calls (Insn.Syscall code) s = refl
action-calls (Insn.Break code) s = refl
action-calls Insn.Sync s = refl
action-calls (Insn.MoveFrom op rd) s = refl
action-calls (Insn.MoveTo op rs) s = refl
action-calls (Insn.Product op rs rt) s = refl
action-calls (Insn.Accumulate op rs rt) s = refl
action-calls (Insn.Count op rd rs) s = refl
action-calls (Insn.Trap op rs rt code) s = trap-stops s (traps op (read s rs) (read s rt))
action-calls (Insn.TrapImmediate op rs immediate) s = trap-stops s (traps_immediate op (read s rs) immediate)
action-calls (Insn.Jump op index) s = refl
action-calls (Insn.Branch op rs rt offset) s = refl
action-calls (Insn.BranchZero op rs offset) s = refl
action-calls (Insn.BranchRegimm op rs offset) s = refl
action-calls (Insn.WithImmediate op rt rs immediate) s = sets-calls s rt (immediate_gives op (read s rs) immediate)
action-calls (Insn.LoadUpper rt immediate) s = refl
action-calls (Insn.Load op rt register offset) s = refl
action-calls (Insn.Store op rt register offset) s = refl
action-calls (Insn.Linked op rt register offset) s = linked-calls op rt (address_of s register offset)
action-calls (Insn.Prefetch hint register offset) s = refl

-- What ends as a service call has stopped so.

unfoldable is_syscall : Outcome → Bool
is_syscall Done = false
is_syscall Syscall = true
is_syscall (Exception code epc bd) = false

unless-ends : (s : State) (memory : Memory) (links : LinkSet) (outcome : Result State Stop) →
    is_syscall (ended (unless_stopped memory links outcome) s memory).outcome ≡ stops_so outcome
unfolding is_syscall
unless-ends s memory links (Ok after) = refl
unless-ends s memory links (Err Stop.Call) = refl
unless-ends s memory links (Err (Stop.Raise code)) = refl

stores-ends : (cpu : ℕ) (s : State) (memory : Memory) (links : LinkSet) (address : ℕ) (stored : Result Memory Exc) →
    is_syscall (ended (stores cpu s links address stored) s memory).outcome ≡ false
unfolding is_syscall
stores-ends cpu s memory links address (Ok stored) = refl
stores-ends cpu s memory links address (Err exc) = refl

loads-linked-ends : (cpu : ℕ) (s : State) (memory : Memory) (links : LinkSet) (rt address : ℕ) (loaded : Result ℕ Exc) →
    is_syscall (ended (loads_linked cpu s memory links rt address loaded) s memory).outcome ≡ false
unfolding is_syscall
loads-linked-ends cpu s memory links rt address (Ok loaded) = refl
loads-linked-ends cpu s memory links rt address (Err exc) = refl

stores-if-linked-ends : (cpu : ℕ) (s : State) (memory : Memory) (links : LinkSet) (rt address : ℕ) (linked : Bool) (stored : Result Memory Exc) →
    is_syscall (ended (stores_if_linked cpu s memory links rt address linked stored) s memory).outcome ≡ false
unfolding is_syscall
stores-if-linked-ends cpu s memory links rt address true (Ok stored) = refl
stores-if-linked-ends cpu s memory links rt address false (Ok stored) = refl
stores-if-linked-ends cpu s memory links rt address linked (Err exc) = refl

action-ends : (cpu : ℕ) (s : State) (memory : Memory) (links : LinkSet) (act : Action) →
    is_syscall (ended (done cpu s memory links act) s memory).outcome ≡ calls act
unfolding is_syscall
action-ends cpu s memory links (Action.Local after) = refl
action-ends cpu s memory links (Action.MayStop outcome) = unless-ends s memory links outcome
action-ends cpu s memory links (Action.Loads op rt address) =
    unless-ends s memory links (with_word s rt (with_code (load_gives op memory address (read s rt))))
    ∙ word-stops s rt (with_code (load_gives op memory address (read s rt)))
action-ends cpu s memory links (Action.Stores op rt address) =
    stores-ends cpu s memory links address (store_gives op memory address (read s rt))
action-ends cpu s memory links (Action.LoadsLinked rt address) =
    loads-linked-ends cpu s memory links rt address (loaded32 memory address)
action-ends cpu s memory links (Action.StoresIfLinked rt address) =
    stores-if-linked-ends cpu s memory links rt address (is_linked links cpu address) (stored32 memory address (read s rt))

-- So an instruction that ended so is a SYSCALL.

accepted-calls : (cpu : ℕ) (s : State) (memory : Memory) (links : LinkSet) (insn : Insn) (refused : Bool) →
    is_syscall (ended (of_next cpu s memory links (if refused then Err ExceptionCode.RI else Ok insn)) s memory).outcome ≡ true →
    is_call (Some insn) ≡ true
unfolding is_syscall
accepted-calls cpu s memory links insn true ends = absurd (false≢true ends)
accepted-calls cpu s memory links insn false ends =
    sym (action-calls insn s) ∙ sym (action-ends cpu s memory links (action insn s)) ∙ ends

word-calls : (cpu : ℕ) (s : State) (memory : Memory) (links : LinkSet) (insn : Option Insn) →
    is_syscall (ended (of_next cpu s memory links (of_word s insn)) s memory).outcome ≡ true → is_call insn ≡ true
unfolding is_syscall
word-calls cpu s memory links None ends = absurd (false≢true ends)
word-calls cpu s memory links (Some insn) ends = accepted-calls cpu s memory links insn (s.slot && has_slot insn) ends

-- a fetch and a load find the same word, where they find one
placed-calls : (cpu : ℕ) (s : State) (memory : Memory) (links : LinkSet) (aligned there : Bool) (at : ℕ) →
    is_syscall (ended (of_next cpu s memory links (of_fetch s (at_place (word_at memory)
    (if aligned then (if there then Ok at else Err Exc.IBE) else Err Exc.AdEL)))) s memory).outcome ≡ true →
    is_call (stands_for (word.word_found (at_place (word_at memory)
    (if aligned then (if there then Ok at else Err Exc.DBE) else Err Exc.AdEL)))) ≡ true
unfolding is_syscall
placed-calls cpu s memory links true true at ends = word-calls cpu s memory links (decoded (word_at memory at)) ends
placed-calls cpu s memory links true false at ends = absurd (false≢true ends)
placed-calls cpu s memory links false there at ends = absurd (false≢true ends)

ran-calls : (cpu : ℕ) (s : State) (memory : Memory) (links : LinkSet) → is_syscall (ran cpu s memory links).outcome ≡ true →
    is_call (stands_for (word.word_at memory s.pc)) ≡ true
unfolding ran effect next_instruction
ran-calls cpu s memory links ends =
    placed-calls cpu s memory links (s.pc % 4 == 0) (contains (size_of memory) s.pc 4) (s.pc - base) ends

-- What the processor finds.

stands-there : (p : Option Processor) (who : Executor) → executor_in p ≡ Some who → is_some (option_map standing_in p) ≡ true
stands-there None who is = ap is_some is
stands-there (Some p) who is = refl

found-calls : (b : BoardState) (cpu : ℕ) (standing : Option Standing) (s : State) → is_some standing ≡ true →
    is_call (stands_for (word.word_at b.memory s.pc)) ≡ true → finds_call (found_where b cpu standing (Some s)) ≡ true
found-calls b cpu None s there is = absurd (false≢true there)
found-calls b cpu (Some standing) s there is = is

executor-calls : (b : BoardState) (cpu : ℕ) (who : Executor) → executor_on b.kernel cpu ≡ Some who →
    is_syscall (ran cpu (context_of b.kernel cpu who) b.memory b.links).outcome ≡ true → finds_call (found_on b cpu) ≡ true
executor-calls b cpu who is ends =
    ap (λ context. finds_call (found_where b cpu (standing_of b cpu) context)) (ap (option_map (context_of b.kernel cpu)) is)
    ∙ found-calls b cpu (standing_of b cpu) (context_of b.kernel cpu who) (stands-there (processor_at b.kernel cpu) who is)
    (ran-calls cpu (context_of b.kernel cpu who) b.memory b.links ends)

-- Events.

-- where what happens may release tasks, the event looks as if it may
abbrev Looks : BoardState → Event → Happened → Type 0
Looks b event h = releases b.kernel.standard h.report ≡ true → may_release b event (found_in b event) ≡ true

first-so : (one other : Bool) → one ≡ true → (one || other) ≡ true
first-so true other is = refl
first-so false other is = absurd (false≢true is)

second-so : (one other : Bool) → other ≡ true → (one || other) ≡ true
second-so true other is = refl
second-so false other is = is

either : (test : Bool) (b : BoardState) (event : Event) (one other : Happened) → Looks b event one → Looks b event other →
    Looks b event (if test then one else other)
either true b event one other first second = first
either false b event one other first second = second

looks-done : (b c : BoardState) (cpu address : ℕ) (outcome : Outcome) → (is_syscall outcome ≡ true → finds_call (found_on b cpu) ≡ true) →
    Looks b (Step cpu) (instruction_done c cpu address outcome)
unfolding is_syscall
looks-done b c cpu address Done finds = λ told. absurd (false≢true told)
looks-done b c cpu address Syscall finds = λ told. second-so b.kernel.standard (finds_call (found_on b cpu)) (finds refl)
looks-done b c cpu address (Exception code epc bd) finds = λ told. first-so b.kernel.standard (finds_call (found_on b cpu)) told

looks-executes : (b : BoardState) (cpu : ℕ) (who : Option Executor) → executor_on b.kernel cpu ≡ who →
    Looks b (Step cpu) (executes_in b cpu (executed_in b.kernel cpu b.memory b.links who))
looks-executes b cpu None is = λ told. absurd (false≢true told)
looks-executes b cpu (Some who) is =
    let left = ran cpu (context_of b.kernel cpu who) b.memory b.links in
    let address = (context_of b.kernel cpu who).pc in
    looks-done b (with_executed b (executed_by b.kernel cpu who address left)) cpu address left.outcome (executor-calls b cpu who is)

looks-accepts : (b : BoardState) (cpu : ℕ) (line : Option ℕ) → Looks b (Step cpu) (accepts_or_executes b cpu line)
looks-accepts b cpu None = looks-executes b cpu (executor_on b.kernel cpu) refl
looks-accepts b cpu (Some line) = λ told. absurd (false≢true told)

looks-step : (b : BoardState) (cpu : ℕ) (found : Option Processor) → Looks b (Step cpu) (stepped_in b cpu found)
looks-step b cpu None = λ told. absurd (false≢true told)
looks-step b cpu (Some p) =
    either p.stopped b (Step cpu) _ _ (λ told. absurd (false≢true told)) (looks-accepts b cpu (deliverable b.kernel cpu))

looks-on : (b : BoardState) (event : Event) → Looks b event (happens_on b event)
looks-on b (Step cpu) = looks-step b cpu (processor_at b.kernel cpu)
looks-on b Tick = λ told. refl
looks-on b (Raise line) =
    either (can_be_raised b.kernel line) b (Raise line) _ _ (λ told. absurd (false≢true told)) (λ told. absurd (false≢true told))

pub event-looks : (b : BoardState) (event : Event) → Looks b event (happens b event)
unfolding happens
event-looks b event = either b.kernel.off b event _ _ (λ told. absurd (false≢true told)) (looks-on b event)

-- So the tasks that are released are looked for among all that wait.

released-all : (released looks : Bool) (b after : BoardState) → (released ≡ true → looks ≡ true) →
    (if released then filter_map (release_in after) (waiters_in b looks) else [])
    ≡ (if released then filter_map (release_in after) (waiters_of b) else [])
released-all true true b after look = refl
released-all true false b after look = absurd (false≢true (look refl))
released-all false looks b after look = refl

pub all-released : (b : BoardState) (event : Event) → (happening_of b event).released ≡ released_between b (happens b event)
all-released b event =
    released-all (releases b.kernel.standard (happens b event).report) (may_release b event (found_in b event)) b
    (happens b event).board (event-looks b event)
