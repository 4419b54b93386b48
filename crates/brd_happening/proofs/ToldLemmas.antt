-- Of each event something is told.
use Rattle.std.proofs.Common.{◌≡◌, ℕ, suc, zero, ◌<◌, List, [], ◌∷◌, length, refl, ap, ◌∙◌, arith}
use Rattle.std.specs.Prelude.{Bool, true, false, ◌-◌, ◌%◌, ◌==◌, if◌then◌else◌, nat_lt, is_some, slice_index_or, slice_set, Option, None, Some, Ok, Err}
use Rattle.std.proofs.lemmas.Bool.{false≢true}
use Rattle.std.specs.Option.{option_map}
use Rattle.brd_base.specs.Space.{base}
use Rattle.brd_isa.specs.declared.instruction.Insn.{Insn}
use Rattle.brd_isa.specs.Decoding.{decoded}
use Rattle.brd_mem.specs.declared.fault.Exc.{Exc}
use Rattle.brd_mem.specs.Memory.{Memory, size_of, contains, word_at}
use Rattle.brd_mem.specs.Access.{at_place}
use Rattle.brd_link.specs.LinkSet.{LinkSet}
use Rattle.brd_exec.specs.declared.outcome.Outcome.{Outcome}
use Rattle.brd_exec.specs.declared.outcome.Outcome.TheVariants.{Done, Syscall, Exception}
use Rattle.brd_exec.specs.State.{State}
use Rattle.brd_exec.specs.Step.{Ran, of_word, of_fetch, of_next, next_instruction, effect, ended, ran}
use Rattle.brd_time.specs.Time.{last_count}
use Rattle.brd_kernel.specs.declared.processor.Processor.{Processor}
use Rattle.brd_kernel.specs.declared.processor.Executor.{Executor}
use Rattle.brd_kernel.specs.declared.processor.Executor.TheVariants as executor
use Rattle.brd_kernel.specs.declared.processor.Standing.{Standing}
use Rattle.brd_kernel.specs.Kernel.{KernelState, processor_at, executor_in, executor_on, context_of, context_on, with_context_of, standing_in, deliverable, line_at, can_be_raised}
use Rattle.brd_board.specs.Executing.{executed_by, executed_in}
use Rattle.brd_board.specs.declared.event.Event.{Event}
use Rattle.brd_board.specs.declared.event.Event.TheVariants.{Step, Tick, Raise}
use Rattle.brd_board.specs.declared.event.Report.TheVariants as report
use Rattle.brd_board.specs.declared.view.Fault.{Fault}
use Rattle.brd_board.specs.Board.{BoardState, Happened, with_executed, happens, happens_on, stepped_in, accepts_or_executes, executes_in, instruction_done, registers_of}
use Rattle.brd_happening.specs.declared.found.Found.{Found}
use Rattle.brd_board.specs.Words as word
use Rattle.brd_happening.specs.Found.{stands_for, found_by, found_where, found_on}
use Rattle.brd_happening.specs.Before.{before_of}
use Rattle.brd_happening.specs.Happening.{is_told, instruction_from, exception_by, executed_in as executed_where, was_raised, what_of, happening_of}

-- What is found where somebody executes.

record FindsOne (b : BoardState) (cpu : ℕ) (s : State) : Type 0 where
  who : Standing
  is : found_on b cpu ≡ Some (found_by b cpu who s)

record StandsSo (p : Option Processor) : Type 0 where
  as_this : Standing
  is : option_map standing_in p ≡ Some as_this

stands : (p : Option Processor) (who : Executor) → executor_in p ≡ Some who → StandsSo p
stands None who is = absurd (false≢true (ap is_some is))
stands (Some p) who is = record { as_this = standing_in p; is = refl }

finds-one : (b : BoardState) (cpu : ℕ) (who : Executor) → executor_on b.kernel cpu ≡ Some who → FindsOne b cpu (context_of b.kernel cpu who)
finds-one b cpu who is =
    let on = stands (processor_at b.kernel cpu) who is in
    record {
      who = on.as_this;
      is = ap (λ standing. found_where b cpu standing (registers_of b cpu)) on.is
          ∙ ap (λ context. found_where b cpu (Some on.as_this) context) (ap (option_map (context_of b.kernel cpu)) is);
    }

-- An instruction that was done had a word that stands for it.

unfoldable is_done : Outcome → Bool
is_done Done = true
is_done Syscall = false
is_done (Exception code epc bd) = false

word-done : (cpu : ℕ) (s : State) (memory : Memory) (links : LinkSet) (insn : Option Insn) →
    is_done (ended (of_next cpu s memory links (of_word s insn)) s memory).outcome ≡ true → is_some insn ≡ true
unfolding is_done
word-done cpu s memory links None ends = absurd (false≢true ends)
word-done cpu s memory links (Some insn) ends = refl

placed-done : (cpu : ℕ) (s : State) (memory : Memory) (links : LinkSet) (aligned there : Bool) (at : ℕ) →
    is_done (ended (of_next cpu s memory links (of_fetch s (at_place (word_at memory)
    (if aligned then (if there then Ok at else Err Exc.IBE) else Err Exc.AdEL)))) s memory).outcome ≡ true →
    is_some (stands_for (word.word_found (at_place (word_at memory)
    (if aligned then (if there then Ok at else Err Exc.DBE) else Err Exc.AdEL)))) ≡ true
unfolding is_done
placed-done cpu s memory links true true at ends = word-done cpu s memory links (decoded (word_at memory at)) ends
placed-done cpu s memory links true false at ends = absurd (false≢true ends)
placed-done cpu s memory links false there at ends = absurd (false≢true ends)

ran-done : (cpu : ℕ) (s : State) (memory : Memory) (links : LinkSet) → is_done (ran cpu s memory links).outcome ≡ true →
    is_some (stands_for (word.word_at memory s.pc)) ≡ true
unfolding ran effect next_instruction
ran-done cpu s memory links ends =
    placed-done cpu s memory links (s.pc % 4 == 0) (contains (size_of memory) s.pc 4) (s.pc - base) ends

-- Who executed an instruction still does after it.

executor-stays : (k : KernelState) (cpu : ℕ) (who : Executor) (s : State) → executor_on (with_context_of k cpu who s) cpu ≡ executor_on k cpu
executor-stays k cpu executor.Handler s = refl
executor-stays k cpu (executor.Task id) s = refl

some-mapped : {X Y : Type 0} (f : X → Y) (o : Option X) → is_some (option_map f o) ≡ is_some o
some-mapped f None = refl
some-mapped f (Some x) = refl

registers-there : (k : KernelState) (cpu : ℕ) (who : Executor) (s : State) → executor_on k cpu ≡ Some who →
    is_some (context_on (with_context_of k cpu who s) cpu) ≡ true
registers-there k cpu who s is =
    some-mapped (context_of (with_context_of k cpu who s) cpu) (executor_on (with_context_of k cpu who s) cpu)
    ∙ ap is_some (executor-stays k cpu who s ∙ is)

instruction-told : (insn : Option Insn) (context : Option State) (found : Found) (after : BoardState) → is_some insn ≡ true →
    is_some context ≡ true → is_told (instruction_from insn context found after) ≡ true
instruction-told None context found after some there = absurd (false≢true some)
instruction-told (Some insn) None found after some there = absurd (false≢true there)
instruction-told (Some insn) (Some s) found after some there = refl

-- An exception is kept.

within : (ps : List (Option Processor)) (cpu : ℕ) (who : Executor) → executor_in (slice_index_or ps cpu None) ≡ Some who → cpu < length ps
within [] cpu who is = absurd (false≢true (ap is_some is))
within (p ∷ ps) zero who is = omega arith
within (p ∷ ps) (suc cpu) who is = let below = within ps cpu who is in omega (arith, below)

kept-there : (faults : List (Option Fault)) (cpu : ℕ) (fault : Fault) → cpu < length faults →
    is_some (slice_index_or (slice_set faults cpu (Some fault)) cpu None) ≡ true
kept-there [] cpu fault below = absurd (omega (arith, below))
kept-there (f ∷ fs) zero fault below = refl
kept-there (f ∷ fs) (suc cpu) fault below = kept-there fs cpu fault (omega (arith, below))

exception-told : (found : Found) (fault : Option Fault) → is_some fault ≡ true → is_told (exception_by found fault) ≡ true
exception-told found None there = absurd (false≢true there)
exception-told found (Some fault) there = refl

-- Events.

-- a board has as many last exceptions as processors
abbrev HasFaults : BoardState → Type 0
HasFaults b = length b.faults ≡ length b.kernel.processors

abbrev Told : BoardState → Event → Happened → Type 0
Told b event h = is_told (what_of (before_of b event) h.report h.board) ≡ true

either : (test : Bool) (b : BoardState) (event : Event) (one other : Happened) → Told b event one → Told b event other →
    Told b event (if test then one else other)
either true b event one other first second = first
either false b event one other first second = second

-- an instruction, by how it ended
told-done : (b : BoardState) (cpu : ℕ) (who : Executor) (left : Ran) (outcome : Outcome) → HasFaults b → executor_on b.kernel cpu ≡ Some who →
    (is_done outcome ≡ true → is_some (stands_for (word.word_at b.memory (context_of b.kernel cpu who).pc)) ≡ true) →
    Told b (Step cpu) (instruction_done (with_executed b (executed_by b.kernel cpu who (context_of b.kernel cpu who).pc left)) cpu
    (context_of b.kernel cpu who).pc outcome)
unfolding is_done
told-done b cpu who left Done faults is has =
    let after = with_executed b (executed_by b.kernel cpu who (context_of b.kernel cpu who).pc left) in
    let one = finds-one b cpu who is in
    ap (λ found. is_told (executed_where found (report.Ran (context_of b.kernel cpu who).pc) after)) one.is
    ∙ instruction-told (stands_for (word.word_at b.memory (context_of b.kernel cpu who).pc)) (registers_of after cpu)
    (found_by b cpu one.who (context_of b.kernel cpu who)) after (has refl) (registers-there b.kernel cpu who left.state is)
told-done b cpu who left Syscall faults is has =
    let address = (context_of b.kernel cpu who).pc in
    let after = with_executed b (executed_by b.kernel cpu who address left) in
    ap (λ found. is_told (executed_where found (report.Called address) (instruction_done after cpu address Syscall).board)) (finds-one b cpu who is).is
told-done b cpu who left (Exception code epc bd) faults is has =
    let address = (context_of b.kernel cpu who).pc in
    let after = with_executed b (executed_by b.kernel cpu who address left) in
    let one = finds-one b cpu who is in
    let below = within b.kernel.processors cpu who is in
    ap (λ found. is_told (executed_where found (report.Faulted address) (instruction_done after cpu address (Exception code epc bd)).board)) one.is
    ∙ exception-told (found_by b cpu one.who (context_of b.kernel cpu who)) _
    (kept-there b.faults cpu (record { code = code; epc = epc; bd = bd }) (omega (arith, below, faults)))

told-executes : (b : BoardState) (cpu : ℕ) (who : Option Executor) → HasFaults b → executor_on b.kernel cpu ≡ who →
    Told b (Step cpu) (executes_in b cpu (executed_in b.kernel cpu b.memory b.links who))
told-executes b cpu None faults is = refl
told-executes b cpu (Some who) faults is =
    let left = ran cpu (context_of b.kernel cpu who) b.memory b.links in
    told-done b cpu who left left.outcome faults is (ran-done cpu (context_of b.kernel cpu who) b.memory b.links)

told-accepts : (b : BoardState) (cpu : ℕ) (line : Option ℕ) → HasFaults b → Told b (Step cpu) (accepts_or_executes b cpu line)
told-accepts b cpu None faults = told-executes b cpu (executor_on b.kernel cpu) faults refl
told-accepts b cpu (Some line) faults = refl

told-step : (b : BoardState) (cpu : ℕ) (found : Option Processor) → HasFaults b → Told b (Step cpu) (stepped_in b cpu found)
told-step b cpu None faults = refl
told-step b cpu (Some p) faults = either p.stopped b (Step cpu) _ _ refl (told-accepts b cpu (deliverable b.kernel cpu) faults)

raised-told : (line : ℕ) (pending : Bool) → is_told (was_raised (Raise line) pending) ≡ true
raised-told line true = refl
raised-told line false = refl

told-on : (b : BoardState) (event : Event) → HasFaults b → Told b event (happens_on b event)
told-on b (Step cpu) faults = told-step b cpu (processor_at b.kernel cpu) faults
told-on b Tick faults = either (nat_lt b.kernel.time.count last_count) b Tick _ _ refl refl
told-on b (Raise line) faults =
    either (can_be_raised b.kernel line) b (Raise line) _ _ (raised-told line (line_at b.kernel line).pending) refl

pub event-told : (b : BoardState) (event : Event) → HasFaults b → is_told (happening_of b event).what ≡ true
unfolding happens
event-told b event faults = either b.kernel.off b event _ _ refl (told-on b event faults)
