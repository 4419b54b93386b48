-- What events do to links, and what links do to events.
use Rattle.std.proofs.Common.{◌≡◌, ℕ, Bool, true, false, not, List, refl, sym, ap, subst, ◌∙◌, arith}
use Rattle.std.specs.Prelude.{◌==◌, ◌||◌, ◌&&◌, if◌then◌else◌, nat_lt, Option, None, Some, Result, Ok, Err}
use Rattle.std.specs.List.{list_any}
use Rattle.std.proofs.lemmas.Bool.{false≢true, ne_eqb, eq-eqb}
use Rattle.std.proofs.lemmas.Bool.Decides.{nat_tests}
use Rattle.brd_isa.specs.declared.instruction.{Insn.Insn, StoreOp.StoreOp}
use Rattle.brd_mem.specs.declared.fault.Exc.{Exc}
use Rattle.brd_mem.specs.Memory.{Memory}
use Rattle.brd_mem.specs.Access.{loaded32, stored32}
use Rattle.brd_link.specs.LinkSet.{LinkSet, is_linked, is_same_block, without, without_all, with_link, after_store}
use Rattle.brd_link.proofs.LinkLemmas.{is_linked-without, is_linked-without_all, is_linked-with_link, is_linked-after_store}
use Rattle.brd_exec.specs.declared.outcome.{ExceptionCode.ExceptionCode, Outcome.Outcome, Stop.Stop}
use Rattle.brd_exec.specs.declared.outcome.Outcome.TheVariants.{Done, Syscall, Exception}
use Rattle.brd_exec.specs.State.{State, read}
use Rattle.brd_exec.specs.Action.{Action, with_word, action}
use Rattle.brd_exec.specs.Step.{Effect, unless_stopped, stores as storing_to, loads_linked, stores_if_linked, with_code, load_gives, store_gives, done, of_next, next_instruction, effect, Ran, ended, ran}
use Rattle.brd_time.specs.Time.{last_count, advanced}
use Rattle.brd_kernel.specs.declared.processor.Processor.{Processor}
use Rattle.brd_kernel.specs.declared.processor.Executor.{Executor}
use Rattle.brd_kernel.specs.Kernel.{processor_at, executor_on, context_of, deliverable, accepted_line, can_be_raised, with_pending}
use Rattle.brd_kernel.specs.Waits.{ticked_on}
use Rattle.brd_kernel.specs.Dispatch.{dispatched, changed_processors}
use Rattle.brd_board.specs.Executing.{executed_by, executed_in}
use Rattle.brd_board.specs.declared.event.Event.{Event}
use Rattle.brd_board.specs.declared.event.Event.TheVariants.{Step, Tick, Raise}
use Rattle.brd_board.specs.declared.event.Report.{Report}
use Rattle.brd_board.specs.declared.event.Report.TheVariants as report
use Rattle.brd_board.specs.Board.{BoardState, Happened, reported, then_dispatched, with_executed, with_call, with_fault, instruction_done, executes_in, accepts_or_executes, stepped_in, happens_on, happens}
use Rattle.brd_frames.specs.Agents.{Agent, context_in}
use Rattle.brd_frames.specs.Touching.{stores_at, stores_by, stores_next, stores, stored_in, is_stored}
use Rattle.brd_frames.specs.Going.{Gone, links_after, IsNext, is_plain_next}
use Rattle.brd_frames.specs.Linking.{with_links, happened_linked, AreSameOf}
use Rattle.brd_frames.proofs.FootprintLemmas.{executing-is}
use Rattle.brd_frames.proofs.GoingLemmas.{processor, goes-plain}

-- What changes of a set of links leave.

by-test : (own same has : Bool) → same ≡ false → ((own || not same) && has) ≡ has
by-test own true has apart = absurd (false≢true (sym apart))
by-test true false has apart = refl
by-test false false has apart = refl

stored-other : (links : LinkSet) (cpu at other word : ℕ) → is_same_block word at ≡ false →
    is_linked (after_store links cpu at) other word ≡ is_linked links other word
stored-other links cpu at other word apart = is_linked-after_store links cpu at other word ∙ by-test (other == cpu) (is_same_block word at) (is_linked links other word) apart

without-other : (links : LinkSet) (cpu other word : ℕ) → (other ≡ cpu → ⊥) → is_linked (without links cpu) other word ≡ is_linked links other word
without-other links cpu other word apart =
    is_linked-without links cpu other word ∙ ap (λ own. not own && is_linked links other word) (ne_eqb other cpu apart)

linked-other : (links : LinkSet) (cpu at other word : ℕ) → (other ≡ cpu → ⊥) → is_linked (with_link links cpu at) other word ≡ is_linked links other word
linked-other links cpu at other word apart =
    is_linked-with_link links cpu at other word ∙ ap (λ own. if own then at == word else is_linked links other word) (ne_eqb other cpu apart)

-- Links of others over an instruction.

-- the address that a store names is one to which it stores
stores-there : (op : StoreOp) (at : ℕ) → stores_at op at at ≡ true
stores-there StoreOp.Sb at = grind (arith, nat_tests)
stores-there StoreOp.Sh at = grind (arith, nat_tests)
stores-there StoreOp.Swl at = grind (arith, nat_tests)
stores-there StoreOp.Sw at = grind (arith, nat_tests)
stores-there StoreOp.Swr at = grind (arith, nat_tests)

abbrev KeepsOthers : State → Memory → LinkSet → ℕ → ℕ → Effect → Type 0
KeepsOthers s memory links other word how = is_linked (ended how s memory).links other word ≡ is_linked links other word

others-unless : (s : State) (memory : Memory) (links : LinkSet) (other word : ℕ) (outcome : Result State Stop) →
    KeepsOthers s memory links other word (unless_stopped memory links outcome)
others-unless s memory links other word (Ok after) = refl
others-unless s memory links other word (Err Stop.Call) = refl
others-unless s memory links other word (Err (Stop.Raise code)) = refl

others-stores : (cpu : ℕ) (s : State) (memory : Memory) (links : LinkSet) (at other word : ℕ) (given : Result Memory Exc) →
    is_same_block word at ≡ false → KeepsOthers s memory links other word (storing_to cpu s links at given)
others-stores cpu s memory links at other word (Ok stored) apart = stored-other links cpu at other word apart
others-stores cpu s memory links at other word (Err exc) apart = refl

others-linked : (cpu : ℕ) (s : State) (memory : Memory) (links : LinkSet) (rt at other word : ℕ) (given : Result ℕ Exc) → (other ≡ cpu → ⊥) →
    KeepsOthers s memory links other word (loads_linked cpu s memory links rt at given)
others-linked cpu s memory links rt at other word (Ok found) never = linked-other links cpu at other word never
others-linked cpu s memory links rt at other word (Err exc) never = refl

others-if : (cpu : ℕ) (s : State) (memory : Memory) (links : LinkSet) (rt at other word : ℕ) (linked : Bool) (given : Result Memory Exc) →
    (other ≡ cpu → ⊥) → is_same_block word at ≡ false →
    KeepsOthers s memory links other word (stores_if_linked cpu s memory links rt at linked given)
others-if cpu s memory links rt at other word true (Ok stored) never apart =
    stored-other (without links cpu) cpu at other word apart ∙ without-other links cpu other word never
others-if cpu s memory links rt at other word false (Ok stored) never apart = without-other links cpu other word never
others-if cpu s memory links rt at other word linked (Err exc) never apart = without-other links cpu other word never

others-done : (cpu : ℕ) (s : State) (memory : Memory) (links : LinkSet) (other word : ℕ) (act : Action) → (other ≡ cpu → ⊥) →
    ((at : ℕ) → stores_by act at ≡ true → is_same_block word at ≡ false) → KeepsOthers s memory links other word (done cpu s memory links act)
others-done cpu s memory links other word (Action.Local after) never apart = refl
others-done cpu s memory links other word (Action.MayStop outcome) never apart = others-unless s memory links other word outcome
others-done cpu s memory links other word (Action.Loads op rt at) never apart =
    others-unless s memory links other word (with_word s rt (with_code (load_gives op memory at (read s rt))))
others-done cpu s memory links other word (Action.Stores op rt at) never apart =
    others-stores cpu s memory links at other word (store_gives op memory at (read s rt)) (apart at (stores-there op at))
others-done cpu s memory links other word (Action.LoadsLinked rt at) never apart =
    others-linked cpu s memory links rt at other word (loaded32 memory at) never
others-done cpu s memory links other word (Action.StoresIfLinked rt at) never apart =
    others-if cpu s memory links rt at other word (is_linked links cpu at) (stored32 memory at (read s rt)) never
    (apart at (stores-there StoreOp.Sw at))

others-next : (cpu : ℕ) (s : State) (memory : Memory) (links : LinkSet) (other word : ℕ) (next : Result Insn ExceptionCode) → (other ≡ cpu → ⊥) →
    ((at : ℕ) → stores_next s at next ≡ true → is_same_block word at ≡ false) →
    KeepsOthers s memory links other word (of_next cpu s memory links next)
others-next cpu s memory links other word (Ok insn) never apart = others-done cpu s memory links other word (action insn s) never apart
others-next cpu s memory links other word (Err code) never apart = refl

others-ran : (cpu : ℕ) (s : State) (memory : Memory) (links : LinkSet) (other word : ℕ) → (other ≡ cpu → ⊥) →
    ((at : ℕ) → stores s memory at ≡ true → is_same_block word at ≡ false) →
    is_linked (ran cpu s memory links).links other word ≡ is_linked links other word
unfolding ran effect stores
others-ran cpu s memory links other word never apart = others-next cpu s memory links other word (next_instruction s memory) never apart

-- of a step that has executed an instruction

abbrev OthersKept : BoardState → ℕ → ℕ → Happened → Type 0
OthersKept b other word it = (address : ℕ) → it.report ≡ report.Ran address → is_linked it.board.links other word ≡ is_linked b.links other word

others-outcome : (b x : BoardState) (cpu at other word : ℕ) (outcome : Outcome) → is_linked x.links other word ≡ is_linked b.links other word →
    OthersKept b other word (instruction_done x cpu at outcome)
others-outcome b x cpu at other word Done same = λ address told. same
others-outcome b x cpu at other word Syscall same = λ address told. let wrong : ⊥ = cc in absurd wrong
others-outcome b x cpu at other word (Exception code epc bd) same = λ address told. let wrong : ⊥ = cc in absurd wrong

-- what is executed doesn't store to the word's block
abbrev StepApart : BoardState → ℕ → ℕ → Type 0
StepApart b cpu word =
    (who : Executor) → executor_on b.kernel cpu ≡ Some who → deliverable b.kernel cpu ≡ None → (at : ℕ) →
    stores (context_of b.kernel cpu who) b.memory at ≡ true → is_same_block word at ≡ false

others-executes : (b : BoardState) (cpu other word : ℕ) (by : Option Executor) → (other ≡ cpu → ⊥) →
    ((who : Executor) → by ≡ Some who → (at : ℕ) → stores (context_of b.kernel cpu who) b.memory at ≡ true → is_same_block word at ≡ false) →
    OthersKept b other word (executes_in b cpu (executed_in b.kernel cpu b.memory b.links by))
others-executes b cpu other word None never apart = λ address told. let wrong : ⊥ = cc in absurd wrong
others-executes b cpu other word (Some who) never apart =
    let s : State = context_of b.kernel cpu who in
    let left : Ran = ran cpu s b.memory b.links in
    others-outcome b (with_executed b (executed_by b.kernel cpu who s.pc left)) cpu s.pc other word left.outcome
    (others-ran cpu s b.memory b.links other word never (apart who refl))

others-accepts : (b : BoardState) (cpu other word : ℕ) (line : Option ℕ) → (other ≡ cpu → ⊥) → deliverable b.kernel cpu ≡ line →
    StepApart b cpu word → OthersKept b other word (accepts_or_executes b cpu line)
others-accepts b cpu other word None never is apart =
    others-executes b cpu other word (executor_on b.kernel cpu) never (λ who on. apart who on is)
others-accepts b cpu other word (Some line) never is apart = λ address told. let wrong : ⊥ = cc in absurd wrong

others-stopped : (b : BoardState) (other word : ℕ) (stopped : Bool) (it : Happened) → OthersKept b other word it →
    OthersKept b other word (if stopped then reported b report.Stopped else it)
others-stopped b other word true it kept = λ address told. let wrong : ⊥ = cc in absurd wrong
others-stopped b other word false it kept = kept

others-stepped : (b : BoardState) (cpu other word : ℕ) (found : Option Processor) → (other ≡ cpu → ⊥) → StepApart b cpu word →
    OthersKept b other word (stepped_in b cpu found)
others-stepped b cpu other word None never apart = λ address told. let wrong : ⊥ = cc in absurd wrong
others-stepped b cpu other word (Some p) never apart =
    others-stopped b other word p.stopped (accepts_or_executes b cpu (deliverable b.kernel cpu))
    (others-accepts b cpu other word (deliverable b.kernel cpu) never refl apart)

others-off : (b : BoardState) (cpu other word : ℕ) (off : Bool) → b.kernel.off ≡ off → (other ≡ cpu → ⊥) →
    ((at : ℕ) → is_stored b (Step cpu) at ≡ true → is_same_block word at ≡ false) →
    OthersKept b other word (if off then reported b report.Off else happens_on b (Step cpu))
others-off b cpu other word true is never apart = λ address told. let wrong : ⊥ = cc in absurd wrong
others-off b cpu other word false is never apart =
    others-stepped b cpu other word (processor_at b.kernel cpu) never
    (λ who executes free at stored.
    apart at (subst (λ by. stored_in by b.memory at ≡ true) (sym (executing-is b cpu who is executes free)) stored))

pub others-kept : (b : BoardState) (cpu other word address : ℕ) → (other ≡ cpu → ⊥) → (happens b (Step cpu)).report ≡ report.Ran address →
    ((at : ℕ) → is_stored b (Step cpu) at ≡ true → is_same_block word at ≡ false) →
    is_linked (happens b (Step cpu)).board.links other word ≡ is_linked b.links other word
unfolding happens
others-kept b cpu other word address never told apart = others-off b cpu other word b.kernel.off refl never apart address told

-- One's own link.

own-stored : (links : LinkSet) (cpu : ℕ) (stored : Option ℕ) → AreSameOf cpu links (links_after cpu links stored)
own-stored links cpu None = λ word. refl
own-stored links cpu (Some at) = λ word.
    is_linked-after_store links cpu at cpu word
    ∙ ap (λ own. (own || not (is_same_block word at)) && is_linked links cpu word) (eq-eqb cpu cpu refl)

pub own-kept : (b : BoardState) (cpu address : ℕ) (who : Agent) → IsNext b cpu who → (happens b (Step cpu)).report ≡ report.Ran address →
    is_plain_next (context_in b.kernel who) (next_instruction (context_in b.kernel who) b.memory) ≡ true →
    AreSameOf cpu b.links (happens b (Step cpu)).board.links
own-kept b cpu address who next told plain =
    let it = goes-plain b cpu address who next told plain in
    let gone : Gone = it.0 in
    subst (λ (done : Happened). AreSameOf cpu b.links done.board.links) (sym (processor b cpu who gone next it.1)) (own-stored b.links cpu gone.stored)

-- The links of others do nothing to an event.

-- links that are the same of a processor are so afterwards
abbrev Follows : LinkSet → LinkSet → LinkSet → LinkSet → Type 0
Follows one two left right = (cpu : ℕ) → AreSameOf cpu one two → AreSameOf cpu left right

follows-without : (one two left right : LinkSet) (cpu : ℕ) → Follows one two left right → Follows one two (without left cpu) (without right cpu)
follows-without one two left right cpu follows other same word =
    is_linked-without right cpu other word
    ∙ ap (λ has. not (other == cpu) && has) (follows other same word)
    ∙ sym (is_linked-without left cpu other word)

follows-all : (one two left right : LinkSet) (cpus : List ℕ) → Follows one two left right →
    Follows one two (without_all left cpus) (without_all right cpus)
follows-all one two left right cpus follows other same word =
    is_linked-without_all right cpus other word
    ∙ ap (λ has. not (list_any (λ cpu. other == cpu) cpus) && has) (follows other same word)
    ∙ sym (is_linked-without_all left cpus other word)

follows-linked : (one two left right : LinkSet) (cpu at : ℕ) → Follows one two left right →
    Follows one two (with_link left cpu at) (with_link right cpu at)
follows-linked one two left right cpu at follows other same word =
    is_linked-with_link right cpu at other word
    ∙ ap (λ has. if other == cpu then at == word else has) (follows other same word)
    ∙ sym (is_linked-with_link left cpu at other word)

follows-stored : (one two left right : LinkSet) (cpu at : ℕ) → Follows one two left right →
    Follows one two (after_store left cpu at) (after_store right cpu at)
follows-stored one two left right cpu at follows other same word =
    is_linked-after_store right cpu at other word
    ∙ ap (λ has. (other == cpu || not (is_same_block word at)) && has) (follows other same word)
    ∙ sym (is_linked-after_store left cpu at other word)

-- what an instruction leaves over links that are the same of its processor
record RanAlike (one two : LinkSet) (left right : Ran) : Type 0 where
  is : right ≡ record left { links = right.links }
  follows : Follows one two left.links right.links

same-follows : (one two : LinkSet) → Follows one two one two
same-follows one two cpu same = same

alike-unless : (one two : LinkSet) (s : State) (memory : Memory) (outcome : Result State Stop) →
    RanAlike one two (ended (unless_stopped memory one outcome) s memory) (ended (unless_stopped memory two outcome) s memory)
alike-unless one two s memory (Ok after) = record { is = refl; follows = same-follows one two }
alike-unless one two s memory (Err Stop.Call) = record { is = refl; follows = same-follows one two }
alike-unless one two s memory (Err (Stop.Raise code)) = record { is = refl; follows = same-follows one two }

alike-stores : (cpu : ℕ) (one two : LinkSet) (s : State) (memory : Memory) (at : ℕ) (given : Result Memory Exc) →
    RanAlike one two (ended (storing_to cpu s one at given) s memory) (ended (storing_to cpu s two at given) s memory)
alike-stores cpu one two s memory at (Ok stored) = record { is = refl; follows = follows-stored one two one two cpu at (same-follows one two) }
alike-stores cpu one two s memory at (Err exc) = record { is = refl; follows = same-follows one two }

alike-linked : (cpu : ℕ) (one two : LinkSet) (s : State) (memory : Memory) (rt at : ℕ) (given : Result ℕ Exc) →
    RanAlike one two (ended (loads_linked cpu s memory one rt at given) s memory) (ended (loads_linked cpu s memory two rt at given) s memory)
alike-linked cpu one two s memory rt at (Ok word) = record { is = refl; follows = follows-linked one two one two cpu at (same-follows one two) }
alike-linked cpu one two s memory rt at (Err exc) = record { is = refl; follows = same-follows one two }

alike-if : (cpu : ℕ) (one two : LinkSet) (s : State) (memory : Memory) (rt at : ℕ) (linked : Bool) (given : Result Memory Exc) →
    RanAlike one two (ended (stores_if_linked cpu s memory one rt at linked given) s memory)
    (ended (stores_if_linked cpu s memory two rt at linked given) s memory)
alike-if cpu one two s memory rt at true (Ok stored) = record {
  is = refl;
  follows = follows-stored one two (without one cpu) (without two cpu) cpu at (follows-without one two one two cpu (same-follows one two));
}
alike-if cpu one two s memory rt at false (Ok stored) = record { is = refl; follows = follows-without one two one two cpu (same-follows one two) }
alike-if cpu one two s memory rt at linked (Err exc) = record { is = refl; follows = follows-without one two one two cpu (same-follows one two) }

alike-done : (cpu : ℕ) (one two : LinkSet) (s : State) (memory : Memory) (act : Action) → AreSameOf cpu one two →
    RanAlike one two (ended (done cpu s memory one act) s memory) (ended (done cpu s memory two act) s memory)
alike-done cpu one two s memory (Action.Local after) same = record { is = refl; follows = same-follows one two }
alike-done cpu one two s memory (Action.MayStop outcome) same = alike-unless one two s memory outcome
alike-done cpu one two s memory (Action.Loads op rt at) same =
    alike-unless one two s memory (with_word s rt (with_code (load_gives op memory at (read s rt))))
alike-done cpu one two s memory (Action.Stores op rt at) same = alike-stores cpu one two s memory at (store_gives op memory at (read s rt))
alike-done cpu one two s memory (Action.LoadsLinked rt at) same = alike-linked cpu one two s memory rt at (loaded32 memory at)
alike-done cpu one two s memory (Action.StoresIfLinked rt at) same =
    subst (λ linked. RanAlike one two (ended (stores_if_linked cpu s memory one rt at (is_linked one cpu at) (stored32 memory at (read s rt))) s memory)
    (ended (stores_if_linked cpu s memory two rt at linked (stored32 memory at (read s rt))) s memory)) (sym (same at))
    (alike-if cpu one two s memory rt at (is_linked one cpu at) (stored32 memory at (read s rt)))

alike-next : (cpu : ℕ) (one two : LinkSet) (s : State) (memory : Memory) (next : Result Insn ExceptionCode) → AreSameOf cpu one two →
    RanAlike one two (ended (of_next cpu s memory one next) s memory) (ended (of_next cpu s memory two next) s memory)
alike-next cpu one two s memory (Ok insn) same = alike-done cpu one two s memory (action insn s) same
alike-next cpu one two s memory (Err code) same = record { is = refl; follows = same-follows one two }

alike-ran : (cpu : ℕ) (one two : LinkSet) (s : State) (memory : Memory) → AreSameOf cpu one two →
    RanAlike one two (ran cpu s memory one) (ran cpu s memory two)
unfolding ran effect
alike-ran cpu one two s memory same = alike-next cpu one two s memory (next_instruction s memory) same

-- what happens over other links
record Alike (one two : LinkSet) (left right : Happened) : Type 0 where
  is : right ≡ happened_linked left right.board.links
  follows : Follows one two left.board.links right.board.links

reported-alike : (b : BoardState) (links : LinkSet) (told : Report) → Alike b.links links (reported b told) (reported (with_links b links) told)
reported-alike b links told = record { is = refl; follows = same-follows b.links links }

dispatched-alike : (one two : LinkSet) (b : BoardState) (links : LinkSet) (told : Report) → Follows one two b.links links →
    Alike one two (then_dispatched b told) (then_dispatched (with_links b links) told)
dispatched-alike one two b links told follows = record {
  is = refl;
  follows = follows-all one two b.links links (changed_processors b.kernel (dispatched b.kernel)) follows;
}

outcome-alike : (one two : LinkSet) (b : BoardState) (links : LinkSet) (cpu at : ℕ) (outcome : Outcome) → Follows one two b.links links →
    Alike one two (instruction_done b cpu at outcome) (instruction_done (with_links b links) cpu at outcome)
outcome-alike one two b links cpu at Done follows = record { is = refl; follows = follows }
outcome-alike one two b links cpu at Syscall follows =
    dispatched-alike one two (with_call b cpu) (without links cpu) (report.Called at) (follows-without one two b.links links cpu follows)
outcome-alike one two b links cpu at (Exception code epc bd) follows =
    dispatched-alike one two (with_fault b cpu (record { code = code; epc = epc; bd = bd })) links (report.Faulted at) follows

executes-alike : (b : BoardState) (links : LinkSet) (cpu : ℕ) (by : Option Executor) → AreSameOf cpu b.links links →
    Alike b.links links (executes_in b cpu (executed_in b.kernel cpu b.memory b.links by))
    (executes_in (with_links b links) cpu (executed_in b.kernel cpu b.memory links by))
executes-alike b links cpu None same = reported-alike b links report.Idle
executes-alike b links cpu (Some who) same =
    let s : State = context_of b.kernel cpu who in
    let left : Ran = ran cpu s b.memory b.links in
    let right : Ran = ran cpu s b.memory links in
    let alike = alike-ran cpu b.links links s b.memory same in
    subst (λ (it : Ran). Alike b.links links (executes_in b cpu (executed_in b.kernel cpu b.memory b.links (Some who)))
    (executes_in (with_links b links) cpu (Some (executed_by b.kernel cpu who s.pc it)))) (sym alike.is)
    (outcome-alike b.links links (with_executed b (executed_by b.kernel cpu who s.pc left)) right.links cpu s.pc left.outcome alike.follows)

accepts-alike : (b : BoardState) (links : LinkSet) (cpu : ℕ) (line : Option ℕ) → AreSameOf cpu b.links links →
    Alike b.links links (accepts_or_executes b cpu line) (accepts_or_executes (with_links b links) cpu line)
accepts-alike b links cpu None same = executes-alike b links cpu (executor_on b.kernel cpu) same
accepts-alike b links cpu (Some line) same =
    dispatched-alike b.links links (record b { kernel = accepted_line b.kernel cpu line; links = without b.links cpu }) (without links cpu)
    (report.Accepted line) (follows-without b.links links b.links links cpu (same-follows b.links links))

either-alike : (one two : LinkSet) (test : Bool) (left right first second : Happened) → Alike one two left right → Alike one two first second →
    Alike one two (if test then left else first) (if test then right else second)
either-alike one two true left right first second alike other = alike
either-alike one two false left right first second alike other = other

stepped-alike : (b : BoardState) (links : LinkSet) (cpu : ℕ) (found : Option Processor) → AreSameOf cpu b.links links →
    Alike b.links links (stepped_in b cpu found) (stepped_in (with_links b links) cpu found)
stepped-alike b links cpu None same = reported-alike b links report.NoSuch
stepped-alike b links cpu (Some p) same =
    either-alike b.links links p.stopped _ _ _ _ (reported-alike b links report.Stopped)
    (accepts-alike b links cpu (deliverable b.kernel cpu) same)

on-alike : (b : BoardState) (links : LinkSet) (event : Event) → ((cpu : ℕ) → event ≡ Step cpu → AreSameOf cpu b.links links) →
    Alike b.links links (happens_on b event) (happens_on (with_links b links) event)
on-alike b links (Step cpu) same = stepped-alike b links cpu (processor_at b.kernel cpu) (same cpu refl)
on-alike b links Tick same =
    either-alike b.links links (nat_lt b.kernel.time.count last_count) _ _ _ _
    (dispatched-alike b.links links (record b { kernel = ticked_on b.kernel (advanced b.kernel.time) }) links report.Ticked (same-follows b.links links))
    (reported-alike b links report.TimeOver)
on-alike b links (Raise line) same =
    either-alike b.links links (can_be_raised b.kernel line) _ _ _ _
    (reported-alike (record b { kernel = with_pending b.kernel line }) links report.Raised) (reported-alike b links report.NoSuch)

happens-alike : (b : BoardState) (links : LinkSet) (event : Event) → ((cpu : ℕ) → event ≡ Step cpu → AreSameOf cpu b.links links) →
    Alike b.links links (happens b event) (happens (with_links b links) event)
unfolding happens
happens-alike b links event same =
    either-alike b.links links b.kernel.off _ _ _ _ (reported-alike b links report.Off) (on-alike b links event same)

pub links-alike : (b : BoardState) (event : Event) (links : LinkSet) → ((cpu : ℕ) → event ≡ Step cpu → AreSameOf cpu b.links links) →
    (happens (with_links b links) event ≡ happened_linked (happens b event) (happens (with_links b links) event).board.links)
    × ((cpu : ℕ) → AreSameOf cpu b.links links →
    AreSameOf cpu (happens b event).board.links (happens (with_links b links) event).board.links)
links-alike b event links same = let it = happens-alike b links event same in (it.is, it.follows)
