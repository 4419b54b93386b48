-- An event leaves the bytes to which it doesn't store.
use Rattle.std.proofs.Common.{◌≡◌, ℕ, ◌+◌, ◌-◌, ◌≤◌, Bool, true, false, length, refl, sym, ap, subst, ◌∙◌, arith}
use Rattle.std.specs.Prelude.{if◌then◌else◌, nat_lt, slice_index, Option, None, Some}
use Rattle.std.proofs.lemmas.Bool.{false≢true}
use Rattle.std.proofs.lemmas.Bool.Decides.{nat_tests}
use Rattle.brd_base.specs.Space.{base}
use Rattle.brd_mem.specs.Memory.{Memory, size_of, contains, byte_from, byte_at}
use Rattle.brd_link.specs.LinkSet.{LinkSet}
use Rattle.brd_exec.specs.declared.outcome.{Outcome.Outcome, Stop.Stop}
use Rattle.brd_exec.specs.declared.outcome.Outcome.TheVariants.{Done, Syscall, Exception}
use Rattle.brd_exec.specs.State.{State}
use Rattle.brd_exec.specs.Step.{next_instruction, effect, Ran, ended, ran}
use Rattle.brd_time.specs.Time.{last_count}
use Rattle.brd_kernel.specs.declared.processor.Processor.{Processor}
use Rattle.brd_kernel.specs.declared.processor.Executor.{Executor}
use Rattle.brd_kernel.specs.Kernel.{processor_at, executor_on, context_of, deliverable, can_be_raised}
use Rattle.brd_board.specs.Executing.{executed_by, executed_in}
use Rattle.brd_board.specs.declared.event.Event.{Event}
use Rattle.brd_board.specs.declared.event.Event.TheVariants.{Step, Tick, Raise}
use Rattle.brd_board.specs.declared.event.Report.TheVariants as report
use Rattle.brd_board.specs.Board.{BoardState, Happened, reported, with_executed, instruction_done, executes_in, accepts_or_executes, stepped_in, happens_on, happens}
use Rattle.brd_frames.specs.Touching.{stores_next, stores, stored_in, is_stored, changed, put_at}
use Rattle.brd_frames.proofs.DeedLemmas.{get-bytes, Deed, Goes, Stops, applied, deed_next, deed-next-is}
use Rattle.brd_frames.proofs.FootprintLemmas.{with-bytes-is, DeedPuts, deed-next-puts, put-keeps, put-length, executing-is}

byte-by : (inside : Bool) (one two : ℕ) → (inside ≡ true → two ≡ one) → (if inside then Some two else None) ≡ (if inside then Some one else None)
byte-by true one two same = ap Some (same refl)
byte-by false one two same = refl

byte-same : (one two : Memory) (address : ℕ) → size_of two ≡ size_of one →
    (base ≤ address → slice_index two.bytes (address - base) ≡ slice_index one.bytes (address - base)) → byte_at two address ≡ byte_at one address
byte-same one two address size same =
    ap (λ n. if contains n address 1 then Some (byte_from two (address - base)) else None) size
    ∙ byte-by (contains (size_of one) address 1) (byte_from one (address - base)) (byte_from two (address - base)) (λ inside.
    let from : base ≤ address = grind (arith, nat_tests, inside) in
    let place : address - base + 0 ≡ address - base = omega arith in
    get-bytes two (address - base) 1 0 (omega arith) ∙ ap (slice_index two.bytes) place ∙ same from
    ∙ ap (slice_index one.bytes) (sym place) ∙ sym (get-bytes one (address - base) 1 0 (omega arith)))

deed-keeps : (stored : ℕ → Bool) (s : State) (memory : Memory) (it : Deed) (address : ℕ) → DeedPuts stored memory it → stored address ≡ false →
    byte_at (ended (applied memory it) s memory).memory address ≡ byte_at memory address
deed-keeps stored s memory (Goes after first bytes links) address puts none =
    let fits : first - base + length bytes ≤ size_of memory = omega (arith, puts.from, puts.to) in
    ap (λ it. byte_at it address) (with-bytes-is memory (first - base) bytes fits)
    ∙ byte-same memory (changed memory (put_at (first - base) bytes)) address (put-length (first - base) bytes memory.bytes)
    (λ above. put-keeps (first - base) (address - base) bytes memory.bytes (λ i below is.
    let there : address ≡ first + i = omega (arith, is, above, puts.from) in
    false≢true (sym none ∙ puts.at address (omega (arith, there)) (omega (arith, there, below)))))
deed-keeps stored s memory (Stops Stop.Call links) address puts none = refl
deed-keeps stored s memory (Stops (Stop.Raise code) links) address puts none = refl

ran-keeps : (cpu : ℕ) (s : State) (memory : Memory) (links : LinkSet) (address : ℕ) → stores s memory address ≡ false →
    byte_at (ran cpu s memory links).memory address ≡ byte_at memory address
unfolding ran effect stores
ran-keeps cpu s memory links address none =
    ap (λ how. byte_at (ended how s memory).memory address) (deed-next-is cpu s memory links (next_instruction s memory))
    ∙ deed-keeps (λ it. stores_next s it (next_instruction s memory)) s memory (deed_next cpu s memory links (next_instruction s memory)) address
    (deed-next-puts cpu s memory links (next_instruction s memory)) none

done-keeps : (b : BoardState) (cpu at : ℕ) (outcome : Outcome) (address : ℕ) →
    byte_at (instruction_done b cpu at outcome).board.memory address ≡ byte_at b.memory address
done-keeps b cpu at Done address = refl
done-keeps b cpu at Syscall address = refl
done-keeps b cpu at (Exception code epc bd) address = refl

executes-keeps : (b : BoardState) (cpu : ℕ) (by : Option Executor) (address : ℕ) →
    ((who : Executor) → by ≡ Some who → stores (context_of b.kernel cpu who) b.memory address ≡ false) →
    byte_at (executes_in b cpu (executed_in b.kernel cpu b.memory b.links by)).board.memory address ≡ byte_at b.memory address
executes-keeps b cpu None address none = refl
executes-keeps b cpu (Some who) address none =
    let s : State = context_of b.kernel cpu who in
    let left : Ran = ran cpu s b.memory b.links in
    done-keeps (with_executed b (executed_by b.kernel cpu who s.pc left)) cpu s.pc left.outcome address
    ∙ ran-keeps cpu s b.memory b.links address (none who refl)

either-keeps : (address : ℕ) (memory : Memory) (test : Bool) (one other : Happened) → byte_at one.board.memory address ≡ byte_at memory address →
    byte_at other.board.memory address ≡ byte_at memory address →
    byte_at (if test then one else other).board.memory address ≡ byte_at memory address
either-keeps address memory true one other first second = first
either-keeps address memory false one other first second = second

-- what is executed doesn't store there
abbrev StepKeeps : BoardState → ℕ → ℕ → Type 0
StepKeeps b cpu address =
    (who : Executor) → executor_on b.kernel cpu ≡ Some who → deliverable b.kernel cpu ≡ None →
    stores (context_of b.kernel cpu who) b.memory address ≡ false

accepts-keeps : (b : BoardState) (cpu : ℕ) (line : Option ℕ) (address : ℕ) → deliverable b.kernel cpu ≡ line → StepKeeps b cpu address →
    byte_at (accepts_or_executes b cpu line).board.memory address ≡ byte_at b.memory address
accepts-keeps b cpu None address is none = executes-keeps b cpu (executor_on b.kernel cpu) address (λ who on. none who on is)
accepts-keeps b cpu (Some line) address is none = refl

stepped-keeps : (b : BoardState) (cpu : ℕ) (found : Option Processor) (address : ℕ) → StepKeeps b cpu address →
    byte_at (stepped_in b cpu found).board.memory address ≡ byte_at b.memory address
stepped-keeps b cpu None address none = refl
stepped-keeps b cpu (Some p) address none =
    either-keeps address b.memory p.stopped _ _ refl (accepts-keeps b cpu (deliverable b.kernel cpu) address refl none)

on-keeps : (b : BoardState) (event : Event) (address : ℕ) → b.kernel.off ≡ false → is_stored b event address ≡ false →
    byte_at (happens_on b event).board.memory address ≡ byte_at b.memory address
on-keeps b (Step cpu) address on none =
    stepped-keeps b cpu (processor_at b.kernel cpu) address
    (λ who executes free. subst (λ by. stored_in by b.memory address ≡ false) (executing-is b cpu who on executes free) none)
on-keeps b Tick address on none = either-keeps address b.memory (nat_lt b.kernel.time.count last_count) _ _ refl refl
on-keeps b (Raise line) address on none = either-keeps address b.memory (can_be_raised b.kernel line) _ _ refl refl

off-keeps : (b : BoardState) (event : Event) (address : ℕ) (off : Bool) → b.kernel.off ≡ off → is_stored b event address ≡ false →
    byte_at (if off then reported b report.Off else happens_on b event).board.memory address ≡ byte_at b.memory address
off-keeps b event address true is none = refl
off-keeps b event address false is none = on-keeps b event address is none

pub stores-keep : (b : BoardState) (event : Event) (address : ℕ) → is_stored b event address ≡ false →
    byte_at (happens b event).board.memory address ≡ byte_at b.memory address
unfolding happens
stores-keep b event address none = off-keeps b event address b.kernel.off refl none

-- Where the byte at an address is the same, so is the byte at its place.
pub byte-place : (inside other : Bool) (one two : ℕ) → other ≡ inside → inside ≡ true →
    (if other then Some two else None) ≡ (if inside then Some one else None) → two ≡ one
byte-place true true one two is there same = cc
byte-place true false one two is there same = absurd (false≢true is)
byte-place false other one two is there same = absurd (false≢true there)
