-- Links: which a store ends, and that they stay a set.
use Rattle.std.proofs.Common.{◌≡◌, ℕ, zero, suc, ◌<◌, ◌≤◌, Bool, true, false, not, List, [], ◌∷◌, inl, inr, refl, sym, ap, subst, ◌∙◌, arith}
use Rattle.std.specs.Prelude.{◌==◌, ◌&&◌, ◌||◌, nat_le, nat_lt, if◌then◌else◌, Option, None, Some, Result, Ok, Err}
use Rattle.std.proofs.lemmas.Bool.{false≢true, ne_eqb, cases_lt}
use Rattle.std.proofs.lemmas.Bool.Decides.{nat_tests}
use Rattle.brd_isa.specs.declared.instruction.Insn.{Insn}
use Rattle.brd_mem.specs.declared.fault.Exc.{Exc}
use Rattle.brd_mem.specs.Memory.{Memory}
use Rattle.brd_mem.specs.Access.{loaded32, stored32}
use Rattle.brd_link.specs.LinkSet.{Link, LinkSet, AllFrom, IsLinkSet, is_linked, linked_address, is_same_block, without, without_all, after_store}
use Rattle.brd_link.proofs.LinkLemmas.{is_linked-linked_address, AllFrom-filter, AllFrom-without_all, AllFrom-with_link}
use Rattle.brd_exec.specs.declared.outcome.{ExceptionCode.ExceptionCode, Outcome.Outcome, Stop.Stop}
use Rattle.brd_exec.specs.declared.outcome.Outcome.TheVariants.{Done, Syscall, Exception}
use Rattle.brd_exec.specs.State.{State, read}
use Rattle.brd_exec.specs.Action.{Action, with_word, action}
use Rattle.brd_exec.specs.Step.{Effect, unless_stopped, with_code, load_gives, store_gives, stores as storing_to, loads_linked, stores_if_linked, done, of_next, next_instruction, effect, Ran, ended, ran}
use Rattle.brd_time.specs.Time.{last_count, advanced}
use Rattle.brd_kernel.specs.declared.processor.Processor.{Processor}
use Rattle.brd_kernel.specs.declared.processor.Executor.{Executor}
use Rattle.brd_kernel.specs.Kernel.{processor_at, executor_on, context_of, deliverable, accepted_line, with_pending, can_be_raised}
use Rattle.brd_kernel.specs.Waits.{ticked_on}
use Rattle.brd_kernel.specs.Dispatch.{dispatched, changed_processors}
use Rattle.brd_board.specs.Executing.{executed_by, executed_in}
use Rattle.brd_board.specs.declared.event.Event.{Event}
use Rattle.brd_board.specs.declared.event.Event.TheVariants.{Step, Tick, Raise}
use Rattle.brd_board.specs.declared.event.Report.TheVariants as report
use Rattle.brd_board.specs.Board.{BoardState, linked_word_of, reported, dispatched_board, then_dispatched, with_executed, with_call, with_fault, instruction_done, executes_in, accepts_or_executes, stepped_in, happens_on, happens}
use Rattle.brd_frames.specs.Commuting.{IsUnlinked}
use Rattle.brd_blocks.specs.Looking.{is_into, link_is_into, links_into}

or-left-false : (x y : Bool) → (x || y) ≡ false → x ≡ false
or-left-false true y is = is
or-left-false false y is = refl

or-right-false : (x y : Bool) → (x || y) ≡ false → y ≡ false
or-right-false true y is = absurd (false≢true (sym is))
or-right-false false y is = is

-- a test that is false of each of the processors 1 to 8
each-processor : (test : ℕ → Bool) (n : ℕ) → test 1 ≡ false → test 2 ≡ false → test 3 ≡ false → test 4 ≡ false → test 5 ≡ false →
    test 6 ≡ false → test 7 ≡ false → test 8 ≡ false → 1 ≤ n → n ≤ 8 → test n ≡ false
each-processor test zero a b c d e f g h low high = absurd (omega (arith, low))
each-processor test (suc zero) a b c d e f g h low high = a
each-processor test (suc (suc zero)) a b c d e f g h low high = b
each-processor test (suc (suc (suc zero))) a b c d e f g h low high = c
each-processor test (suc (suc (suc (suc zero)))) a b c d e f g h low high = d
each-processor test (suc (suc (suc (suc (suc zero))))) a b c d e f g h low high = e
each-processor test (suc (suc (suc (suc (suc (suc zero)))))) a b c d e f g h low high = f
each-processor test (suc (suc (suc (suc (suc (suc (suc zero))))))) a b c d e f g h low high = g
each-processor test (suc (suc (suc (suc (suc (suc (suc (suc zero)))))))) a b c d e f g h low high = h
each-processor test (suc (suc (suc (suc (suc (suc (suc (suc (suc n))))))))) a b c d e f g h low high = absurd (omega (arith, high))

none-into : (b : BoardState) (cpu address other : ℕ) → links_into b cpu address ≡ false → 1 ≤ other → other ≤ 8 →
    link_is_into b cpu other address ≡ false
none-into b cpu address other none low high =
    let test : ℕ → Bool = λ n. link_is_into b cpu n address in
    let two : Bool = test 1 || test 2 in
    let three : Bool = two || test 3 in
    let four : Bool = three || test 4 in
    let five : Bool = four || test 5 in
    let six : Bool = five || test 6 in
    let seven : Bool = six || test 7 in
    let at7 : seven ≡ false = or-left-false seven (test 8) none in
    let at6 : six ≡ false = or-left-false six (test 7) at7 in
    let at5 : five ≡ false = or-left-false five (test 6) at6 in
    let at4 : four ≡ false = or-left-false four (test 5) at5 in
    let at3 : three ≡ false = or-left-false three (test 4) at4 in
    let at2 : two ≡ false = or-left-false two (test 3) at3 in
    each-processor test other (or-left-false (test 1) (test 2) at2) (or-right-false (test 1) (test 2) at2) (or-right-false two (test 3) at3)
    (or-right-false three (test 4) at4) (or-right-false four (test 5) at5) (or-right-false five (test 6) at6) (or-right-false six (test 7) at7)
    (or-right-false seven (test 8) none) low high

-- In a set of links there are pairs of the processors 1 to 8 alone.

low-unlinked : (links : List Link) (first q a : ℕ) → AllFrom first links → q < first → is_linked links q a ≡ false
low-unlinked [] first q a all below = refl
low-unlinked (link ∷ links) first q a all below =
    grind (arith, nat_tests, all.0, below, low-unlinked links (suc link.processor) q a all.2 (omega (arith, all.0, below)))

high-unlinked : (links : List Link) (first q a : ℕ) → AllFrom first links → 8 < q → is_linked links q a ≡ false
high-unlinked [] first q a all above = refl
high-unlinked (link ∷ links) first q a all above =
    grind (arith, nat_tests, all.1, above, high-unlinked links (suc link.processor) q a all.2 above)

in-range : (within : Bool) (address : Option ℕ) → within ≡ true → (if within then address else None) ≡ address
in-range true address is = refl
in-range false address is = absurd (false≢true is)

word-told : (b : BoardState) (other : ℕ) → 1 ≤ other → other ≤ 8 → linked_word_of b other ≡ linked_address b.links other
word-told b other low high =
    in-range (nat_le 1 other && nat_le other 8) (linked_address b.links other) (grind (arith, nat_tests, low, high))

another : (cpu other : ℕ) → (other ≡ cpu → ⊥) → not (other == cpu) ≡ true
another cpu other apart = ap not (ne_eqb other cpu apart)

into : (test : Bool) (word address : ℕ) (at : Option ℕ) → at ≡ Some word → test ≡ true → is_same_block word address ≡ true →
    is_into test at address ≡ false → ⊥
into test word address at is apart same none =
    false≢true (sym none ∙ ap (λ (x : Option ℕ). is_into test x address) is ∙ ap (λ x. x && is_same_block word address) apart ∙ same)

linked-into : (b : BoardState) (cpu address other word : ℕ) → IsLinkSet b.links → 1 ≤ other → other ≤ 8 → (other ≡ cpu → ⊥) →
    is_same_block word address ≡ true → link_is_into b cpu other address ≡ false → is_linked b.links other word ≡ true → ⊥
linked-into b cpu address other word set low high apart same none linked =
    into (not (other == cpu)) word address (linked_word_of b other)
    (word-told b other low high ∙ (is_linked-linked_address b.links 1 other word set).0 linked)
    (another cpu other apart) same none

unlinked-by : (x : Bool) → (x ≡ true → ⊥) → x ≡ false
unlinked-by true never = absurd (never refl)
unlinked-by false never = refl

-- where no other link is into the block of an address, none is
pub spared : (b : BoardState) (cpu address : ℕ) → IsLinkSet b.links → links_into b cpu address ≡ false → IsUnlinked b.links cpu address
spared b cpu address set none other word apart same =
    elim (cases_lt other 1) [
      | inl below ↦ low-unlinked b.links 1 other word set below
      | inr low ↦ elim (cases_lt 8 other) [
        | inl above ↦ high-unlinked b.links 1 other word set above
        | inr high ↦
            unlinked-by (is_linked b.links other word)
            (linked-into b cpu address other word set low high apart same (none-into b cpu address other none low high))
      ]
    ]

-- Links that are a set stay one.

abbrev links_in : Effect → LinkSet
links_in (Effect.Goes after stored links) = links
links_in (Effect.Stops stop links) = links

ended-links : (how : Effect) (s : State) (memory : Memory) → (ended how s memory).links ≡ links_in how
ended-links (Effect.Goes after stored links) s memory = refl
ended-links (Effect.Stops Stop.Call links) s memory = refl
ended-links (Effect.Stops (Stop.Raise code) links) s memory = refl

unless-set : (memory : Memory) (links : LinkSet) (outcome : Result State Stop) → IsLinkSet links → IsLinkSet (links_in (unless_stopped memory links outcome))
unless-set memory links (Ok after) set = set
unless-set memory links (Err stop) set = set

after-set : (links : LinkSet) (cpu address : ℕ) → IsLinkSet links → IsLinkSet (after_store links cpu address)
after-set links cpu address set =
    AllFrom-filter (λ (link : Link). link.processor == cpu || not (is_same_block link.address address)) links 1 set

without-set : (links : LinkSet) (cpu : ℕ) → IsLinkSet links → IsLinkSet (without links cpu)
without-set links cpu set = AllFrom-filter (λ (link : Link). not (link.processor == cpu)) links 1 set

stores-set : (cpu : ℕ) (s : State) (links : LinkSet) (address : ℕ) (given : Result Memory Exc) → IsLinkSet links →
    IsLinkSet (links_in (storing_to cpu s links address given))
stores-set cpu s links address (Ok stored) set = after-set links cpu address set
stores-set cpu s links address (Err exc) set = set

linked-set : (cpu : ℕ) (s : State) (memory : Memory) (links : LinkSet) (rt address : ℕ) (given : Result ℕ Exc) → 1 ≤ cpu → cpu ≤ 8 →
    IsLinkSet links → IsLinkSet (links_in (loads_linked cpu s memory links rt address given))
linked-set cpu s memory links rt address (Ok word) low high set = AllFrom-with_link links 1 cpu address low high set
linked-set cpu s memory links rt address (Err exc) low high set = set

if-set : (cpu : ℕ) (s : State) (memory : Memory) (links : LinkSet) (rt address : ℕ) (linked : Bool) (given : Result Memory Exc) →
    IsLinkSet links → IsLinkSet (links_in (stores_if_linked cpu s memory links rt address linked given))
if-set cpu s memory links rt address true (Ok stored) set = after-set (without links cpu) cpu address (without-set links cpu set)
if-set cpu s memory links rt address false (Ok stored) set = without-set links cpu set
if-set cpu s memory links rt address linked (Err exc) set = without-set links cpu set

done-set : (cpu : ℕ) (s : State) (memory : Memory) (links : LinkSet) (act : Action) → 1 ≤ cpu → cpu ≤ 8 → IsLinkSet links →
    IsLinkSet (links_in (done cpu s memory links act))
done-set cpu s memory links (Action.Local after) low high set = set
done-set cpu s memory links (Action.MayStop outcome) low high set = unless-set memory links outcome set
done-set cpu s memory links (Action.Loads op rt address) low high set =
    unless-set memory links (with_word s rt (with_code (load_gives op memory address (read s rt)))) set
done-set cpu s memory links (Action.Stores op rt address) low high set =
    stores-set cpu s links address (store_gives op memory address (read s rt)) set
done-set cpu s memory links (Action.LoadsLinked rt address) low high set =
    linked-set cpu s memory links rt address (loaded32 memory address) low high set
done-set cpu s memory links (Action.StoresIfLinked rt address) low high set =
    if-set cpu s memory links rt address (is_linked links cpu address) (stored32 memory address (read s rt)) set

next-set : (cpu : ℕ) (s : State) (memory : Memory) (links : LinkSet) (next : Result Insn ExceptionCode) → 1 ≤ cpu → cpu ≤ 8 →
    IsLinkSet links → IsLinkSet (links_in (of_next cpu s memory links next))
next-set cpu s memory links (Ok insn) low high set = done-set cpu s memory links (action insn s) low high set
next-set cpu s memory links (Err code) low high set = set

ran-set : (cpu : ℕ) (s : State) (memory : Memory) (links : LinkSet) → 1 ≤ cpu → cpu ≤ 8 → IsLinkSet links →
    IsLinkSet (ran cpu s memory links).links
unfolding ran effect
ran-set cpu s memory links low high set =
    subst IsLinkSet (sym (ended-links (of_next cpu s memory links (next_instruction s memory)) s memory))
    (next-set cpu s memory links (next_instruction s memory) low high set)

all-set : (links : LinkSet) (cpus : List ℕ) → IsLinkSet links → IsLinkSet (without_all links cpus)
all-set links cpus set = AllFrom-without_all links cpus 1 set

dispatched-set : (b : BoardState) → IsLinkSet b.links → IsLinkSet (dispatched_board b).links
dispatched-set b set = all-set b.links (changed_processors b.kernel (dispatched b.kernel)) set

outcome-set : (b : BoardState) (cpu address : ℕ) (outcome : Outcome) → IsLinkSet b.links → IsLinkSet (instruction_done b cpu address outcome).board.links
outcome-set b cpu address Done set = set
outcome-set b cpu address Syscall set = dispatched-set (with_call b cpu) (without-set b.links cpu set)
outcome-set b cpu address (Exception code epc bd) set =
    dispatched-set (with_fault b cpu (record { code = code; epc = epc; bd = bd })) set

executes-set : (b : BoardState) (cpu : ℕ) (by : Option Executor) → 1 ≤ cpu → cpu ≤ 8 → IsLinkSet b.links →
    IsLinkSet (executes_in b cpu (executed_in b.kernel cpu b.memory b.links by)).board.links
executes-set b cpu None low high set = set
executes-set b cpu (Some who) low high set =
    let s : State = context_of b.kernel cpu who in
    let left : Ran = ran cpu s b.memory b.links in
    outcome-set (with_executed b (executed_by b.kernel cpu who s.pc left)) cpu s.pc left.outcome (ran-set cpu s b.memory b.links low high set)

accepts-set : (b : BoardState) (cpu : ℕ) (line : Option ℕ) → 1 ≤ cpu → cpu ≤ 8 → IsLinkSet b.links →
    IsLinkSet (accepts_or_executes b cpu line).board.links
accepts-set b cpu None low high set = executes-set b cpu (executor_on b.kernel cpu) low high set
accepts-set b cpu (Some line) low high set =
    dispatched-set (record b { kernel = accepted_line b.kernel cpu line; links = without b.links cpu }) (without-set b.links cpu set)

stopped-set : (b : BoardState) (cpu : ℕ) (stopped : Bool) → 1 ≤ cpu → cpu ≤ 8 → IsLinkSet b.links →
    IsLinkSet (if stopped then reported b report.Stopped else accepts_or_executes b cpu (deliverable b.kernel cpu)).board.links
stopped-set b cpu true low high set = set
stopped-set b cpu false low high set = accepts-set b cpu (deliverable b.kernel cpu) low high set

stepped-set : (b : BoardState) (cpu : ℕ) (found : Option Processor) → 1 ≤ cpu → cpu ≤ 8 → IsLinkSet b.links →
    IsLinkSet (stepped_in b cpu found).board.links
stepped-set b cpu None low high set = set
stepped-set b cpu (Some p) low high set = stopped-set b cpu p.stopped low high set

ticked-set : (b : BoardState) (more : Bool) → IsLinkSet b.links →
    IsLinkSet (if more then then_dispatched (record b { kernel = ticked_on b.kernel (advanced b.kernel.time) }) report.Ticked
    else reported b report.TimeOver).board.links
ticked-set b true set = dispatched-set (record b { kernel = ticked_on b.kernel (advanced b.kernel.time) }) set
ticked-set b false set = set

raised-set : (b : BoardState) (line : ℕ) (handled : Bool) → IsLinkSet b.links →
    IsLinkSet (if handled then reported (record b { kernel = with_pending b.kernel line }) report.Raised
    else reported b report.NoSuch).board.links
raised-set b line true set = set
raised-set b line false set = set

on-set : (b : BoardState) (event : Event) → ((cpu : ℕ) → event ≡ Step cpu → (1 ≤ cpu) × (cpu ≤ 8)) → IsLinkSet b.links →
    IsLinkSet (happens_on b event).board.links
on-set b (Step cpu) within set =
    let range = within cpu refl in stepped-set b cpu (processor_at b.kernel cpu) range.0 range.1 set
on-set b Tick within set = ticked-set b (nat_lt b.kernel.time.count last_count) set
on-set b (Raise line) within set = raised-set b line (can_be_raised b.kernel line) set

off-set : (b : BoardState) (event : Event) (off : Bool) → ((cpu : ℕ) → event ≡ Step cpu → (1 ≤ cpu) × (cpu ≤ 8)) → IsLinkSet b.links →
    IsLinkSet (if off then reported b report.Off else happens_on b event).board.links
off-set b event true within set = set
off-set b event false within set = on-set b event within set

pub stays-set : (b : BoardState) (event : Event) → ((cpu : ℕ) → event ≡ Step cpu → (1 ≤ cpu) × (cpu ≤ 8)) → IsLinkSet b.links →
    IsLinkSet (happens b event).board.links
unfolding happens
stays-set b event within set = off-set b event b.kernel.off within set
