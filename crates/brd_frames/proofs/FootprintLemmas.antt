-- An event does the same after a change of RAM that is clear of what it touches.
use Rattle.std.proofs.Common.{◌≡◌, ℕ, ◌+◌, ◌-◌, ◌<◌, ◌≤◌, Bool, true, false, List, [], ◌∷◌, ◌++◌, length, take, drop, refl, sym, ap, subst, ◌∙◌, arith, append_assoc}
use Rattle.std.specs.Prelude.{suc, nat_lt, ◌||◌, if◌then◌else◌, slice_index, slice_set, Option, None, Some, is_some, Result, Ok, Err}
use Rattle.std.specs.Option.{option_map}
use Rattle.std.proofs.lemmas.Bool.{false≢true}
use Rattle.std.proofs.lemmas.List.{append-nil, take-append-drop, set-append_left, set_split, take-take, drop_all, length-take-le, get_or-set_other, set_comm, length-set}
use Rattle.brd_base.specs.Space.{base}
use Rattle.brd_isa.specs.declared.instruction.{Insn.Insn, StoreOp.StoreOp}
use Rattle.brd_mem.specs.declared.fault.Exc.{Exc}
use Rattle.brd_mem.specs.Memory.{Memory, size_of, with_bytes}
use Rattle.brd_mem.specs.Access.{loaded32}
use Rattle.brd_link.specs.LinkSet.{LinkSet, is_linked}
use Rattle.brd_exec.specs.declared.outcome.{ExceptionCode.ExceptionCode, Outcome.Outcome, Stop.Stop}
use Rattle.brd_exec.specs.declared.outcome.Outcome.TheVariants.{Done, Syscall, Exception}
use Rattle.brd_exec.specs.State.{State, read}
use Rattle.brd_exec.specs.Action.{Action, with_word, action}
use Rattle.brd_exec.specs.Step.{Effect, with_code, load_gives, next_instruction, of_next, effect, Ran, ended, ran}
use Rattle.brd_time.specs.Time.{last_count}
use Rattle.brd_kernel.specs.declared.processor.Processor.{Processor}
use Rattle.brd_kernel.specs.declared.processor.Executor.{Executor}
use Rattle.brd_kernel.specs.Kernel.{processor_at, executor_on, context_of, context_on, deliverable, can_be_raised}
use Rattle.brd_board.specs.Executing.{executed_by, executed_in}
use Rattle.brd_board.specs.declared.event.Event.{Event}
use Rattle.brd_board.specs.declared.event.Event.TheVariants.{Step, Tick, Raise}
use Rattle.brd_board.specs.declared.event.Report.TheVariants as report
use Rattle.brd_board.specs.Board.{BoardState, Happened, reported, with_executed, instruction_done, executes_in, accepts_or_executes, stepped_in, happens_on, happens, after}
use Rattle.brd_frames.specs.Touching.{is_among, stores_at, accesses, accesses_next, touches, stores_by, stores_next, stores, Agree, executing, touched_in, is_touched, Change, changed, with_change, happened_changed, LeavesAlone, IsClearOf, AreClear, put_at}
use Rattle.brd_frames.proofs.DeedLemmas.{Lies, puts, puts-lie, first_stored, Deed, Goes, Stops, applied, deed_next, deed-next-is, deed-next-same, next-same, accesses-same, quiet, storing, linking, storing_if, deed, or-right, among}

-- Bytes that are put.

put-first : (xs : List ℕ) (at byte : ℕ) → at < length xs → slice_set (take (at + 1) xs) at byte ≡ take at xs ++ byte ∷ []
put-first xs at byte below =
    let long : length (take (at + 1) xs) ≡ at + 1 = length-take-le (at + 1) xs (omega (arith, below)) in
    set_split (take (at + 1) xs) at byte (omega (arith, long))
    ∙ ap (λ front. front ++ byte ∷ drop (suc at) (take (at + 1) xs)) (take-take at (at + 1) xs (omega arith))
    ∙ ap (λ rest. take at xs ++ byte ∷ rest) (drop_all (suc at) (take (at + 1) xs) (omega (arith, long)))

-- the bytes in the place of those that were there
pub put-is : (xs : List ℕ) (at : ℕ) (bytes : List ℕ) → at + length bytes ≤ length xs →
    take at xs ++ bytes ++ drop (at + length bytes) xs ≡ put_at at bytes xs
put-is xs at [] fits =
    ap (λ front. front ++ drop (at + 0) xs) (append-nil (take at xs))
    ∙ ap (λ n. take at xs ++ drop n xs) (omega arith)
    ∙ take-append-drop at xs
put-is xs at (byte ∷ bytes) fits =
    let rest : List ℕ = drop (at + 1 + length bytes) xs in
    let long : length (take (at + 1) xs) ≡ at + 1 = length-take-le (at + 1) xs (omega (arith, fits)) in
    ap (λ n. take at xs ++ byte ∷ bytes ++ drop n xs) (omega arith)
    ∙ append_assoc (take at xs) (byte ∷ bytes) rest
    ∙ sym (append_assoc (take at xs) (byte ∷ []) (bytes ++ rest))
    ∙ ap (λ front. front ++ (bytes ++ rest)) (sym (put-first xs at byte (omega (arith, fits))))
    ∙ sym (set-append_left (take (at + 1) xs) (bytes ++ rest) at byte (omega (arith, long)))
    ∙ ap (λ all. slice_set all at byte) (sym (append_assoc (take (at + 1) xs) bytes rest))
    ∙ ap (λ all. slice_set all at byte) (put-is xs (at + 1) bytes (omega (arith, fits)))

-- a change that leaves the places alone may as well come first
pub put-change : (change : Change) (at : ℕ) (bytes xs : List ℕ) → ((i : ℕ) → i < length bytes → LeavesAlone change (at + i)) →
    change (put_at at bytes xs) ≡ put_at at bytes (change xs)
put-change change at [] xs alone = refl
put-change change at (byte ∷ bytes) xs alone =
    (subst (λ n. LeavesAlone change n) (omega arith) (alone 0 (omega arith))).ignores (put_at (at + 1) bytes xs) byte
    ∙ ap (λ ys. slice_set ys at byte)
    (put-change change (at + 1) bytes xs (λ i below.
    subst (λ n. LeavesAlone change n) (omega arith) (alone (i + 1) (omega (arith, below)))))

pub with-bytes-is : (memory : Memory) (at : ℕ) (bytes : List ℕ) → at + length bytes ≤ size_of memory →
    with_bytes memory at bytes ≡ changed memory (put_at at bytes)
with-bytes-is memory at bytes fits = ap (λ xs. record memory { bytes = xs }) (put-is memory.bytes at bytes fits)

-- where an instruction puts bytes: in RAM, and at addresses that it touches
pub record PutsAt (touched : ℕ → Bool) (memory : Memory) (first : ℕ) (bytes : List ℕ) : Type 0 where
  pub from : base ≤ first
  pub to : first + length bytes ≤ base + size_of memory
  pub at : (address : ℕ) → first ≤ address → address < first + length bytes → touched address ≡ true

with-bytes-change : (change : Change) (touched : ℕ → Bool) (memory : Memory) (first : ℕ) (bytes : List ℕ) → IsClearOf change touched →
    PutsAt touched memory first bytes →
    with_bytes (changed memory change) (first - base) bytes ≡ changed (with_bytes memory (first - base) bytes) change
with-bytes-change change touched memory first bytes clear puts =
    let fits : first - base + length bytes ≤ size_of memory = omega (arith, puts.from, puts.to) in
    let other : first - base + length bytes ≤ length (change memory.bytes) = omega (arith, fits, clear.size memory.bytes) in
    with-bytes-is (changed memory change) (first - base) bytes other
    ∙ ap (λ xs. record memory { bytes = xs })
    (sym (put-change change (first - base) bytes memory.bytes (λ i below.
    let place : first + i - base ≡ first - base + i = omega (arith, puts.from) in
    subst (λ n. LeavesAlone change n) place
    (clear.alone (first + i) (omega (arith, puts.from)) (puts.at (first + i) (omega arith) (omega (arith, below)))))))
    ∙ ap (λ it. changed it change) (sym (with-bytes-is memory (first - base) bytes fits))

-- Deeds.

abbrev pub DeedPuts : (ℕ → Bool) → Memory → Deed → Type 0
DeedPuts touched memory (Goes after first bytes links) = PutsAt touched memory first bytes
DeedPuts touched memory (Stops stop links) = Unit {0}

pub puts-none : (touched : ℕ → Bool) (memory : Memory) → PutsAt touched memory base []
puts-none touched memory = record {
  from = omega arith;
  to = omega arith;
  at = λ address from below. absurd (omega (arith, from, below));
}

pub puts-lies : (memory : Memory) (first : ℕ) (bytes : List ℕ) (stored : ℕ → Bool) → Lies memory first bytes stored → PutsAt stored memory first bytes
puts-lies memory first bytes stored lies = record { from = lies.from; to = lies.to; at = lies.at }

quiet-puts : (touched : ℕ → Bool) (memory : Memory) (links : LinkSet) (outcome : Result State Stop) → DeedPuts touched memory (quiet links outcome)
quiet-puts touched memory links (Ok after) = puts-none touched memory
quiet-puts touched memory links (Err stop) = tt

storing-puts : (op : StoreOp) (cpu : ℕ) (s : State) (memory : Memory) (links : LinkSet) (address word : ℕ) (given : Result (List ℕ) Exc) →
    puts op memory address word ≡ given →
    DeedPuts (stores_at op address) memory (storing cpu s links (first_stored op address) address given)
storing-puts op cpu s memory links address word (Ok bytes) is =
    puts-lies memory (first_stored op address) bytes (stores_at op address) (puts-lie op memory address word bytes is)
storing-puts op cpu s memory links address word (Err exc) is = tt

linking-puts : (touched : ℕ → Bool) (cpu : ℕ) (s : State) (memory : Memory) (links : LinkSet) (rt address : ℕ) (word : Result ℕ Exc) →
    DeedPuts touched memory (linking cpu s links rt address word)
linking-puts touched cpu s memory links rt address (Ok word) = puts-none touched memory
linking-puts touched cpu s memory links rt address (Err exc) = tt

storing-if-puts : (cpu : ℕ) (s : State) (memory : Memory) (links : LinkSet) (rt address word : ℕ) (linked : Bool) (given : Result (List ℕ) Exc) →
    puts StoreOp.Sw memory address word ≡ given →
    DeedPuts (is_among address 4) memory (storing_if cpu s links rt address linked given)
storing-if-puts cpu s memory links rt address word true (Ok bytes) is =
    puts-lies memory address bytes (is_among address 4) (puts-lie StoreOp.Sw memory address word bytes is)
storing-if-puts cpu s memory links rt address word false (Ok bytes) is = puts-none (is_among address 4) memory
storing-if-puts cpu s memory links rt address word linked (Err exc) is = tt

deed-puts : (cpu : ℕ) (s : State) (memory : Memory) (links : LinkSet) (act : Action) →
    DeedPuts (stores_by act) memory (deed cpu s memory links act)
deed-puts cpu s memory links (Action.Local after) = puts-none (λ address. false) memory
deed-puts cpu s memory links (Action.MayStop outcome) = quiet-puts (λ address. false) memory links outcome
deed-puts cpu s memory links (Action.Loads op rt address) =
    quiet-puts (λ address. false) memory links (with_word s rt (with_code (load_gives op memory address (read s rt))))
deed-puts cpu s memory links (Action.Stores op rt address) =
    storing-puts op cpu s memory links address (read s rt) (puts op memory address (read s rt)) refl
deed-puts cpu s memory links (Action.LoadsLinked rt address) =
    linking-puts (λ address. false) cpu s memory links rt address (loaded32 memory address)
deed-puts cpu s memory links (Action.StoresIfLinked rt address) =
    storing-if-puts cpu s memory links rt address (read s rt) (is_linked links cpu address) (puts StoreOp.Sw memory address (read s rt)) refl

pub deed-next-puts : (cpu : ℕ) (s : State) (memory : Memory) (links : LinkSet) (next : Result Insn ExceptionCode) →
    DeedPuts (λ address. stores_next s address next) memory (deed_next cpu s memory links next)
deed-next-puts cpu s memory links (Ok insn) = deed-puts cpu s memory links (action insn s)
deed-next-puts cpu s memory links (Err code) = tt

clear-less : (change : Change) (more less : ℕ → Bool) → ((address : ℕ) → less address ≡ true → more address ≡ true) → IsClearOf change more →
    IsClearOf change less
clear-less change more less within clear =
    record { size = clear.size; alone = λ address from is. clear.alone address from (within address is) }

-- what is stored to is accessed
stores-accesses : (act : Action) (address : ℕ) → stores_by act address ≡ true → accesses act address ≡ true
stores-accesses (Action.Local after) address is = is
stores-accesses (Action.MayStop outcome) address is = is
stores-accesses (Action.Loads op rt at) address is = absurd (false≢true is)
stores-accesses (Action.Stores op rt at) address is = is
stores-accesses (Action.LoadsLinked rt at) address is = absurd (false≢true is)
stores-accesses (Action.StoresIfLinked rt at) address is = is

stores-accesses-next : (s : State) (address : ℕ) (next : Result Insn ExceptionCode) → stores_next s address next ≡ true →
    accesses_next s address next ≡ true
stores-accesses-next s address (Ok insn) is = stores-accesses (action insn s) address is
stores-accesses-next s address (Err code) is = is

pub stores-touches : (s : State) (memory : Memory) (address : ℕ) → stores s memory address ≡ true → touches s memory address ≡ true
unfolding stores touches
stores-touches s memory address is = or-right (is_among s.pc 4 address) _ (stores-accesses-next s address (next_instruction s memory) is)

clear-stores : (change : Change) (s : State) (memory : Memory) → IsClearOf change (touches s memory) →
    IsClearOf change (λ address. stores_next s address (next_instruction s memory))
unfolding touches
clear-stores change s memory clear =
    clear-less change _ _ (λ address is. or-right (is_among s.pc 4 address) _ (stores-accesses-next s address (next_instruction s memory) is)) clear

-- One instruction.

abbrev e-changed : Change → Effect → Effect
e-changed change (Effect.Goes after stored links) = Effect.Goes after (changed stored change) links
e-changed change (Effect.Stops stop links) = Effect.Stops stop links

applied-changed : (change : Change) (touched : ℕ → Bool) (memory : Memory) (it : Deed) → IsClearOf change touched → DeedPuts touched memory it →
    applied (changed memory change) it ≡ e-changed change (applied memory it)
applied-changed change touched memory (Goes after first bytes links) clear puts =
    ap (λ stored. Effect.Goes after stored links) (with-bytes-change change touched memory first bytes clear puts)
applied-changed change touched memory (Stops stop links) clear puts = refl

pub agree-changed : (change : Change) (touched : ℕ → Bool) (memory : Memory) → IsClearOf change touched → Agree touched memory (changed memory change)
agree-changed change touched memory clear = record {
  order = refl;
  size = clear.size memory.bytes;
  bytes = λ address from is. (clear.alone address from is).keeps memory.bytes;
}

effect-changed : (change : Change) (cpu : ℕ) (s : State) (memory : Memory) (links : LinkSet) → IsClearOf change (touches s memory) →
    effect cpu s (changed memory change) links ≡ e-changed change (effect cpu s memory links)
unfolding effect
effect-changed change cpu s memory links clear =
    let agree = agree-changed change (touches s memory) memory clear in
    let next : Result Insn ExceptionCode = next_instruction s memory in
    ap (of_next cpu s (changed memory change) links) (next-same s memory (changed memory change) agree)
    ∙ deed-next-is cpu s (changed memory change) links next
    ∙ ap (applied (changed memory change))
    (deed-next-same cpu s memory (changed memory change) links next (accesses-same s memory (changed memory change) agree))
    ∙ applied-changed change (λ address. stores_next s address next) memory (deed_next cpu s memory links next)
    (clear-stores change s memory clear) (deed-next-puts cpu s memory links next)
    ∙ ap (e-changed change) (sym (deed-next-is cpu s memory links next))

abbrev r-changed : Change → Ran → Ran
r-changed change left = record left { memory = changed left.memory change }

ended-changed : (change : Change) (how : Effect) (s : State) (memory : Memory) →
    ended (e-changed change how) s (changed memory change) ≡ r-changed change (ended how s memory)
ended-changed change (Effect.Goes after stored links) s memory = refl
ended-changed change (Effect.Stops Stop.Call links) s memory = refl
ended-changed change (Effect.Stops (Stop.Raise code) links) s memory = refl

ran-changed : (change : Change) (cpu : ℕ) (s : State) (memory : Memory) (links : LinkSet) → IsClearOf change (touches s memory) →
    ran cpu s (changed memory change) links ≡ r-changed change (ran cpu s memory links)
unfolding ran
ran-changed change cpu s memory links clear =
    ap (λ how. ended how s (changed memory change)) (effect-changed change cpu s memory links clear)
    ∙ ended-changed change (effect cpu s memory links) s memory

-- Events.

-- a change is clear of what a processor executes, if it executes
abbrev StepClear : Change → BoardState → ℕ → Type 0
StepClear change b cpu =
    (who : Executor) → executor_on b.kernel cpu ≡ Some who → deliverable b.kernel cpu ≡ None →
    IsClearOf change (touches (context_of b.kernel cpu who) b.memory)

done-changed : (change : Change) (b : BoardState) (cpu address : ℕ) (outcome : Outcome) →
    instruction_done (with_change b change) cpu address outcome ≡ happened_changed (instruction_done b cpu address outcome) change
done-changed change b cpu address Done = refl
done-changed change b cpu address Syscall = refl
done-changed change b cpu address (Exception code epc bd) = refl

executes-changed : (change : Change) (b : BoardState) (cpu : ℕ) (by : Option Executor) → StepClear change b cpu → executor_on b.kernel cpu ≡ by →
    deliverable b.kernel cpu ≡ None →
    executes_in (with_change b change) cpu (executed_in b.kernel cpu (changed b.memory change) b.links by)
    ≡ happened_changed (executes_in b cpu (executed_in b.kernel cpu b.memory b.links by)) change
executes-changed change b cpu None clear on none = refl
executes-changed change b cpu (Some who) clear on none =
    let s : State = context_of b.kernel cpu who in
    let left : Ran = ran cpu s b.memory b.links in
    ap (λ left. executes_in (with_change b change) cpu (Some (executed_by b.kernel cpu who s.pc left)))
    (ran-changed change cpu s b.memory b.links (clear who on none))
    ∙ done-changed change (with_executed b (executed_by b.kernel cpu who s.pc left)) cpu s.pc left.outcome

accepts-changed : (change : Change) (b : BoardState) (cpu : ℕ) (line : Option ℕ) → StepClear change b cpu → deliverable b.kernel cpu ≡ line →
    accepts_or_executes (with_change b change) cpu line ≡ happened_changed (accepts_or_executes b cpu line) change
accepts-changed change b cpu None clear is = executes-changed change b cpu (executor_on b.kernel cpu) clear refl is
accepts-changed change b cpu (Some line) clear is = refl

stopped-changed : (change : Change) (b : BoardState) (one other : Happened) (stopped : Bool) → one ≡ happened_changed other change →
    (if stopped then reported (with_change b change) report.Stopped else one)
    ≡ happened_changed (if stopped then reported b report.Stopped else other) change
stopped-changed change b one other true is = refl
stopped-changed change b one other false is = is

stepped-changed : (change : Change) (b : BoardState) (cpu : ℕ) (found : Option Processor) → StepClear change b cpu →
    stepped_in (with_change b change) cpu found ≡ happened_changed (stepped_in b cpu found) change
stepped-changed change b cpu None clear = refl
stepped-changed change b cpu (Some p) clear =
    stopped-changed change b (accepts_or_executes (with_change b change) cpu (deliverable b.kernel cpu))
    (accepts_or_executes b cpu (deliverable b.kernel cpu)) p.stopped
    (accepts-changed change b cpu (deliverable b.kernel cpu) clear refl)

if-changed : (change : Change) (one other : Happened) (test : Bool) (first second : Happened) → one ≡ happened_changed first change →
    other ≡ happened_changed second change → (if test then one else other) ≡ happened_changed (if test then first else second) change
if-changed change one other true first second is isnt = is
if-changed change one other false first second is isnt = isnt

pub executing-is : (b : BoardState) (cpu : ℕ) (who : Executor) → b.kernel.off ≡ false → executor_on b.kernel cpu ≡ Some who →
    deliverable b.kernel cpu ≡ None → executing b (Step cpu) ≡ Some (context_of b.kernel cpu who)
unfolding executing
executing-is b cpu who on executes none =
    ap (λ off. if off || is_some (deliverable b.kernel cpu) then None else context_on b.kernel cpu) on
    ∙ ap (λ line. if is_some line then None else context_on b.kernel cpu) none
    ∙ ap (option_map (context_of b.kernel cpu)) executes

on-changed : (change : Change) (b : BoardState) (event : Event) → b.kernel.off ≡ false → IsClearOf change (is_touched b event) →
    happens_on (with_change b change) event ≡ happened_changed (happens_on b event) change
on-changed change b (Step cpu) on clear =
    stepped-changed change b cpu (processor_at b.kernel cpu)
    (λ who executes none.
    subst (λ by. IsClearOf change (λ address. touched_in by b.memory address)) (executing-is b cpu who on executes none) clear)
on-changed change b Tick on clear = if-changed change _ _ (nat_lt b.kernel.time.count last_count) _ _ refl refl
on-changed change b (Raise line) on clear = if-changed change _ _ (can_be_raised b.kernel line) _ _ refl refl

off-changed : (change : Change) (b : BoardState) (event : Event) (off : Bool) → b.kernel.off ≡ off → IsClearOf change (is_touched b event) →
    (if off then reported (with_change b change) report.Off else happens_on (with_change b change) event)
    ≡ happened_changed (if off then reported b report.Off else happens_on b event) change
off-changed change b event true is clear = refl
off-changed change b event false is clear = on-changed change b event is clear

pub footprint : (b : BoardState) (event : Event) (change : Change) → IsClearOf change (is_touched b event) →
    happens (with_change b change) event ≡ happened_changed (happens b event) change
unfolding happens
footprint b event change clear = off-changed change b event b.kernel.off refl clear

pub footprints : (b : BoardState) (events : List Event) (change : Change) → AreClear b events change →
    after (with_change b change) events ≡ with_change (after b events) change
footprints b [] change clear = refl
footprints b (event ∷ events) change clear =
    ap (λ (done : Happened). after done.board events) (footprint b event change clear.0)
    ∙ footprints (happens b event).board events change clear.1

-- Bytes that are put elsewhere.

abbrev pub Outside : ℕ → ℕ → ℕ → Type 0
Outside at count place = (i : ℕ) → i < count → place ≡ at + i → ⊥

outside-more : (at count place : ℕ) → Outside at (suc count) place → Outside (at + 1) count place
outside-more at count place out i below is = out (i + 1) (omega (arith, below)) (omega (arith, is))

outside-first : (at count place : ℕ) → Outside at (suc count) place → place ≡ at → ⊥
outside-first at count place out is = out 0 (omega arith) (omega (arith, is))

pub put-keeps : (at place : ℕ) (bytes xs : List ℕ) → Outside at (length bytes) place → slice_index (put_at at bytes xs) place ≡ slice_index xs place
put-keeps at place [] xs out = refl
put-keeps at place (byte ∷ bytes) xs out =
    get_or-set_other (put_at (at + 1) bytes xs) at place byte 0 (outside-first at (length bytes) place out)
    ∙ put-keeps (at + 1) place bytes xs (outside-more at (length bytes) place out)

put-ignores : (at place : ℕ) (bytes xs : List ℕ) (other : ℕ) → Outside at (length bytes) place →
    put_at at bytes (slice_set xs place other) ≡ slice_set (put_at at bytes xs) place other
put-ignores at place [] xs other out = refl
put-ignores at place (byte ∷ bytes) xs other out =
    ap (λ ys. slice_set ys at byte) (put-ignores (at + 1) place bytes xs other (outside-more at (length bytes) place out))
    ∙ set_comm (put_at (at + 1) bytes xs) place at other byte (outside-first at (length bytes) place out)

pub put-length : (at : ℕ) (bytes xs : List ℕ) → length (put_at at bytes xs) ≡ length xs
put-length at [] xs = refl
put-length at (byte ∷ bytes) xs = length-set (put_at (at + 1) bytes xs) at byte ∙ put-length (at + 1) bytes xs

pub put-clear : (first : ℕ) (bytes : List ℕ) (touched : ℕ → Bool) → base ≤ first →
    ((address : ℕ) → is_among first (length bytes) address ≡ true → touched address ≡ false) →
    IsClearOf (put_at (first - base) bytes) touched
put-clear first bytes touched from apart = record {
  size = put-length (first - base) bytes;
  alone = λ address above is.
      let out : Outside (first - base) (length bytes) (address - base) = λ i below same.
      let there : address ≡ first + i = omega (arith, same, from, above) in
      false≢true (sym (apart address (among first (length bytes) address (omega (arith, there)) (omega (arith, there, below)))) ∙ is) in
      record {
        keeps = λ xs. put-keeps (first - base) (address - base) bytes xs out;
        ignores = λ xs byte. put-ignores (first - base) (address - base) bytes xs byte out;
      };
}
