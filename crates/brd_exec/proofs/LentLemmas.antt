-- Lent steps: which instructions they are, and that they are steps.
use Rattle.std.proofs.Common.{◌≡◌, ℕ, ◌+◌, ◌-◌, ◌*◌, ◌/◌, ◌%◌, ◌<◌, ◌≤◌, Bool, true, false, ◌&&◌, if◌then◌else◌, List, refl, sym, ap, subst, ◌∙◌, is_some, arith}
use Rattle.std.specs.Prelude.{zero, suc, ◌==◌, nat_le, nat_lt, slice_index, Option, None, Some, Result, Ok, Err}
use Rattle.brd_isa.specs.declared.instruction.{Insn.Insn, RegisterOp.RegisterOp, ImmediateOp.ImmediateOp, LinkedOp.LinkedOp}
use Rattle.brd_isa.specs.declared.shape.Flow.{Flow}
use Rattle.brd_isa.specs.Shapes.{register_flow, immediate_flow, jump_flow, branch_flow, is_jump_calling}
use Rattle.brd_isa.specs.Shapes.{is_regimm_branch_calling}
use Rattle.brd_isa.specs.Local.{goes_on, is_local}
use Rattle.std.proofs.lemmas.Bool.{and_from, eq-eqb, le-leb}
use Rattle.std.proofs.lemmas.Bool.Decides.{nat_tests}
use Rattle.std.proofs.lemmas.List.FromFn.{get_or-map-range_with_len}
use Rattle.brd_base.specs.Space.{base}
use Rattle.brd_isa.specs.Decoding.{decoded}
use Rattle.brd_mem.specs.declared.fault.Exc.{Exc}
use Rattle.brd_mem.specs.Memory.{Memory, size_of, contains, word_at}
use Rattle.brd_mem.specs.Access.{at_place, fetched}
use Rattle.brd_mem.specs.Window.{window_start, words_at, window_at}
use Rattle.brd_link.specs.LinkSet.{LinkSet}
use Rattle.brd_exec.specs.declared.outcome.{ExceptionCode.ExceptionCode}
use Rattle.brd_exec.specs.State.{State, read, address_of}
use Rattle.brd_exec.specs.Values.{register_gives, immediate_gives}
use Rattle.brd_exec.specs.Action.{sets, linked, local_context, local_meaning}
use Rattle.brd_exec.specs.Step.{has_slot, effect, next_instruction, of_fetch, of_word, of_next, Effect}
use Rattle.brd_exec.specs.Went.{Machine, went_by, went_on, went}
use Rattle.brd_exec.specs.Lent.{word_in, lent_insn, lent_word, lent_step, lent_on, lent}
use Rattle.brd_exec.proofs.LocalLemmas.{local-meaning}

local-register : (op : RegisterOp) (s : State) (register old a b : ℕ) →
    is_some (local_context (sets s register (register_gives op old a b))) ≡ goes_on (register_flow op)
local-register RegisterOp.Add s register old a b = refl
local-register RegisterOp.Sub s register old a b = refl
local-register op s register old a b = refl

local-immediate : (op : ImmediateOp) (s : State) (register a immediate : ℕ) →
    is_some (local_context (sets s register (immediate_gives op a immediate))) ≡ goes_on (immediate_flow op)
local-immediate ImmediateOp.Addi s register a immediate = refl
local-immediate op s register a immediate = refl

local-linked : (op : LinkedOp) (rt address : ℕ) → is_some (local_context (linked op rt address)) ≡ false
local-linked LinkedOp.Ll rt address = refl
local-linked LinkedOp.Sc rt address = refl

-- a jump leads on, whatever it writes and wherever it leads
local-jump : (calls : Bool) → true ≡ goes_on (jump_flow calls)
local-jump true = refl
local-jump false = refl

local-branch : (calls : Bool) → true ≡ goes_on (branch_flow calls)
local-branch true = refl
local-branch false = refl

local-target : (returns : Bool) → true ≡ goes_on (if returns then Flow.Return else Flow.Jump)
local-target true = refl
local-target false = refl

pub local-table : (insn : Insn) (s : State) → is_some (local_meaning insn s) ≡ is_local insn
local-table (Insn.ThreeRegisters op rd rs rt) s = local-register op s rd (read s rd) (read s rs) (read s rt)
local-table (Insn.JumpRegister rs) s = local-target (rs == 31)
local-table (Insn.Jump op index) s = local-jump (is_jump_calling op)
local-table (Insn.BranchRegimm op rs offset) s = local-branch (is_regimm_branch_calling op)
local-table (Insn.WithImmediate op rt rs immediate) s = local-immediate op s rt (read s rs) immediate
local-table (Insn.Linked op rt base offset) s = local-linked op rt (address_of s base offset)
local-table insn s = refl

-- A lent instruction is one that a step does, and leaves memory and links.

lent-accepted : (refused : Bool) (cpu : ℕ) (insn : Insn) (s after : State) (memory : Memory) (links : LinkSet) →
    (if refused then None else local_meaning insn s) ≡ Some after →
    of_next cpu s memory links (if refused then Err ExceptionCode.RI else Ok insn) ≡ Effect.Goes after memory links
lent-accepted true cpu insn s after memory links is = absurd (cc)
lent-accepted false cpu insn s after memory links is = local-meaning cpu insn s after memory links is

lent-of_word : (insn : Option Insn) (cpu : ℕ) (s after : State) (memory : Memory) (links : LinkSet) →
    lent_insn s insn ≡ Some after → of_next cpu s memory links (of_word s insn) ≡ Effect.Goes after memory links
lent-of_word None cpu s after memory links is = absurd (cc)
lent-of_word (Some insn) cpu s after memory links is =
    lent-accepted (s.slot && has_slot insn) cpu insn s after memory links is

some-if : {X : Type 0} (test : Bool) (x y : X) → (if test then Some x else None) ≡ Some y → (test ≡ true) × (x ≡ y)
some-if true x y is = (refl, cc)
some-if false x y is = absurd (cc)

-- an address at which a window has a word
record LiesAt (start address : ℕ) : Type 0 where
  aligned : address % 4 ≡ 0
  from : start ≤ address
  below : address < start + 256
  place : (address - start) % 4 ≡ 0

lies-at : (start address : ℕ) →
    (address % 4 == 0 && nat_le start address && nat_lt address (start + 256) && (address - start) % 4 == 0) ≡ true →
    LiesAt start address
lies-at start address test = record {
  aligned = grind (arith, nat_tests);
  from = grind (arith, nat_tests);
  below = grind (arith, nat_tests);
  place = grind (arith, nat_tests);
}

found-at : (aligned inside : Bool) (found : ℕ → ℕ) (at word : ℕ) → aligned ≡ true → inside ≡ true → found at ≡ word →
    at_place found (if aligned then (if inside then Ok at else Err Exc.IBE) else Err Exc.AdEL) ≡ Ok word
found-at true true found at word yes_aligned yes_inside is = ap Ok is
found-at true false found at word yes_aligned yes_inside is = absurd (cc)
found-at false inside found at word yes_aligned yes_inside is = absurd (cc)

-- a word of 64 from a place on
word-of : (memory : Memory) (at i : ℕ) → i < 64 → slice_index (words_at memory at 64) i ≡ word_at memory (at + 4 * i)
unfolding words_at
word-of memory at i below =
    get_or-map-range_with_len (λ n. word_at memory (at + 4 * n)) 0 64 i i 0 below (omega arith)

-- the first 256 bytes of a window lie in a memory
record LiesIn (start size : ℕ) : Type 0 where
  from : base ≤ start
  to : start + 256 ≤ base + size

lies-in : (start size : ℕ) → contains size start 256 ≡ true → LiesIn start size
lies-in start size test = record { from = grind (arith, nat_tests); to = grind (arith, nat_tests) }

inside-at : (start size pc : ℕ) → LiesIn start size → start ≤ pc → pc + 4 ≤ start + 256 → contains size pc 4 ≡ true
inside-at start size pc lies from to = and_from (nat_le base pc) (nat_le (pc + 4) (base + size))
    (le-leb base pc (omega (arith, lies.from))) (le-leb (pc + 4) (base + size) (omega (arith, lies.to)))

-- what a window of memory has at an address is what is fetched there
pub fetched-word : (memory : Memory) (address pc word : ℕ) (window : List ℕ) →
    window_at memory address ≡ Some window → word_in window (window_start address) pc ≡ Some word →
    fetched memory pc ≡ Ok word
fetched-word memory address pc word window whole has =
    let start = window_start address in
    let there = some-if (contains (size_of memory) start 256) (words_at memory (start - base) 64) window whole in
    let found = some-if (pc % 4 == 0 && nat_le start pc && nat_lt pc (start + 256) && (pc - start) % 4 == 0)
    (slice_index window ((pc - start) / 4)) word has in
    let lies = lies-at start pc found.0 in
    let within = lies-in start (size_of memory) there.0 in
    let four : 4 * ((pc - start) / 4) ≡ pc - start = omega (arith, lies.place) in
    let place : start - base + 4 * ((pc - start) / 4) ≡ pc - base = omega (arith, four, lies.from, within.from) in
    let below : (pc - start) / 4 < 64 = omega (arith, lies.from, lies.below) in
    let to : pc + 4 ≤ start + 256 = omega (arith, four, lies.from, below) in
    found-at (pc % 4 == 0) (contains (size_of memory) pc 4) (word_at memory) (pc - base) word (eq-eqb (pc % 4) 0 lies.aligned)
    (inside-at start (size_of memory) pc within lies.from to)
    (ap (word_at memory) (sym place) ∙ sym (word-of memory (start - base) ((pc - start) / 4) below)
    ∙ ap (λ words. slice_index words ((pc - start) / 4)) there.1 ∙ found.1)

lent-fetched : (fetch : Result ℕ Exc) (cpu : ℕ) (s after : State) (memory : Memory) (links : LinkSet) (word : ℕ) →
    fetch ≡ Ok word → lent_insn s (decoded word) ≡ Some after →
    of_next cpu s memory links (of_fetch s fetch) ≡ Effect.Goes after memory links
lent-fetched (Err exc) cpu s after memory links word is lent = absurd (cc)
lent-fetched (Ok other) cpu s after memory links word is lent =
    let same : other ≡ word = cc in
    lent-of_word (decoded other) cpu s after memory links (subst (λ w. lent_insn s (decoded w) ≡ Some after) (sym same) lent)

lent-word : (word : Option ℕ) (cpu : ℕ) (s after : State) (memory : Memory) (links : LinkSet) →
    ((w : ℕ) → word ≡ Some w → fetched memory s.pc ≡ Ok w) → lent_word s word ≡ Some after →
    of_next cpu s memory links (of_fetch s (fetched memory s.pc)) ≡ Effect.Goes after memory links
lent-word None cpu s after memory links fetches is = absurd (cc)
lent-word (Some word) cpu s after memory links fetches is =
    lent-fetched (fetched memory s.pc) cpu s after memory links word (fetches word refl) is

-- a lent step over a memory that has the window is a step that goes on
pub lent-effect : (cpu address : ℕ) (s after : State) (memory : Memory) (links : LinkSet) (window : List ℕ) →
    window_at memory address ≡ Some window → lent_step s window (window_start address) ≡ Some after →
    effect cpu s memory links ≡ Effect.Goes after memory links
unfolding lent_step effect next_instruction
lent-effect cpu address s after memory links window whole is =
    lent-word (word_in window (window_start address) s.pc) cpu s after memory links
    (λ w has. fetched-word memory address s.pc w window whole has) is

lent-went : (before : Option State) (went_before : Option Machine) (cpu address : ℕ) (after : State) (memory : Memory) (links : LinkSet) (window : List ℕ) →
    window_at memory address ≡ Some window →
    ((s : State) → before ≡ Some s → went_before ≡ Some (record { state = s; memory = memory; links = links })) →
    lent_on before window (window_start address) ≡ Some after →
    went_on cpu went_before ≡ Some (record { state = after; memory = memory; links = links })
lent-went None went_before cpu address after memory links window whole goes is = absurd (cc)
lent-went (Some s) went_before cpu address after memory links window whole goes is =
    ap (went_on cpu) (goes s refl) ∙ ap went_by (lent-effect cpu address s after memory links window whole is)

-- so are as many as there are
pub lent-steps : (count cpu address : ℕ) (s after : State) (memory : Memory) (links : LinkSet) (window : List ℕ) →
    window_at memory address ≡ Some window → lent count s window (window_start address) ≡ Some after →
    went cpu count (record { state = s; memory = memory; links = links })
    ≡ Some (record { state = after; memory = memory; links = links })
lent-steps zero cpu address s after memory links window whole is = cc
lent-steps (suc count) cpu address s after memory links window whole is =
    lent-went (lent count s window (window_start address)) (went cpu count (record { state = s; memory = memory; links = links }))
    cpu address after memory links window whole
    (λ before has. lent-steps count cpu address s before memory links window whole has) is
