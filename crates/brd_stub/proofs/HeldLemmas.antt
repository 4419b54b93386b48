-- Which bytes of a set an instruction names.
use Rattle.std.proofs.Common.{◌≡◌, ◌⊎◌, ℕ, zero, suc, ◌+◌, ◌%◌, ◌^◌, ◌<◌, ◌≤◌, List, refl, subst, ◌∙◌, arith, inl, inr}
use Rattle.std.specs.Prelude.{Bool, true, false, if◌then◌else◌, ◌&&◌, ◌||◌, nat_lt, Option, Some, None, option_and_then}
use Rattle.std.proofs.lemmas.Bool.{or_cases, and_parts, and_from, or_left, or_right, ltb-true, lt-ltb, false≢true}
use Rattle.brd_word.specs.declared.order.Order.{Order}
use Rattle.brd_isa.specs.declared.instruction.Insn.{Insn}
use Rattle.brd_isa.specs.declared.shape.{AccessSize.AccessSize, MemoryAccess.MemoryAccess}
use Rattle.brd_isa.specs.Shapes.{shape_of, does_load, does_store}
use Rattle.brd_exec.specs.declared.accessed.Span.{Span}
use Rattle.brd_exec.specs.Accessed.{span_up_to, span_from, left_part, right_part, span_of, address_in, span_in}
use Rattle.brd_exec.specs.Accessed.{loaded_by, stored_by, reads_by, writes_by}
use Rattle.brd_exec.specs.State.{State, address_of}
use Rattle.brd_mem.specs.Memory.{Memory}
use Rattle.brd_board.specs.declared.event.Event.{Event}
use Rattle.brd_board.specs.declared.event.Event.TheVariants.{Step, Tick, Raise}
use Rattle.brd_board.specs.Board.{BoardState, registers_of}
use Rattle.brd_debug.specs.Marks.{is_marked}
use Rattle.brd_debug.specs.Touching.{insn_at, read_next, written_next, read_on, written_on, holds}
use Rattle.brd_debug.specs.Touching.{holds_some, touches}
use Rattle.brd_stub.specs.Hits.{IsWithin, IsRead, IsWritten}

-- a span has one to four bytes, the first of which lies at an address of 32 bits

pub record IsSpan (s : Span) : Type 0 where
  pub first : s.first < 2 ^ 32
  pub some : 0 < s.count
  pub few : s.count ≤ 4

abbrev pub AreSpan : Option Span → Type 0
AreSpan None = Unit {0}
AreSpan (Some s) = IsSpan s

up-to : (address : ℕ) → address < 2 ^ 32 → IsSpan (span_up_to address)
up-to address lt = record { first = omega (arith, lt); some = omega arith; few = omega arith }

from : (address : ℕ) → address < 2 ^ 32 → IsSpan (span_from address)
from address lt = record { first = lt; some = omega arith; few = omega arith }

left : (order : Order) (address : ℕ) → address < 2 ^ 32 → IsSpan (left_part order address)
left Order.Big address lt = from address lt
left Order.Little address lt = up-to address lt

right : (order : Order) (address : ℕ) → address < 2 ^ 32 → IsSpan (right_part order address)
right Order.Big address lt = up-to address lt
right Order.Little address lt = from address lt

spanned : (order : Order) (size : AccessSize) (address : ℕ) → address < 2 ^ 32 → IsSpan (span_of order size address)
spanned order AccessSize.Byte address lt = record { first = lt; some = omega arith; few = omega arith }
spanned order AccessSize.Halfword address lt = record { first = lt; some = omega arith; few = omega arith }
spanned order AccessSize.Word address lt = record { first = lt; some = omega arith; few = omega arith }
spanned order AccessSize.LeftPart address lt = left order address lt
spanned order AccessSize.RightPart address lt = right order address lt

named : (s : State) (base offset : ℕ) → address_of s base offset < 2 ^ 32
named s base offset = omega arith

if-spanned : (test : Bool) (s : Span) → IsSpan s → AreSpan (if test then Some s else None)
if-spanned true s is = is
if-spanned false s is = tt

accessed : (order : Order) (s : State) (access : MemoryAccess) → IsSpan (span_in order s access)
accessed order s access = spanned order access.size (address_in s access) (named s access.base access.offset)

loads : (order : Order) (s : State) (access : Option MemoryAccess) → AreSpan (loaded_by order s access)
loads order s None = tt
loads order s (Some access) =
    if-spanned (does_load access.transfer) (span_in order s access) (accessed order s access)

stores : (order : Order) (s : State) (access : Option MemoryAccess) → AreSpan (stored_by order s access)
stores order s None = tt
stores order s (Some access) =
    if-spanned (does_store access.transfer) (span_in order s access) (accessed order s access)

reads : (order : Order) (insn : Insn) (s : State) → AreSpan (reads_by order insn s)
reads order insn s = loads order s (shape_of insn).access

writes : (order : Order) (insn : Insn) (s : State) → AreSpan (writes_by order insn s)
writes order insn s = stores order s (shape_of insn).access

reads-found : (order : Order) (s : State) (found : Option Insn) →
    AreSpan (option_and_then (λ insn. reads_by order insn s) found)
reads-found order s None = tt
reads-found order s (Some insn) = reads order insn s

writes-found : (order : Order) (s : State) (found : Option Insn) →
    AreSpan (option_and_then (λ insn. writes_by order insn s) found)
writes-found order s None = tt
writes-found order s (Some insn) = writes order insn s

reads-next : (memory : Memory) (context : Option State) → AreSpan (read_next memory context)
reads-next memory None = tt
reads-next memory (Some s) = reads-found memory.order s (insn_at memory s.pc)

writes-next : (memory : Memory) (context : Option State) → AreSpan (written_next memory context)
writes-next memory None = tt
writes-next memory (Some s) = writes-found memory.order s (insn_at memory s.pc)

-- a byte of a span is one of a set

abbrev IsHeld : List ℕ → Option Span → Type 0
IsHeld marks span = (a : ℕ) × IsWithin span a × (is_marked marks a ≡ true)

abbrev holds_at : ℕ → List ℕ → Span → Bool
holds_at i marks s = nat_lt i s.count && is_marked marks ((s.first + i) % 2 ^ 32)

held-in : (marks : List ℕ) (s : Span) → IsSpan s → holds marks s ≡ true → IsHeld marks (Some s)
held-in marks s is held =
    let at = λ (i : ℕ). is_marked marks ((s.first + i) % 2 ^ 32) in
    elim (or_cases (is_marked marks s.first)
    (nat_lt 1 s.count && at 1 || (nat_lt 2 s.count && at 2 || nat_lt 3 s.count && at 3)) held) [
      | inl first ↦ (s.first, (0, is.some, omega (arith, is.first)), first)
      | inr more ↦
          elim (or_cases (nat_lt 1 s.count && at 1) (nat_lt 2 s.count && at 2 || nat_lt 3 s.count && at 3) more) [
            | inl both ↦ let b = and_parts (nat_lt 1 s.count) (at 1) both in
                ((s.first + 1) % 2 ^ 32, (1, ltb-true 1 s.count b.0, refl), b.1)
            | inr rest ↦ elim (or_cases (nat_lt 2 s.count && at 2) (nat_lt 3 s.count && at 3) rest) [
              | inl both ↦ let b = and_parts (nat_lt 2 s.count) (at 2) both in
                  ((s.first + 2) % 2 ^ 32, (2, ltb-true 2 s.count b.0, refl), b.1)
              | inr both ↦ let b = and_parts (nat_lt 3 s.count) (at 3) both in
                  ((s.first + 3) % 2 ^ 32, (3, ltb-true 3 s.count b.0, refl), b.1)
            ]
          ]
    ]

pub held : (marks : List ℕ) (span : Option Span) → AreSpan span → holds_some marks span ≡ true → IsHeld marks span
held marks None is none = absurd (false≢true none)
held marks (Some s) is some = held-in marks s is some

marked-at : (marks : List ℕ) (a b : ℕ) → a ≡ b → is_marked marks a ≡ true → is_marked marks b ≡ true
marked-at marks a b same is = subst (λ (x : ℕ). is_marked marks x ≡ true) same is

at-place : (i : ℕ) (marks : List ℕ) (s : Span) (a : ℕ) → i < s.count → a ≡ (s.first + i) % 2 ^ 32 →
    is_marked marks a ≡ true → holds_at i marks s ≡ true
at-place i marks s a lt same marked =
    and_from (nat_lt i s.count) (is_marked marks ((s.first + i) % 2 ^ 32)) (lt-ltb i s.count lt)
    (marked-at marks a ((s.first + i) % 2 ^ 32) same marked)

held-by : (marks : List ℕ) (s : Span) (a i : ℕ) → IsSpan s → i < s.count → a ≡ (s.first + i) % 2 ^ 32 →
    is_marked marks a ≡ true → holds marks s ≡ true
held-by marks s a zero is lt same marked =
    or_left (is_marked marks s.first)
    (holds_at 1 marks s || (holds_at 2 marks s || holds_at 3 marks s))
    (marked-at marks a s.first (same ∙ omega (arith, is.first)) marked)
held-by marks s a (suc zero) is lt same marked =
    or_right (is_marked marks s.first) (holds_at 1 marks s || (holds_at 2 marks s || holds_at 3 marks s))
    (or_left (holds_at 1 marks s) (holds_at 2 marks s || holds_at 3 marks s) (at-place 1 marks s a lt same marked))
held-by marks s a (suc (suc zero)) is lt same marked =
    or_right (is_marked marks s.first) (holds_at 1 marks s || (holds_at 2 marks s || holds_at 3 marks s))
    (or_right (holds_at 1 marks s) (holds_at 2 marks s || holds_at 3 marks s)
    (or_left (holds_at 2 marks s) (holds_at 3 marks s) (at-place 2 marks s a lt same marked)))
held-by marks s a (suc (suc (suc zero))) is lt same marked =
    or_right (is_marked marks s.first) (holds_at 1 marks s || (holds_at 2 marks s || holds_at 3 marks s))
    (or_right (holds_at 1 marks s) (holds_at 2 marks s || holds_at 3 marks s)
    (or_right (holds_at 2 marks s) (holds_at 3 marks s) (at-place 3 marks s a lt same marked)))
held-by marks s a (suc (suc (suc (suc i)))) is lt same marked = absurd (omega (arith, lt, is.few))

pub holding : (marks : List ℕ) (span : Option Span) (a : ℕ) → AreSpan span → IsWithin span a →
    is_marked marks a ≡ true → holds_some marks span ≡ true
holding marks None a is within marked = absurd within
holding marks (Some s) a is within marked = held-by marks s a within.0 is within.1 within.2 marked

-- an event touches a byte of a set

pub touched : (reads accesses : List ℕ) (b : BoardState) (event : Event) → touches reads accesses b event ≡ true →
    ((a : ℕ) × IsRead b event a × (is_marked reads a ≡ true))
    ⊎ ((a : ℕ) × (IsRead b event a ⊎ IsWritten b event a) × (is_marked accesses a ≡ true))
touched reads accesses b (Step cpu) is =
    elim (or_cases (holds_some reads (read_on b cpu))
    (holds_some accesses (read_on b cpu) || holds_some accesses (written_on b cpu)) is) [
      | inl first ↦ inl (held reads (read_on b cpu) (reads-next b.memory (registers_of b cpu)) first)
      | inr more ↦ elim (or_cases (holds_some accesses (read_on b cpu)) (holds_some accesses (written_on b cpu)) more) [
        | inl second ↦
            let it = held accesses (read_on b cpu) (reads-next b.memory (registers_of b cpu)) second in
            inr (it.0, inl it.1, it.2)
        | inr third ↦
            let it = held accesses (written_on b cpu) (writes-next b.memory (registers_of b cpu)) third in
            inr (it.0, inr it.1, it.2)
      ]
    ]
touched reads accesses b Tick is = absurd (false≢true is)
touched reads accesses b (Raise line) is = absurd (false≢true is)

pub touches-read : (reads accesses : List ℕ) (b : BoardState) (event : Event) (a : ℕ) → IsRead b event a →
    is_marked reads a ≡ true → touches reads accesses b event ≡ true
touches-read reads accesses b (Step cpu) a within marked =
    or_left _ _ (holding reads (read_on b cpu) a (reads-next b.memory (registers_of b cpu)) within marked)
touches-read reads accesses b Tick a within marked = absurd within
touches-read reads accesses b (Raise line) a within marked = absurd within

pub touches-access : (reads accesses : List ℕ) (b : BoardState) (event : Event) (a : ℕ) →
    IsRead b event a ⊎ IsWritten b event a → is_marked accesses a ≡ true → touches reads accesses b event ≡ true
touches-access reads accesses b (Step cpu) a (inl within) marked =
    or_right _ _ (or_left _ _
    (holding accesses (read_on b cpu) a (reads-next b.memory (registers_of b cpu)) within marked))
touches-access reads accesses b (Step cpu) a (inr within) marked =
    or_right _ _ (or_right _ _
    (holding accesses (written_on b cpu) a (writes-next b.memory (registers_of b cpu)) within marked))
touches-access reads accesses b Tick a (inl within) marked = absurd within
touches-access reads accesses b Tick a (inr within) marked = absurd within
touches-access reads accesses b (Raise line) a (inl within) marked = absurd within
touches-access reads accesses b (Raise line) a (inr within) marked = absurd within
