-- What the next instruction of a context touches, by its access.
use Rattle.std.proofs.Common.{◌≡◌, ◌⊎◌, ℕ, ◌+◌, ◌-◌, ◌%◌, ◌≤◌, Bool, true, false, inl, inr, refl, sym, ap, subst, ◌∙◌, arith}
use Rattle.std.specs.Prelude.{◌&&◌, ◌||◌, ◌==◌, if◌then◌else◌, Option, None, Some, Result, Ok, Err}
use Rattle.std.proofs.lemmas.Bool.{false≢true}
use Rattle.std.proofs.lemmas.Bool.Decides.{nat_tests}
use Rattle.brd_isa.specs.declared.instruction.{Insn.Insn, LinkedOp.LinkedOp}
use Rattle.brd_isa.specs.declared.shape.{AccessSize.AccessSize, Transfer.Transfer}
use Rattle.brd_isa.specs.Decoding.{decoded}
use Rattle.brd_isa.specs.Shapes.{shape_of, load_size, store_size, does_store, is_linked}
use Rattle.brd_base.specs.Space.{base}
use Rattle.brd_mem.specs.declared.fault.Exc.{Exc}
use Rattle.brd_mem.specs.Memory.{Memory, size_of, contains, word_at}
use Rattle.brd_mem.specs.Access.{at_place}
use Rattle.brd_exec.specs.declared.outcome.{ExceptionCode.ExceptionCode, Stop.Stop}
use Rattle.brd_exec.specs.State.{State, read, advanced}
use Rattle.brd_exec.specs.Values.{Given, register_gives, immediate_gives}
use Rattle.brd_exec.specs.Action.{Action, sets, linked, with_word, action}
use Rattle.brd_exec.specs.Step.{has_slot, of_word, of_fetch, next_instruction, load_gives, store_gives, with_code}
use Rattle.brd_board.specs.Words as words
use Rattle.brd_frames.specs.Touching.{is_among, covers, loads_at, stores_at, accesses, accesses_next, touches, stores_by, stores_next, stores}
use Rattle.brd_frames.specs.Going.{Gone, gone_on, gone_storing, goes_by, goes_next, goes, is_plain, is_plain_next}
use Rattle.brd_frames.proofs.DeedLemmas.{among, or-left, or-right}
use Rattle.brd_blocks.specs.declared.footprint.Access.{Access}
use Rattle.brd_blocks.specs.Footprint.{first_of, last_of, access_in, access_by, stands_for, access_of}

-- The access of an instruction, by what it does.

abbrev taken : Transfer → AccessSize → ℕ → Access
taken transfer size address =
    record { transfer = transfer; address = address; first = first_of size address; last = last_of size address }

abbrev ActsAs : Action → Option Access → Type 0
ActsAs (Action.Local after) access = access ≡ None
ActsAs (Action.MayStop outcome) access = access ≡ None
ActsAs (Action.Loads op rt address) access = access ≡ Some (taken Transfer.Load (load_size op) address)
ActsAs (Action.Stores op rt address) access = access ≡ Some (taken Transfer.Store (store_size op) address)
ActsAs (Action.LoadsLinked rt address) access = access ≡ Some (taken Transfer.LoadLinked AccessSize.Word address)
ActsAs (Action.StoresIfLinked rt address) access = access ≡ Some (taken Transfer.StoreConditional AccessSize.Word address)

sets-none : (s : State) (register : ℕ) (given : Given) → ActsAs (sets s register given) None
sets-none s register (Given.Always word) = refl
sets-none s register (Given.MayRaise given) = refl

acts : (s : State) (insn : Insn) → ActsAs (action insn s) (access_in s (shape_of insn).access)
acts s (Insn.Shift op rd rt sa) = refl
acts s (Insn.ShiftVariable op rd rt rs) = refl
acts s (Insn.ThreeRegisters op rd rs rt) = sets-none s rd (register_gives op (read s rd) (read s rs) (read s rt))
acts s (Insn.Multiply rd rs rt) = refl
acts s (Insn.JumpRegister rs) = refl
acts s (Insn.JumpLinkRegister rd rs) = refl
acts s (Insn.Syscall code) = refl
acts s (Insn.Break code) = refl
acts s Insn.Sync = refl
acts s (Insn.MoveFrom op rd) = refl
acts s (Insn.MoveTo op rs) = refl
acts s (Insn.Product op rs rt) = refl
acts s (Insn.Accumulate op rs rt) = refl
acts s (Insn.Count op rd rs) = refl
acts s (Insn.Trap op rs rt code) = refl
acts s (Insn.TrapImmediate op rs immediate) = refl
acts s (Insn.Jump op index) = refl
acts s (Insn.Branch op rs rt offset) = refl
acts s (Insn.BranchZero op rs offset) = refl
acts s (Insn.BranchRegimm op rs offset) = refl
acts s (Insn.WithImmediate op rt rs immediate) = sets-none s rt (immediate_gives op (read s rs) immediate)
acts s (Insn.LoadUpper rt immediate) = refl
acts s (Insn.Load op rt register offset) = refl
acts s (Insn.Store op rt register offset) = refl
acts s (Insn.Linked LinkedOp.Ll rt register offset) = refl
acts s (Insn.Linked LinkedOp.Sc rt register offset) = refl
acts s (Insn.Prefetch hint register offset) = refl

-- what has a delay slot accesses nothing
slot-none : (s : State) (insn : Insn) → has_slot insn ≡ true → access_in s (shape_of insn).access ≡ None
slot-none s (Insn.Shift op rd rt sa) is = refl
slot-none s (Insn.ShiftVariable op rd rt rs) is = refl
slot-none s (Insn.ThreeRegisters op rd rs rt) is = refl
slot-none s (Insn.Multiply rd rs rt) is = refl
slot-none s (Insn.JumpRegister rs) is = refl
slot-none s (Insn.JumpLinkRegister rd rs) is = refl
slot-none s (Insn.Syscall code) is = refl
slot-none s (Insn.Break code) is = refl
slot-none s Insn.Sync is = refl
slot-none s (Insn.MoveFrom op rd) is = refl
slot-none s (Insn.MoveTo op rs) is = refl
slot-none s (Insn.Product op rs rt) is = refl
slot-none s (Insn.Accumulate op rs rt) is = refl
slot-none s (Insn.Count op rd rs) is = refl
slot-none s (Insn.Trap op rs rt code) is = refl
slot-none s (Insn.TrapImmediate op rs immediate) is = refl
slot-none s (Insn.Jump op index) is = refl
slot-none s (Insn.Branch op rs rt offset) is = refl
slot-none s (Insn.BranchZero op rs offset) is = refl
slot-none s (Insn.BranchRegimm op rs offset) is = refl
slot-none s (Insn.WithImmediate op rt rs immediate) is = refl
slot-none s (Insn.LoadUpper rt immediate) is = refl
slot-none s (Insn.Load op rt register offset) is = absurd (false≢true is)
slot-none s (Insn.Store op rt register offset) is = absurd (false≢true is)
slot-none s (Insn.Linked op rt register offset) is = absurd (false≢true is)
slot-none s (Insn.Prefetch hint register offset) is = refl

abbrev NextAs : State → Result Insn ExceptionCode → Option Access → Type 0
NextAs s (Ok insn) access = ActsAs (action insn s) access
NextAs s (Err code) access = access ≡ None

slot-as : (s : State) (insn : Insn) (slot has : Bool) → has_slot insn ≡ has →
    NextAs s (if slot && has then Err ExceptionCode.RI else Ok insn) (access_in s (shape_of insn).access)
slot-as s insn true true is = slot-none s insn is
slot-as s insn true false is = acts s insn
slot-as s insn false has is = acts s insn

word-as : (s : State) (found : Option Insn) → NextAs s (of_word s found) (access_by s found)
word-as s None = refl
word-as s (Some insn) = slot-as s insn s.slot (has_slot insn) refl

placed-as : (s : State) (memory : Memory) (aligned inside : Bool) (at : ℕ) →
    NextAs s
    (of_fetch s (at_place (word_at memory) (if aligned then (if inside then Ok at else Err Exc.IBE) else Err Exc.AdEL)))
    (access_by s (stands_for (words.word_found (at_place (word_at memory)
    (if aligned then (if inside then Ok at else Err Exc.DBE) else Err Exc.AdEL)))))
placed-as s memory true true at = word-as s (decoded (word_at memory at))
placed-as s memory true false at = refl
placed-as s memory false inside at = refl

next-as : (s : State) (memory : Memory) → NextAs s (next_instruction s memory) (access_of s memory)
unfolding next_instruction access_of
next-as s memory = placed-as s memory (s.pc % 4 == 0) (contains (size_of memory) s.pc 4) (s.pc - base)

-- What is touched and what is stored.

-- an address is one that an access takes
pub record Takes (access : Option Access) (address : ℕ) : Type 0 where
  pub it : Access
  pub is : access ≡ Some it
  pub from : it.first ≤ address
  pub to : address ≤ it.last
  pub short : it.last ≤ it.first + 3

among-takes : (transfer : Transfer) (first last count at address : ℕ) (access : Option Access) →
    access ≡ Some (record { transfer = transfer; address = at; first = first; last = last }) → last + 1 ≡ first + count → count ≤ 4 →
    is_among first count address ≡ true → Takes access address
among-takes transfer first last count at address access is ends few among = record {
  it = record { transfer = transfer; address = at; first = first; last = last };
  is = is;
  from = grind (arith, nat_tests, among);
  to = grind (arith, nat_tests, among, ends);
  short = omega (arith, ends, few);
}

covers-takes : (transfer : Transfer) (size : AccessSize) (at address : ℕ) (access : Option Access) → access ≡ Some (taken transfer size at) →
    covers size at address ≡ true → Takes access address
covers-takes transfer AccessSize.Byte at address access is covered =
    among-takes transfer at at 1 at address access is (omega arith) (omega arith) covered
covers-takes transfer AccessSize.Halfword at address access is covered =
    among-takes transfer at (at + 1) 2 at address access is (omega arith) (omega arith) covered
covers-takes transfer AccessSize.Word at address access is covered =
    among-takes transfer at (at + 3) 4 at address access is (omega arith) (omega arith) covered
covers-takes transfer AccessSize.LeftPart at address access is covered =
    among-takes transfer (first_of AccessSize.LeftPart at) (last_of AccessSize.LeftPart at) 4 at address access is (omega arith) (omega arith) covered
covers-takes transfer AccessSize.RightPart at address access is covered =
    among-takes transfer (first_of AccessSize.RightPart at) (last_of AccessSize.RightPart at) 4 at address access is (omega arith) (omega arith) covered

acts-takes : (act : Action) (access : Option Access) (address : ℕ) → ActsAs act access → accesses act address ≡ true → Takes access address
acts-takes (Action.Local after) access address how is = absurd (false≢true is)
acts-takes (Action.MayStop outcome) access address how is = absurd (false≢true is)
acts-takes (Action.Loads op rt at) access address how is = covers-takes Transfer.Load (load_size op) at address access how is
acts-takes (Action.Stores op rt at) access address how is = covers-takes Transfer.Store (store_size op) at address access how is
acts-takes (Action.LoadsLinked rt at) access address how is = covers-takes Transfer.LoadLinked AccessSize.Word at address access how is
acts-takes (Action.StoresIfLinked rt at) access address how is = covers-takes Transfer.StoreConditional AccessSize.Word at address access how is

next-takes : (s : State) (next : Result Insn ExceptionCode) (access : Option Access) (address : ℕ) → NextAs s next access →
    accesses_next s address next ≡ true → Takes access address
next-takes s (Ok insn) access address how is = acts-takes (action insn s) access address how is
next-takes s (Err code) access address how is = absurd (false≢true is)

either : (x y : Bool) → (x || y) ≡ true → (x ≡ true) ⊎ (y ≡ true)
either true y is = inl refl
either false y is = inr is

abbrev pub Fetches : State → ℕ → Type 0
Fetches s address = (s.pc ≤ address) × (address ≤ s.pc + 3)

fetched : (s : State) (address : ℕ) → is_among s.pc 4 address ≡ true → Fetches s address
fetched s address is = (grind (arith, nat_tests, is), grind (arith, nat_tests, is))

-- what is touched is fetched or accessed
pub touched : (s : State) (memory : Memory) (address : ℕ) → touches s memory address ≡ true →
    Fetches s address ⊎ Takes (access_of s memory) address
unfolding touches
touched s memory address is =
    elim (either (is_among s.pc 4 address) (accesses_next s address (next_instruction s memory)) is) [
      | inl here ↦ inl (fetched s address here)
      | inr there ↦ inr (next-takes s (next_instruction s memory) (access_of s memory) address (next-as s memory) there)
    ]

-- the one that there is
the-one : (transfer : Transfer) (size : AccessSize) (at : ℕ) (access : Option Access) (it : Access) → access ≡ Some (taken transfer size at) →
    access ≡ Some it → taken transfer size at ≡ it
the-one transfer size at access it one other = cc

no-one : (access : Option Access) (it : Access) → access ≡ None → access ≡ Some it → ⊥
no-one access it none some = let wrong : ⊥ = cc in wrong

-- What is stored.

acts-stores : (act : Action) (access : Option Access) (address : ℕ) → ActsAs act access → stores_by act address ≡ true → accesses act address ≡ true
acts-stores (Action.Local after) access address how is = absurd (false≢true is)
acts-stores (Action.MayStop outcome) access address how is = absurd (false≢true is)
acts-stores (Action.Loads op rt at) access address how is = absurd (false≢true is)
acts-stores (Action.Stores op rt at) access address how is = is
acts-stores (Action.LoadsLinked rt at) access address how is = absurd (false≢true is)
acts-stores (Action.StoresIfLinked rt at) access address how is = is

acts-storing : (act : Action) (access : Option Access) (address : ℕ) (it : Access) → ActsAs act access → stores_by act address ≡ true →
    access ≡ Some it → does_store it.transfer ≡ true
acts-storing (Action.Local after) access address it how is some = absurd (false≢true is)
acts-storing (Action.MayStop outcome) access address it how is some = absurd (false≢true is)
acts-storing (Action.Loads op rt at) access address it how is some = absurd (false≢true is)
acts-storing (Action.Stores op rt at) access address it how is some =
    subst (λ (x : Access). does_store x.transfer ≡ true) (the-one Transfer.Store (store_size op) at access it how some) refl
acts-storing (Action.LoadsLinked rt at) access address it how is some = absurd (false≢true is)
acts-storing (Action.StoresIfLinked rt at) access address it how is some =
    subst (λ (x : Access). does_store x.transfer ≡ true) (the-one Transfer.StoreConditional AccessSize.Word at access it how some) refl

next-storing : (s : State) (next : Result Insn ExceptionCode) (access : Option Access) (address : ℕ) → NextAs s next access →
    stores_next s address next ≡ true →
    Takes access address × ((it : Access) → access ≡ Some it → does_store it.transfer ≡ true)
next-storing s (Ok insn) access address how is = (
  acts-takes (action insn s) access address how (acts-stores (action insn s) access address how is),
  λ it. acts-storing (action insn s) access address it how is,
)
next-storing s (Err code) access address how is = absurd (false≢true is)

pub storing : (s : State) (memory : Memory) (address : ℕ) → stores s memory address ≡ true →
    Takes (access_of s memory) address × ((it : Access) → access_of s memory ≡ Some it → does_store it.transfer ≡ true)
unfolding stores
storing s memory address is =
    next-storing s (next_instruction s memory) (access_of s memory) address (next-as s memory) is

-- The first and the last address of an access are touched.

covers-first : (size : AccessSize) (at : ℕ) → covers size at (first_of size at) ≡ true
covers-first AccessSize.Byte at = among at 1 at (omega arith) (omega arith)
covers-first AccessSize.Halfword at = among at 2 at (omega arith) (omega arith)
covers-first AccessSize.Word at = among at 4 at (omega arith) (omega arith)
covers-first AccessSize.LeftPart at = let a : ℕ = first_of AccessSize.LeftPart at in among a 4 a (omega arith) (omega arith)
covers-first AccessSize.RightPart at = let a : ℕ = first_of AccessSize.RightPart at in among a 4 a (omega arith) (omega arith)

covers-last : (size : AccessSize) (at : ℕ) → covers size at (last_of size at) ≡ true
covers-last AccessSize.Byte at = among at 1 at (omega arith) (omega arith)
covers-last AccessSize.Halfword at = among at 2 (at + 1) (omega arith) (omega arith)
covers-last AccessSize.Word at = among at 4 (at + 3) (omega arith) (omega arith)
covers-last AccessSize.LeftPart at = let a : ℕ = first_of AccessSize.LeftPart at in among a 4 (a + 3) (omega arith) (omega arith)
covers-last AccessSize.RightPart at = let a : ℕ = first_of AccessSize.RightPart at in among a 4 (a + 3) (omega arith) (omega arith)

abbrev Ends : (ℕ → Bool) → Access → Type 0
Ends test it = (test it.first ≡ true) × (test it.last ≡ true)

acts-ends : (act : Action) (access : Option Access) (it : Access) → ActsAs act access → access ≡ Some it → Ends (accesses act) it
acts-ends (Action.Local after) access it how some = absurd (no-one access it how some)
acts-ends (Action.MayStop outcome) access it how some = absurd (no-one access it how some)
acts-ends (Action.Loads op rt at) access it how some =
    subst (λ (x : Access). Ends (loads_at op at) x) (the-one Transfer.Load (load_size op) at access it how some)
    (covers-first (load_size op) at, covers-last (load_size op) at)
acts-ends (Action.Stores op rt at) access it how some =
    subst (λ (x : Access). Ends (stores_at op at) x) (the-one Transfer.Store (store_size op) at access it how some)
    (covers-first (store_size op) at, covers-last (store_size op) at)
acts-ends (Action.LoadsLinked rt at) access it how some =
    subst (λ (x : Access). Ends (is_among at 4) x) (the-one Transfer.LoadLinked AccessSize.Word at access it how some)
    (covers-first AccessSize.Word at, covers-last AccessSize.Word at)
acts-ends (Action.StoresIfLinked rt at) access it how some =
    subst (λ (x : Access). Ends (is_among at 4) x) (the-one Transfer.StoreConditional AccessSize.Word at access it how some)
    (covers-first AccessSize.Word at, covers-last AccessSize.Word at)

next-ends : (s : State) (next : Result Insn ExceptionCode) (access : Option Access) (it : Access) → NextAs s next access → access ≡ Some it →
    Ends (λ address. accesses_next s address next) it
next-ends s (Ok insn) access it how some = acts-ends (action insn s) access it how some
next-ends s (Err code) access it how some = absurd (no-one access it how some)

pub ends-touched : (s : State) (memory : Memory) (it : Access) → access_of s memory ≡ Some it → Ends (touches s memory) it
unfolding touches
ends-touched s memory it some =
    let ends = next-ends s (next_instruction s memory) (access_of s memory) it (next-as s memory) some in (
      or-right (is_among s.pc 4 it.first) (accesses_next s it.first (next_instruction s memory)) ends.0,
      or-right (is_among s.pc 4 it.last) (accesses_next s it.last (next_instruction s memory)) ends.1,
    )

pub fetch-touched : (s : State) (memory : Memory) → (touches s memory s.pc ≡ true) × (touches s memory (s.pc + 3) ≡ true)
unfolding touches
fetch-touched s memory = (
  or-left (is_among s.pc 4 s.pc) (accesses_next s s.pc (next_instruction s memory)) (among s.pc 4 s.pc (omega arith) (omega arith)),
  or-left (is_among s.pc 4 (s.pc + 3)) (accesses_next s (s.pc + 3) (next_instruction s memory))
      (among s.pc 4 (s.pc + 3) (omega arith) (omega arith)),
)

-- What is no LL and no SC.

abbrev Plain : Option Access → Type 0
Plain access = (it : Access) → access ≡ Some it → is_linked it.transfer ≡ false

acts-plain : (act : Action) (access : Option Access) → ActsAs act access → Plain access → is_plain act ≡ true
acts-plain (Action.Local after) access how plain = refl
acts-plain (Action.MayStop outcome) access how plain = refl
acts-plain (Action.Loads op rt at) access how plain = refl
acts-plain (Action.Stores op rt at) access how plain = refl
acts-plain (Action.LoadsLinked rt at) access how plain = absurd (false≢true (sym (plain (taken Transfer.LoadLinked AccessSize.Word at) how)))
acts-plain (Action.StoresIfLinked rt at) access how plain =
    absurd (false≢true (sym (plain (taken Transfer.StoreConditional AccessSize.Word at) how)))

next-plain : (s : State) (next : Result Insn ExceptionCode) (access : Option Access) → NextAs s next access → Plain access →
    is_plain_next s next ≡ true
next-plain s (Ok insn) access how plain = acts-plain (action insn s) access how plain
next-plain s (Err code) access how plain = refl

pub is-plain : (s : State) (memory : Memory) → ((it : Access) → access_of s memory ≡ Some it → is_linked it.transfer ≡ false) →
    is_plain_next s (next_instruction s memory) ≡ true
is-plain s memory plain = next-plain s (next_instruction s memory) (access_of s memory) (next-as s memory) plain

acts-linked : (s : State) (memory : Memory) (act : Action) (access : Option Access) (it : Access) (gone : Gone) → ActsAs act access →
    access ≡ Some it → is_linked it.transfer ≡ true → goes_by s memory act ≡ Some gone → ⊥
acts-linked s memory (Action.Local after) access it gone how some linked goes = no-one access it how some
acts-linked s memory (Action.MayStop outcome) access it gone how some linked goes = no-one access it how some
acts-linked s memory (Action.Loads op rt at) access it gone how some linked goes =
    false≢true (ap (λ (x : Access). is_linked x.transfer) (the-one Transfer.Load (load_size op) at access it how some) ∙ linked)
acts-linked s memory (Action.Stores op rt at) access it gone how some linked goes =
    false≢true (ap (λ (x : Access). is_linked x.transfer) (the-one Transfer.Store (store_size op) at access it how some) ∙ linked)
acts-linked s memory (Action.LoadsLinked rt at) access it gone how some linked goes = let wrong : ⊥ = cc in wrong
acts-linked s memory (Action.StoresIfLinked rt at) access it gone how some linked goes = let wrong : ⊥ = cc in wrong

next-linked : (s : State) (memory : Memory) (next : Result Insn ExceptionCode) (access : Option Access) (it : Access) (gone : Gone) →
    NextAs s next access → access ≡ Some it → is_linked it.transfer ≡ true → goes_next s memory next ≡ Some gone → ⊥
next-linked s memory (Ok insn) access it gone how some linked goes = acts-linked s memory (action insn s) access it gone how some linked goes
next-linked s memory (Err code) access it gone how some linked goes = no-one access it how some

pub linked-stops : (s : State) (memory : Memory) (it : Access) (gone : Gone) → access_of s memory ≡ Some it → is_linked it.transfer ≡ true →
    goes s memory ≡ Some gone → ⊥
unfolding goes
linked-stops s memory it gone some linked is =
    next-linked s memory (next_instruction s memory) (access_of s memory) it gone (next-as s memory) some linked is

-- Where it has stored.

pub record Stored (access : Option Access) (address : ℕ) : Type 0 where
  pub it : Access
  pub is : access ≡ Some it
  pub stores : does_store it.transfer ≡ true
  pub at : it.address ≡ address

on-stores-none : (memory : Memory) (outcome : Result State Stop) (gone : Gone) (address : ℕ) → gone_on memory outcome ≡ Some gone →
    gone.stored ≡ Some address → ⊥
on-stores-none memory (Ok after) gone address is stored =
    let same : (record { context = after; memory = memory; stored = None }) ≡ gone = cc in
    let none : None ≡ gone.stored = ap (λ (it : Gone). it.stored) same in
    let wrong : ⊥ = cc in wrong
on-stores-none memory (Err stop) gone address is stored = let wrong : ⊥ = cc in wrong

storing-stores : (s : State) (at : ℕ) (given : Result Memory Exc) (gone : Gone) (address : ℕ) → gone_storing s at given ≡ Some gone →
    gone.stored ≡ Some address → at ≡ address
storing-stores s at (Ok memory) gone address is stored =
    let same : (record { context = advanced s; memory = memory; stored = Some at }) ≡ gone = cc in
    let some : Some at ≡ gone.stored = ap (λ (it : Gone). it.stored) same in
    cc
storing-stores s at (Err exc) gone address is stored = let wrong : ⊥ = cc in absurd wrong

acts-stored : (s : State) (memory : Memory) (act : Action) (access : Option Access) (gone : Gone) (address : ℕ) → ActsAs act access →
    goes_by s memory act ≡ Some gone → gone.stored ≡ Some address → Stored access address
acts-stored s memory (Action.Local after) access gone address how is stored =
    absurd (on-stores-none memory (Ok after) gone address is stored)
acts-stored s memory (Action.MayStop outcome) access gone address how is stored =
    absurd (on-stores-none memory outcome gone address is stored)
acts-stored s memory (Action.Loads op rt at) access gone address how is stored =
    absurd (on-stores-none memory (with_word s rt (with_code (load_gives op memory at (read s rt)))) gone address is stored)
acts-stored s memory (Action.Stores op rt at) access gone address how is stored = record {
  it = taken Transfer.Store (store_size op) at;
  is = how;
  stores = refl;
  at = storing-stores s at (store_gives op memory at (read s rt)) gone address is stored;
}
acts-stored s memory (Action.LoadsLinked rt at) access gone address how is stored = let wrong : ⊥ = cc in absurd wrong
acts-stored s memory (Action.StoresIfLinked rt at) access gone address how is stored = let wrong : ⊥ = cc in absurd wrong

next-stored : (s : State) (memory : Memory) (next : Result Insn ExceptionCode) (access : Option Access) (gone : Gone) (address : ℕ) →
    NextAs s next access → goes_next s memory next ≡ Some gone → gone.stored ≡ Some address → Stored access address
next-stored s memory (Ok insn) access gone address how is stored = acts-stored s memory (action insn s) access gone address how is stored
next-stored s memory (Err code) access gone address how is stored = let wrong : ⊥ = cc in absurd wrong

pub has-stored : (s : State) (memory : Memory) (gone : Gone) (address : ℕ) → goes s memory ≡ Some gone → gone.stored ≡ Some address →
    Stored (access_of s memory) address
unfolding goes
has-stored s memory gone address is stored =
    next-stored s memory (next_instruction s memory) (access_of s memory) gone address (next-as s memory) is stored
