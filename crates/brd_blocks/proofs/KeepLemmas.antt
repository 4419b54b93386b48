-- What a look at an instruction says of what it touches.
use Rattle.std.proofs.Common.{◌≡◌, ◌⊎◌, ℕ, ◌+◌, ◌≤◌, Bool, true, false, not, List, inl, inr, refl, sym, subst, arith}
use Rattle.std.specs.Prelude.{◌&&◌, if◌then◌else◌, Option, None, Some}
use Rattle.std.proofs.lemmas.Bool.{false≢true}
use Rattle.brd_isa.specs.Shapes.{does_store, is_linked}
use Rattle.brd_mem.specs.Memory.{Memory}
use Rattle.brd_exec.specs.State.{State}
use Rattle.brd_board.specs.Board.{BoardState}
use Rattle.brd_frames.specs.Agents.{Agent, context_in}
use Rattle.brd_frames.specs.Touching.{touches, stores}
use Rattle.brd_frames.specs.Lagging.{Keeps}
use Rattle.brd_blocks.specs.declared.owner.Owner.{Owner}
use Rattle.brd_blocks.specs.declared.owner.Owner.TheVariants as owner
use Rattle.brd_blocks.specs.declared.footprint.Access.{Access}
use Rattle.brd_blocks.specs.Owning.{Known, is_shared, owner_of, may_store, may_touch, owner_at, sharing_of}
use Rattle.brd_blocks.specs.Footprint.{access_of}
use Rattle.brd_blocks.specs.Looking.{may_touch_both, may_store_both, are_private, access_keeps, access_hides, keeps_by, hides_by}
use Rattle.brd_blocks.proofs.TouchLemmas.{touched, storing, ends-touched, fetch-touched}
use Rattle.brd_blocks.proofs.OwnLemmas.{and-left, and-right, of-both, may-own, may-alone}

pub not-true : (x : Bool) → not x ≡ true → x ≡ false
not-true true is = absurd (false≢true is)
not-true false is = refl

-- Keeping to who may touch what.

store-then : (stores one two : Bool) → stores ≡ true → (if stores then one else two) ≡ true → one ≡ true
store-then true one two stores is = is
store-then false one two stores is = absurd (false≢true stores)

-- who may store may touch
store-touch : (me it : Owner) → may_store me it ≡ true → may_touch me it ≡ true
store-touch me owner.Nobody is = refl
store-touch me (owner.Task id) is = is
store-touch me (owner.Handler cpu) is = is
store-touch me owner.Shared is = is

access-touch : (stores : Bool) (owners : List Owner) (me : Owner) (first last address : ℕ) →
    (if stores then may_store_both owners me first last else may_touch_both owners me first last) ≡ true →
    first ≤ address → address ≤ last → last ≤ first + 3 → may_touch me (owner_at owners address) ≡ true
access-touch true owners me first last address is from to short =
    store-touch me (owner_at owners address) (of-both (may_store me) owners first last address is from to short)
access-touch false owners me first last address is from to short =
    of-both (may_touch me) owners first last address is from to short

-- what is touched may be
may-touch : (owners : List Owner) (me : Owner) (s : State) (memory : Memory) (address : ℕ) →
    keeps_by owners me s.pc (access_of s memory) ≡ true → touches s memory address ≡ true → may_touch me (owner_at owners address) ≡ true
may-touch owners me s memory address keeps is =
    let access : Option Access = access_of s memory in
    elim (touched s memory address is) [
      | inl fetch ↦
          of-both (may_touch me) owners s.pc (s.pc + 3) address
          (and-left (may_touch_both owners me s.pc (s.pc + 3)) (access_keeps owners me access) keeps) fetch.0 fetch.1 (omega arith)
      | inr takes ↦
          access-touch (does_store takes.it.transfer) owners me takes.it.first takes.it.last address
          (subst (λ (x : Option Access). access_keeps owners me x ≡ true) takes.is
          (and-right (may_touch_both owners me s.pc (s.pc + 3)) (access_keeps owners me access) keeps))
          takes.from takes.to takes.short
    ]

-- what is stored to may be
may-store : (owners : List Owner) (me : Owner) (s : State) (memory : Memory) (address : ℕ) →
    keeps_by owners me s.pc (access_of s memory) ≡ true → stores s memory address ≡ true → may_store me (owner_at owners address) ≡ true
may-store owners me s memory address keeps is =
    let access : Option Access = access_of s memory in
    let both = storing s memory address is in
    let it : Access = both.0.it in
    of-both (may_store me) owners it.first it.last address
    (store-then (does_store it.transfer) (may_store_both owners me it.first it.last) (may_touch_both owners me it.first it.last)
    (both.1 it both.0.is)
    (subst (λ (x : Option Access). access_keeps owners me x ≡ true) both.0.is
    (and-right (may_touch_both owners me s.pc (s.pc + 3)) (access_keeps owners me access) keeps)))
    both.0.from both.0.to both.0.short

pub keeps-so : (known : Known) (b : BoardState) (who : Agent) (s : State) → context_in b.kernel who ≡ s →
    keeps_by known.owners (owner_of who) s.pc (access_of s b.memory) ≡ true → Keeps (sharing_of known) b who
keeps-so known b who s same keeps =
    let owners : List Owner = known.owners in
    let kept : keeps_by owners (owner_of who) (context_in b.kernel who).pc (access_of (context_in b.kernel who) b.memory) ≡ true =
    subst (λ c. keeps_by owners (owner_of who) c.pc (access_of c b.memory) ≡ true) (sym same) keeps in
    record {
      owns = λ address stored private.
          may-own who (owner_at owners address) (may-store owners (owner_of who) (context_in b.kernel who) b.memory address kept stored) private;
      alone = λ address touch private.
          may-alone who (owner_at owners address) (may-touch owners (owner_of who) (context_in b.kernel who) b.memory address kept touch) private;
    }

-- Touching nothing that is shared.

abbrev Private : Owner → Bool
Private it = not (is_shared it)

pub hidden-apart : (owners : List Owner) (s : State) (memory : Memory) (address : ℕ) →
    hides_by owners s.pc (access_of s memory) ≡ true → touches s memory address ≡ true → is_shared (owner_at owners address) ≡ false
hidden-apart owners s memory address hides is =
    let access : Option Access = access_of s memory in
    not-true (is_shared (owner_at owners address)) (
    elim (touched s memory address is) [
      | inl fetch ↦
          of-both Private owners s.pc (s.pc + 3) address
          (and-left (are_private owners s.pc (s.pc + 3)) (access_hides owners access) hides) fetch.0 fetch.1 (omega arith)
      | inr takes ↦
          of-both Private owners takes.it.first takes.it.last address
          (and-right (not (is_linked takes.it.transfer)) (are_private owners takes.it.first takes.it.last)
          (subst (λ (x : Option Access). access_hides owners x ≡ true) takes.is
          (and-right (are_private owners s.pc (s.pc + 3)) (access_hides owners access) hides)))
          takes.from takes.to takes.short
    ])

-- and being no LL and no SC
pub hidden-plain : (owners : List Owner) (s : State) (memory : Memory) → hides_by owners s.pc (access_of s memory) ≡ true →
    (it : Access) → access_of s memory ≡ Some it → is_linked it.transfer ≡ false
hidden-plain owners s memory hides it is =
    not-true (is_linked it.transfer)
    (and-left (not (is_linked it.transfer)) (are_private owners it.first it.last)
    (subst (λ (x : Option Access). access_hides owners x ≡ true) is
    (and-right (are_private owners s.pc (s.pc + 3)) (access_hides owners (access_of s memory)) hides)))

-- Where it isn't so, something that is shared is touched, or it is an LL or an SC.

pub record Shows (owners : List Owner) (s : State) (memory : Memory) : Type 0 where
  pub address : ℕ
  pub touched : touches s memory address ≡ true
  pub shared : is_shared (owner_at owners address) ≡ true

pub record Links (access : Option Access) : Type 0 where
  pub it : Access
  pub is : access ≡ Some it
  pub linked : is_linked it.transfer ≡ true

and-false : (x y : Bool) → (x && y) ≡ false → (x ≡ false) ⊎ (y ≡ false)
and-false true y is = inr is
and-false false y is = inl refl

not-false : (x : Bool) → not x ≡ false → x ≡ true
not-false true is = refl
not-false false is = absurd (false≢true (sym is))

public : (owners : List Owner) (s : State) (memory : Memory) (first last : ℕ) → touches s memory first ≡ true →
    touches s memory last ≡ true → are_private owners first last ≡ false → Shows owners s memory
public owners s memory first last one other is =
    elim (and-false (Private (owner_at owners first)) (Private (owner_at owners last)) is) [
      | inl shared ↦ record { address = first; touched = one; shared = not-false (is_shared (owner_at owners first)) shared }
      | inr shared ↦ record { address = last; touched = other; shared = not-false (is_shared (owner_at owners last)) shared }
    ]

access-shown : (owners : List Owner) (s : State) (memory : Memory) (access : Option Access) → access_of s memory ≡ access →
    access_hides owners access ≡ false → Shows owners s memory ⊎ Links access
access-shown owners s memory None same is = absurd (false≢true (sym is))
access-shown owners s memory (Some it) same is =
    elim (and-false (not (is_linked it.transfer)) (are_private owners it.first it.last) is) [
      | inl linked ↦ inr (record { it = it; is = refl; linked = not-false (is_linked it.transfer) linked })
      | inr shared ↦
          let ends = ends-touched s memory it same in
          inl (public owners s memory it.first it.last ends.0 ends.1 shared)
    ]

pub shown : (owners : List Owner) (s : State) (memory : Memory) → hides_by owners s.pc (access_of s memory) ≡ false →
    Shows owners s memory ⊎ Links (access_of s memory)
shown owners s memory is =
    let access : Option Access = access_of s memory in
    elim (and-false (are_private owners s.pc (s.pc + 3)) (access_hides owners access) is) [
      | inl fetch ↦
          let both = fetch-touched s memory in
          inl (public owners s memory s.pc (s.pc + 3) both.0 both.1 fetch)
      | inr shows ↦ access-shown owners s memory access refl shows
    ]
