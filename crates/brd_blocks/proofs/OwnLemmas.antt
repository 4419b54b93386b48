-- Owners of words: addresses of one word have one owner.
use Rattle.std.proofs.Common.{◌≡◌, ◌⊎◌, ℕ, ◌+◌, ◌-◌, ◌/◌, ◌<◌, ◌≤◌, Bool, true, false, List, inl, inr, refl, sym, ap, subst, ◌∙◌, arith}
use Rattle.std.specs.Prelude.{◌&&◌, ◌||◌, nat_le, if◌then◌else◌, slice_index_or, Option, Some, IfSome}
use Rattle.std.proofs.lemmas.Bool.{false≢true, eqb-true, cases_lt}
use Rattle.std.proofs.lemmas.Bool.Decides.{nat_tests}
use Rattle.brd_base.specs.Space.{base}
use Rattle.brd_frames.specs.Agents as agents
use Rattle.brd_frames.specs.Agents.{Agent}
use Rattle.brd_blocks.specs.declared.owner.Owner.{Owner}
use Rattle.brd_blocks.specs.declared.owner.Owner.TheVariants as owner
use Rattle.brd_blocks.specs.Owning.{is_shared, agent_of, owner_of, is_own, may_store, may_touch, owner_at}

if-true : {X : Type 0} (test : Bool) (x y : X) → test ≡ true → (if test then x else y) ≡ x
if-true true x y is = refl
if-true false x y is = absurd (false≢true is)

if-false : {X : Type 0} (test : Bool) (x y : X) → test ≡ false → (if test then x else y) ≡ y
if-false true x y is = absurd (false≢true (sym is))
if-false false x y is = refl

-- an address within or before RAM
pub inside : (owners : List Owner) (address : ℕ) → base ≤ address →
    owner_at owners address ≡ slice_index_or owners ((address - base) / 4) owner.Shared
inside owners address from =
    if-true (nat_le base address) (slice_index_or owners ((address - base) / 4) owner.Shared) owner.Shared (grind (arith, nat_tests, from))

pub outside : (owners : List Owner) (address : ℕ) → address < base → owner_at owners address ≡ owner.Shared
outside owners address below =
    if-false (nat_le base address) (slice_index_or owners ((address - base) / 4) owner.Shared) owner.Shared (grind (arith, nat_tests, below))

same-inside : (owners : List Owner) (one other : ℕ) → base ≤ one → base ≤ other → (one - base) / 4 ≡ (other - base) / 4 →
    owner_at owners one ≡ owner_at owners other
same-inside owners one other from too same =
    inside owners one from ∙ ap (λ place. slice_index_or owners place owner.Shared) same ∙ sym (inside owners other too)

-- of at most four addresses in a row each has the owner of the first or of the last
abbrev pub IsOfEnd : List Owner → ℕ → ℕ → ℕ → Type 0
IsOfEnd owners first last address = (owner_at owners address ≡ owner_at owners first) ⊎ (owner_at owners address ≡ owner_at owners last)

near : (at first last : ℕ) → first ≤ at → at ≤ last → last ≤ first + 3 → (at / 4 ≡ first / 4) ⊎ (at / 4 ≡ last / 4)
near at first last from to short =
    elim (cases_lt (first / 4) (at / 4)) [
      | inl more ↦ inr (omega (arith, more, to, short))
      | inr less ↦ inl (omega (arith, less, from))
    ]

end-inside : (owners : List Owner) (first last address : ℕ) → base ≤ first → first ≤ address → address ≤ last → last ≤ first + 3 →
    IsOfEnd owners first last address
end-inside owners first last address ram from to short =
    elim (near (address - base) (first - base) (last - base) (omega (arith, from)) (omega (arith, to)) (omega (arith, short, ram))) [
      | inl same ↦ inl (same-inside owners address first (omega (arith, ram, from)) ram same)
      | inr same ↦ inr (same-inside owners address last (omega (arith, ram, from)) (omega (arith, ram, from, to)) same)
    ]

end-across : (owners : List Owner) (first last address : ℕ) → first < base → first ≤ address → address ≤ last → last ≤ first + 3 →
    IsOfEnd owners first last address
end-across owners first last address ram from to short =
    elim (cases_lt address base) [
      | inl below ↦ inl (outside owners address below ∙ sym (outside owners first ram))
      | inr above ↦
          inr (same-inside owners address last above (omega (arith, above, to)) (omega (arith, above, ram, to, short)))
    ]

pub of-end : (owners : List Owner) (first last address : ℕ) → first ≤ address → address ≤ last → last ≤ first + 3 →
    IsOfEnd owners first last address
of-end owners first last address from to short =
    elim (cases_lt first base) [
      | inl below ↦ end-across owners first last address below from to short
      | inr above ↦ end-inside owners first last address above from to short
    ]

pub and-left : (x y : Bool) → (x && y) ≡ true → x ≡ true
and-left true y is = refl
and-left false y is = absurd (false≢true is)

pub and-right : (x y : Bool) → (x && y) ≡ true → y ≡ true
and-right true y is = is
and-right false y is = absurd (false≢true is)

-- so a test of both holds of each
pub of-both : (test : Owner → Bool) (owners : List Owner) (first last address : ℕ) →
    (test (owner_at owners first) && test (owner_at owners last)) ≡ true → first ≤ address → address ≤ last → last ≤ first + 3 →
    test (owner_at owners address) ≡ true
of-both test owners first last address both from to short =
    elim (of-end owners first last address from to short) [
      | inl same ↦ ap test same ∙ and-left (test (owner_at owners first)) (test (owner_at owners last)) both
      | inr same ↦ ap test same ∙ and-right (test (owner_at owners first)) (test (owner_at owners last)) both
    ]

-- Of an agent's own words the agent is the owner.

own-agent : (who : Agent) (it : Owner) → is_own (owner_of who) it ≡ true → agent_of it ≡ Some who
own-agent (agents.Task id) (owner.Task other) is = ap (λ n. Some (agents.Task n)) (sym (eqb-true id other is))
own-agent (agents.Task id) (owner.Handler other) is = absurd (false≢true is)
own-agent (agents.Task id) owner.Nobody is = absurd (false≢true is)
own-agent (agents.Task id) owner.Shared is = absurd (false≢true is)
own-agent (agents.Handler cpu) (owner.Task other) is = absurd (false≢true is)
own-agent (agents.Handler cpu) (owner.Handler other) is = ap (λ n. Some (agents.Handler n)) (sym (eqb-true cpu other is))
own-agent (agents.Handler cpu) owner.Nobody is = absurd (false≢true is)
own-agent (agents.Handler cpu) owner.Shared is = absurd (false≢true is)

or-false : (x y : Bool) → x ≡ false → (x || y) ≡ true → y ≡ true
or-false true y none is = absurd (false≢true (sym none))
or-false false y none is = is

-- who may store to a word that isn't shared owns it
pub may-own : (who : Agent) (it : Owner) → may_store (owner_of who) it ≡ true → is_shared it ≡ false → agent_of it ≡ Some who
may-own who it may private = own-agent who it (or-false (is_shared it) (is_own (owner_of who) it) private may)

-- and where someone may touch one, nobody else owns it

only-own : (who : Agent) (it : Owner) → may_store (owner_of who) it ≡ true → is_shared it ≡ false →
    IfSome (agent_of it) (λ other. other ≡ who)
only-own who it may private = subst (λ (by : Option Agent). IfSome by (λ other. other ≡ who)) (sym (may-own who it may private)) refl

pub may-alone : (who : Agent) (it : Owner) → may_touch (owner_of who) it ≡ true → is_shared it ≡ false →
    IfSome (agent_of it) (λ other. other ≡ who)
may-alone who owner.Nobody may private = tt
may-alone who (owner.Task id) may private = only-own who (owner.Task id) may private
may-alone who (owner.Handler cpu) may private = only-own who (owner.Handler cpu) may private
may-alone who owner.Shared may private = absurd (false≢true (sym private))
