-- The parts of a shard are the whole of it.
use Rattle.std.proofs.Common.{◌≡◌, ℕ, ◌+◌, ◌*◌, ◌/◌, ◌%◌, ◌<◌, List, [], ◌∷◌, sym, ap, ◌∙◌, arith, inl, inr}
use Rattle.std.proofs.Common.{subst, All, Contains, ◌++◌, option_map, IfOk}
use Rattle.std.proofs.lemmas.Bool.Decides.{nat_tests}
use Rattle.std.proofs.lemmas.List.Elements.{All-head, All-tail, All-append, All-contains}
use Rattle.std.specs.List.{list_any}
use Rattle.std.specs.Prelude.{◌==◌, true, Result, Ok}
use Rattle.brd_base.specs.declared.no_memory.NoMemory.{NoMemory}
use Rattle.brd_crew.specs.declared.crew.Share.{Share}
use Rattle.std.proofs.lemmas.List.Folds.{Any-from_list_any}
use Rattle.std.proofs.lemmas.Bool.{cases_Bool, false≢true}
use Rattle.std.proofs.Math.Arith.{mod-mul}
use Rattle.std.proofs.Math.Nat.{mod-lt}
use Rattle.brd_board.specs.declared.event.Event.{Event}
use Rattle.brd_explore.specs.declared.shard.Shard.{Shard}
use Rattle.brd_explore.specs.declared.wanted.Wanted.{Wanted}
use Rattle.brd_explore.specs.Schedules.{Place, next}
use Rattle.brd_explore.specs.Shards.{is_dealt, undealt, IsInShard, NoneFailsInShard}
use Rattle.brd_crew.specs.Parts.{part_of, HasSearched, NoneInPart}

-- a schedule is in a part
pub record IsInPart (shard : Shard) (parts least : ℕ) (p : Place) (events : List Event) : Type 0 where
  pub part : ℕ
  pub below : part < parts
  pub has : IsInShard (part_of shard parts part) least p events

-- a number that is dealt to the shard is dealt to one of its parts
pub part-of-number : (shard : Shard) (parts n : ℕ) → 0 < shard.of → 0 < parts → n % shard.of ≡ shard.number →
    n % (parts * shard.of) ≡ n / shard.of % parts * shard.of + shard.number
part-of-number shard parts n some parted is =
    mod-mul n {m = parts} {c = shard.of} parted some ∙ ap (λ rest. n / shard.of % parts * shard.of + rest) is

pub in-part : (shard : Shard) (parts least : ℕ) → 0 < shard.of → 0 < parts → (p : Place) (events : List Event) →
    IsInShard shard least p events → IsInPart shard parts least p events
in-part shard parts least some parted p [] ours = record { part = 0; below = parted; has = tt }
in-part shard parts least some parted p (e ∷ es) ours = elim (cases_Bool (is_dealt least (next p e).left)) [
  | inl dealt ↦
      let n = (next p e).left.events in
      record {
        part = n / shard.of % parts;
        below = mod-lt (n / shard.of) parted;
        has = (
          λ _. part-of-number shard parts n some parted (ours.0 dealt),
          λ not. absurd (false≢true (sym not ∙ dealt)),
        );
      }
  | inr not ↦
      let rest = in-part shard parts least some parted (next p e) es (ours.1 not) in
      record {
        part = rest.part;
        below = rest.below;
        has = (λ dealt. absurd (false≢true (sym not ∙ dealt)), λ _. rest.has);
      }
]

pub none-in-parts : (shard : Shard) (parts : ℕ) → 0 < shard.of → 0 < parts → (wanted : Wanted) (among : List Event) (p : Place) →
    ((part : ℕ) → part < parts → NoneInPart wanted shard parts among p part) → NoneFailsInShard wanted shard among p
none-in-parts shard parts some parted wanted among p none events to leads ours fails =
    let one = in-part shard parts (undealt p.left) some parted p events ours in
    none one.part one.below events to leads one.has fails

-- what a list is searched for, and found, is in it
pub found-in : (xs : List ℕ) (x : ℕ) → list_any (λ y. y == x) xs ≡ true → Contains xs x
found-in xs x is =
    let any = Any-from_list_any (λ y. y == x) xs is in
    let same : any.1 ≡ x = grind (arith, nat_tests, any.4) in
    subst (Contains xs) same (any.0, any.2, any.3)

-- what a thread has found is so, if it came to its end
abbrev pub IsSo : Wanted → Shard → ℕ → List Event → Place → Result Share NoMemory → Type 0
IsSo wanted shard parts among from found =
    IfOk found (λ share. HasSearched wanted shard parts among from (option_map (λ events. events.items) share.schedule) share.done)

-- one more thread's parts
pub joined-next : (wanted : Wanted) (shard : Shard) (parts : ℕ) (among : List Event) (from : Place)
    (items rest : List (Result Share NoMemory)) (found : Result Share NoMemory) (share : Share) (done new : List ℕ) →
    items ≡ found ∷ rest → found ≡ Ok share → new ≡ done ++ share.done → All (IsSo wanted shard parts among from) items →
    All (NoneInPart wanted shard parts among from) done →
    All (IsSo wanted shard parts among from) rest × All (NoneInPart wanted shard parts among from) new
joined-next wanted shard parts among from items rest found share done new is ok more each none =
    let whole = subst (All (IsSo wanted shard parts among from)) is each in
    let one = subst (IsSo wanted shard parts among from) ok (All-head (IsSo wanted shard parts among from) found rest whole) in (
      All-tail (IsSo wanted shard parts among from) found rest whole,
      subst (All (NoneInPart wanted shard parts among from)) (sym more)
          (All-append (NoneInPart wanted shard parts among from) done share.done none one.none),
    )

-- all parts are done
pub none-left : (shard : Shard) (parts : ℕ) → 0 < shard.of → 0 < parts → (wanted : Wanted) (among : List Event) (p : Place) (done : List ℕ) →
    ((part : ℕ) → part < parts → Contains done part) → All (NoneInPart wanted shard parts among p) done →
    NoneFailsInShard wanted shard among p
none-left shard parts some parted wanted among p done all none =
    none-in-parts shard parts some parted wanted among p
    (λ part below. All-contains (NoneInPart wanted shard parts among p) done part none (all part below))
