-- Where a schedule fails, one does on which no step is left out.
use Rattle.std.proofs.Common.{◌≡◌, ℕ, zero, suc, ◌+◌, ◌-◌, ◌<◌, ◌≤◌, List, [], ◌∷◌, ◌++◌, length, refl, sym, ap, subst, ◌∙◌, arith, ◌⊎◌, inl, inr, length-append}
use Rattle.std.specs.Prelude.{Bool, true, false, not, ◌&&◌, ◌||◌, nat_lt, ◌==◌, Option, None, Some, if◌then◌else◌, is_some}
use Rattle.std.proofs.lemmas.Bool.{cases_Bool, false≢true, and_parts, and_from}
use Rattle.std.proofs.lemmas.Bool.Decides.{nat_tests}
use Rattle.std.proofs.lemmas.List.{append_assoc}
use Rattle.brd_board.specs.declared.event.Event.{Event}
use Rattle.brd_board.specs.declared.event.Event.TheVariants.{Step, Tick, Raise}
use Rattle.brd_board.specs.Board.{BoardState, happens, registers_of}
use Rattle.brd_explore.specs.declared.asleep.Asleep.{Asleep}
use Rattle.brd_explore.specs.declared.wanted.Wanted.{Wanted}
use Rattle.brd_explore.specs.Failures.{is_value}
use Rattle.brd_explore.specs.Schedules.{Place, IsRicher, does, stepper, is_last, preempts, affords, affords_one, one_if, spent, is_left, next, place_after, IsAmong, IsWithin}
use Rattle.brd_explore.specs.Sleeping.{has_run, are_apart, code_at, apart_from, is_kept, asleep_if, falls_asleep, asleep_after, Spot, awake, next_spot, sleeps, executes, is_left_out}
use Rattle.brd_explore.specs.Searching.{FailsAt, NoneFails, Leads, NoneGoes}
use Rattle.brd_explore.proofs.CommuteLemmas.{Sleeps, sleeps-steps, falls, sleeps-other, sleeps-alike, sleeper-executes, run-does}
use Rattle.brd_explore.proofs.LessLemmas.{left-after}
use Rattle.brd_explore.proofs.PathLemmas.{leads-on, leads-within, leads-after}
use Rattle.brd_explore.proofs.RichLemmas.{or-second, or-more, rich-leads, rich-fails}
use Rattle.brd_explore.proofs.SearchLemmas.{does-or, after-doing, after-nothing}

-- Only the events that do something matter.
really : (among : List Event) (p : Place) (es : List Event) → IsWithin among p es → (ds : List Event) × Leads among p ds (place_after p es)
really among p [] within = ([], refl)
really among p (e ∷ es) within = elim (does-or p.board e) [
  | inl did ↦
      let w = within.0 did in
      let rest = really among (next p e) es w.2 in
      (e ∷ rest.0, (w.0, w.1, did, subst (Leads among (next p e) rest.0) (sym (after-doing p e es did)) rest.1))
  | inr none ↦
      let rest = really among p es (within.1 none) in
      (rest.0, subst (Leads among p rest.0) (sym (after-nothing p e es none)) rest.1)
]

leads-both : (among : List Event) (p q to : Place) (es more : List Event) → Leads among p es q → Leads among q more to → Leads among p (es ++ more) to
leads-both among p q to [] more first second = subst (λ x. Leads among x more to) (sym first) second
leads-both among p q to (e ∷ es) more first second = (first.0, first.1, first.2, leads-both among (next p e) q to es more first.3 second)

-- How late a schedule switches: the sum of the places in the list at which another processor steps than before.

abbrev at_switch : Bool → ℕ → ℕ
at_switch true n = 0
at_switch false n = n

abbrev switches : ℕ → ℕ → List Event → ℕ
switches n last [] = 0
switches n last (Step cpu ∷ es) = at_switch (cpu == last) n + switches (suc n) cpu es
switches n last (Tick ∷ es) = switches (suc n) last es
switches n last (Raise line ∷ es) = switches (suc n) last es

-- all of them are steps of other processors
abbrev AreOthers : ℕ → List Event → Type 0
AreOthers x [] = Unit {0}
AreOthers x (Step cpu ∷ es) = (cpu ≡ x → ⊥) × AreOthers x es
AreOthers x (Tick ∷ es) = ⊥
AreOthers x (Raise line ∷ es) = ⊥

others-more : (x cpu : ℕ) (es : List Event) → AreOthers x es → (cpu ≡ x → ⊥) → AreOthers x (es ++ Step cpu ∷ [])
others-more x cpu [] all one = (one, tt)
others-more x cpu (Step other ∷ es) all one = (all.0, others-more x cpu es all.1 one)
others-more x cpu (Tick ∷ es) all one = absurd all
others-more x cpu (Raise line ∷ es) all one = absurd all

switch-earlier : (same : Bool) (n : ℕ) → at_switch same n ≤ at_switch same (suc n)
switch-earlier true n = omega arith
switch-earlier false n = omega arith

switch-most : (same : Bool) (n : ℕ) → at_switch same n ≤ n
switch-most true n = omega arith
switch-most false n = omega arith

switch-here : (a b n : ℕ) → (a ≡ b → ⊥) → at_switch (a == b) n ≡ n
switch-here a b n never = elim (cases_Bool (a == b)) [
  | inl same ↦ absurd (never (grind (arith, nat_tests, same)))
  | inr other ↦ ap (λ test. at_switch test n) other
]

no-switch : (a n : ℕ) → at_switch (a == a) n ≡ 0
no-switch a n = let same : (a == a) ≡ true = grind (arith, nat_tests) in ap (λ test. at_switch test n) same

-- a step less far back
sooner : (x : ℕ) (rest : List Event) (n last : ℕ) (qs : List Event) → (last ≡ x → ⊥) → AreOthers x qs →
    switches n last (qs ++ Step x ∷ Step x ∷ rest) < switches (suc n) last (qs ++ Step x ∷ rest)
sooner x rest n last [] never all =
    omega (arith, switch-here x last n (λ same. never (sym same)), switch-here x last (suc n) (λ same. never (sym same)), no-switch x (suc n))
sooner x rest n last (Step cpu ∷ qs) never all =
    omega (arith, switch-earlier (cpu == last) n, sooner x rest (suc n) cpu qs all.0 all.1)
sooner x rest n last (Tick ∷ qs) never all = absurd all
sooner x rest n last (Raise line ∷ qs) never all = absurd all

later-less : (x : ℕ) (rest : List Event) (n last : ℕ) (qs : List Event) → AreOthers x qs → 0 < length qs →
    switches n last (qs ++ Step x ∷ Step x ∷ rest) < switches (suc n) x (qs ++ Step x ∷ rest)
later-less x rest n last [] all some = absurd (omega (arith, some))
later-less x rest n last (Step cpu ∷ qs) all some =
    omega (arith, switch-most (cpu == last) n, switch-here cpu x (suc n) all.0, sooner x rest (suc n) cpu qs all.0 all.1)
later-less x rest n last (Tick ∷ qs) all some = absurd all
later-less x rest n last (Raise line ∷ qs) all some = absurd all

moved-less : (x : ℕ) (rest qs : List Event) (n last : ℕ) (pre : List Event) → AreOthers x qs → 0 < length qs →
    switches n last (pre ++ (qs ++ Step x ∷ Step x ∷ rest)) < switches n last ((pre ++ Step x ∷ qs) ++ Step x ∷ rest)
moved-less x rest qs n last [] all some = omega (arith, later-less x rest n last qs all some)
moved-less x rest qs n last (Step cpu ∷ pre) all some = omega (arith, moved-less x rest qs (suc n) cpu pre all some)
moved-less x rest qs n last (Tick ∷ pre) all some = moved-less x rest qs (suc n) last pre all some
moved-less x rest qs n last (Raise line ∷ pre) all some = moved-less x rest qs (suc n) last pre all some

-- How a processor has come to sleep at a place: by an instruction after which only other processors have stepped.
record Naps (among : List Event) (a : Asleep) (from here : Place) (done : List Event) : Type 0 where
  pre : List Event
  qs : List Event
  first : Place
  -- where the others come without that instruction
  other : Place
  split : done ≡ pre ++ Step a.cpu ∷ qs
  before : Leads among from pre first
  leads : Leads among first qs other
  all : AreOthers a.cpu qs
  sleeping : Sleeps a other.board here.board
  one : IsAmong among (Step a.cpu)
  events : other.left.events ≡ suc here.left.events
  ticks : other.left.ticks ≡ here.left.ticks
  raises : other.left.raises ≡ here.left.raises
  owed : other.left.owed ≡ here.left.owed
  preemptions : here.left.preemptions ≤ other.left.preemptions
  last : (here.last ≡ Some a.cpu) ⊎ ((here.last ≡ other.last) × (0 < length qs))

abbrev NapsIf : List Event → Place → Place → List Event → Option Asleep → Type 0
NapsIf among from here done None = Unit {0}
NapsIf among from here done (Some a) = Naps among a from here done

-- what is spent on a step

step-left : (p : Place) (cpu : ℕ) → 0 < p.left.events → (nat_lt 0 p.left.preemptions || not (preempts p.last cpu)) ≡ true → is_left p (Step cpu) ≡ true
unfolding affords
step-left p cpu some one =
    let more : nat_lt 0 p.left.events ≡ true = grind (arith, nat_tests, some) in
    and_from (nat_lt 0 p.left.events) (affords_one p.left p.last (Step cpu)) more one

left-step : (p : Place) (cpu : ℕ) → is_left p (Step cpu) ≡ true → (nat_lt 0 p.left.preemptions || not (preempts p.last cpu)) ≡ true
unfolding affords
left-step p cpu is = (and_parts (nat_lt 0 p.left.events) (affords_one p.left p.last (Step cpu)) is).1

spent-preemptions : (p : Place) (cpu : ℕ) → (next p (Step cpu)).left.preemptions ≡ p.left.preemptions - one_if (preempts p.last cpu)
unfolding spent
spent-preemptions p cpu = refl

spent-rest : (p : Place) (cpu : ℕ) → ((next p (Step cpu)).left.ticks ≡ p.left.ticks) × ((next p (Step cpu)).left.raises ≡ p.left.raises)
    × ((next p (Step cpu)).left.owed ≡ p.left.owed)
unfolding spent
spent-rest p cpu = (refl, refl, refl)

first-or : (a b : Bool) → (a || not true) ≡ true → (a || b) ≡ true
first-or true b is = refl
first-or false b is = absurd (false≢true is)

one-most : (b : Bool) → one_if b ≤ 1
one-most true = omega arith
one-most false = omega arith

-- a processor that sleeps is one that is preempted
sleeper-last : (a : Asleep) (before b : BoardState) (cpu : ℕ) (last : Option ℕ) → a.cpu ≡ cpu → Sleeps a before b → stepper b last (Step cpu) ≡ Some a.cpu
sleeper-last a before b cpu last same s =
    ap (λ x. if x then Some cpu else None) (subst (λ n. is_some (registers_of b n) ≡ true) same (sleeper-executes a before b s)) ∙ ap Some (sym same)

-- he falls asleep
naps-first : (among : List Event) (a : Asleep) (from here : Place) (done : List Event) (cpu : ℕ) → Leads among from done here →
    falls_asleep here.board cpu ≡ Some a → has_run (happens here.board (Step cpu)).report ≡ true → IsAmong among (Step cpu) → is_left here (Step cpu) ≡ true →
    Naps among a from (next here (Step cpu)) (done ++ Step cpu ∷ [])
naps-first among a from here done cpu led is run one left =
    let so = falls here.board cpu a is run in
    let rest = spent-rest here cpu in
    record {
      pre = done;
      qs = [];
      first = here;
      other = here;
      split = ap (λ n. done ++ Step n ∷ []) (sym so.0);
      before = led;
      leads = refl;
      all = tt;
      sleeping = so.1;
      one = subst (λ n. IsAmong among (Step n)) (sym so.0) one;
      events = left-after here (Step cpu) left;
      ticks = sym rest.0;
      raises = sym rest.1;
      owed = sym rest.2;
      preemptions = omega (arith, spent-preemptions here cpu);
      last = inl (sleeper-last a here.board (happens here.board (Step cpu)).board cpu here.last so.0 so.1);
    }

-- what a step of another processor takes at both places

preempts-other : (x cpu : ℕ) → (cpu ≡ x → ⊥) → preempts (Some x) cpu ≡ true
preempts-other x cpu never = elim (cases_Bool (x == cpu)) [
  | inl same ↦ absurd (never (grind (arith, nat_tests, same)))
  | inr other ↦ ap not other
]

-- so the other place has as many preemptions left for it, and after it
record Affords (here other : Place) (cpu : ℕ) : Type 0 where
  left : is_left other (Step cpu) ≡ true
  after : (next here (Step cpu)).left.preemptions ≤ (next other (Step cpu)).left.preemptions

affords-first : (a : Asleep) (here other : Place) (cpu : ℕ) → (cpu ≡ a.cpu → ⊥) → here.last ≡ Some a.cpu →
    0 < other.left.events → here.left.preemptions ≤ other.left.preemptions → is_left here (Step cpu) ≡ true → Affords here other cpu
affords-first a here other cpu never last some more left =
    let yes : preempts here.last cpu ≡ true = ap (λ n. preempts n cpu) last ∙ preempts-other a.cpu cpu never in
    let has : (nat_lt 0 here.left.preemptions || not true) ≡ true = ap (λ x. nat_lt 0 here.left.preemptions || not x) (sym yes) ∙ left-step here cpu left in
    record {
      left = step-left other cpu some (or-more here.left.preemptions other.left.preemptions (not (preempts other.last cpu)) more
          (first-or (nat_lt 0 here.left.preemptions) (not (preempts other.last cpu)) has));
      after = omega (arith, spent-preemptions here cpu, spent-preemptions other cpu, ap one_if yes, one-most (preempts other.last cpu), more);
    }

affords-next : (here other : Place) (cpu : ℕ) → here.last ≡ other.last → 0 < other.left.events →
    here.left.preemptions ≤ other.left.preemptions → is_left here (Step cpu) ≡ true → Affords here other cpu
affords-next here other cpu last some more left =
    let same : preempts here.last cpu ≡ preempts other.last cpu = ap (λ n. preempts n cpu) last in
    record {
      left = step-left other cpu some (or-more here.left.preemptions other.left.preemptions (not (preempts other.last cpu)) more
          (ap (λ x. nat_lt 0 here.left.preemptions || not x) (sym same) ∙ left-step here cpu left));
      after = omega (arith, spent-preemptions here cpu, spent-preemptions other cpu, ap one_if same, more);
    }

affords-step : (among : List Event) (a : Asleep) (from here : Place) (done : List Event) (cpu : ℕ) (n : Naps among a from here done) → (cpu ≡ a.cpu → ⊥) →
    is_left here (Step cpu) ≡ true → Affords here n.other cpu
affords-step among a from here done cpu n never left = elim n.last [
  | inl first ↦ affords-first a here n.other cpu never first (omega (arith, n.events)) n.preemptions left
  | inr later ↦ affords-next here n.other cpu later.0 (omega (arith, n.events)) n.preemptions left
]

-- he sleeps on
naps-on : (among : List Event) (a : Asleep) (from here : Place) (done : List Event) (cpu : ℕ) → Naps among a from here done → (cpu ≡ a.cpu → ⊥) →
    are_apart here.board a.cpu cpu ≡ true → has_run (happens here.board (Step cpu)).report ≡ true →
    code_at (happens here.board (Step cpu)).board a.address ≡ Some a.word → IsAmong among (Step cpu) → is_left here (Step cpu) ≡ true →
    Naps among a from (next here (Step cpu)) (done ++ Step cpu ∷ [])
naps-on among a from here done cpu n never apart run code one left =
    let both = sleeps-other a n.other.board here.board cpu n.sleeping never apart run code in
    let can = affords-step among a from here done cpu n never left in
    let rest = spent-rest here cpu in
    let others = spent-rest n.other cpu in
    record {
      pre = n.pre;
      qs = n.qs ++ Step cpu ∷ [];
      first = n.first;
      other = next n.other (Step cpu);
      split = ap (λ es. es ++ Step cpu ∷ []) n.split ∙ append_assoc n.pre (Step a.cpu ∷ n.qs) (Step cpu ∷ []);
      before = n.before;
      leads = leads-on among n.first n.qs n.other (Step cpu) n.leads one can.left (run-does n.other.board cpu both.0);
      all = others-more a.cpu cpu n.qs n.all never;
      sleeping = both.1;
      one = n.one;
      events = omega (arith, left-after here (Step cpu) left, left-after n.other (Step cpu) can.left, n.events);
      ticks = others.0 ∙ n.ticks ∙ sym rest.0;
      raises = others.1 ∙ n.raises ∙ sym rest.1;
      owed = others.2 ∙ n.owed ∙ sym rest.2;
      preemptions = can.after;
      last = inr (
        ap (λ x. if x then Some cpu else None)
            (sleeps-alike a (happens n.other.board (Step cpu)).board (happens here.board (Step cpu)).board cpu both.1),
        omega (arith, length-append n.qs (Step cpu ∷ [])),
      );
    }

-- who sleeps after an event

unequal : (m n : ℕ) → not (m == n) ≡ true → n ≡ m → ⊥
unequal m n is same = grind (arith, nat_tests, is, same)

the-value : (word : ℕ) (found : Option ℕ) → is_value word found ≡ true → found ≡ Some word
the-value word None is = absurd (false≢true is)
the-value word (Some other) is = let same : other ≡ word = grind (arith, nat_tests, is) in ap Some same

naps-if_apart : (among : List Event) (from here : Place) (done : List Event) (cpu : ℕ) (a : Asleep) (apart : Bool) →
    (not (a.cpu == cpu) && are_apart here.board a.cpu cpu) ≡ apart → Naps among a from here done → has_run (happens here.board (Step cpu)).report ≡ true →
    is_kept (happens here.board (Step cpu)).board (if apart then Some a else None) ≡ true → IsAmong among (Step cpu) → is_left here (Step cpu) ≡ true →
    NapsIf among from (next here (Step cpu)) (done ++ Step cpu ∷ []) (if apart then Some a else None)
naps-if_apart among from here done cpu a true is n run kept one left =
    let parts = and_parts (not (a.cpu == cpu)) (are_apart here.board a.cpu cpu) is in
    naps-on among a from here done cpu n (unequal a.cpu cpu parts.0) parts.1 run (the-value a.word _ kept) one left
naps-if_apart among from here done cpu a false is n run kept one left = tt

naps-was : (among : List Event) (from here : Place) (done : List Event) (cpu : ℕ) (asleep : Option Asleep) → NapsIf among from here done asleep →
    has_run (happens here.board (Step cpu)).report ≡ true →
    is_kept (happens here.board (Step cpu)).board (apart_from here.board cpu asleep) ≡ true → IsAmong among (Step cpu) → is_left here (Step cpu) ≡ true →
    NapsIf among from (next here (Step cpu)) (done ++ Step cpu ∷ []) (apart_from here.board cpu asleep)
naps-was among from here done cpu None n run kept one left = tt
naps-was among from here done cpu (Some a) n run kept one left =
    naps-if_apart among from here done cpu a (not (a.cpu == cpu) && are_apart here.board a.cpu cpu) refl n run kept one left

naps-falls : (among : List Event) (from here : Place) (done : List Event) (cpu : ℕ) (found : Option Asleep) → falls_asleep here.board cpu ≡ found →
    Leads among from done here → has_run (happens here.board (Step cpu)).report ≡ true → IsAmong among (Step cpu) → is_left here (Step cpu) ≡ true →
    NapsIf among from (next here (Step cpu)) (done ++ Step cpu ∷ []) found
naps-falls among from here done cpu None is led run one left = tt
naps-falls among from here done cpu (Some a) is led run one left = naps-first among a from here done cpu led is run one left

naps-step : (among : List Event) (from here : Place) (done : List Event) (cpu : ℕ) (asleep : Option Asleep) (run kept : Bool) →
    has_run (happens here.board (Step cpu)).report ≡ run →
    is_kept (happens here.board (Step cpu)).board (apart_from here.board cpu asleep) ≡ kept →
    Leads among from done here → NapsIf among from here done asleep → IsAmong among (Step cpu) → is_left here (Step cpu) ≡ true →
    NapsIf among from (next here (Step cpu)) (done ++ Step cpu ∷ [])
    (asleep_if run kept (apart_from here.board cpu asleep) (falls_asleep here.board cpu))
naps-step among from here done cpu asleep false kept run is led n one left = tt
naps-step among from here done cpu asleep true true run is led n one left = naps-was among from here done cpu asleep n run is one left
naps-step among from here done cpu asleep true false run is led n one left =
    naps-falls among from here done cpu (falls_asleep here.board cpu) refl led run one left

naps-next : (among : List Event) (from here : Place) (done : List Event) (e : Event) (asleep : Option Asleep) → Leads among from done here →
    NapsIf among from here done asleep → IsAmong among e → is_left here e ≡ true →
    NapsIf among from (next here e) (done ++ e ∷ []) (asleep_after here.board asleep e)
unfolding asleep_after
naps-next among from here done (Step cpu) asleep led n one left =
    naps-step among from here done cpu asleep (has_run (happens here.board (Step cpu)).report)
    (is_kept (happens here.board (Step cpu)).board (apart_from here.board cpu asleep)) refl refl led n one left
naps-next among from here done Tick asleep led n one left = tt
naps-next among from here done (Raise line) asleep led n one left = tt

-- A step that is left out: the schedule where he executes the instruction just before it.

-- another schedule that fails, which switches earlier
record Earlier (wanted : Wanted) (among : List Event) (from : Place) (es : List Event) : Type 0 where
  events : List Event
  to : Place
  less : switches 0 0 events < switches 0 0 es
  leads : Leads among from events to
  fails : FailsAt wanted to

-- to go on is free
self-step : (goes : Bool) (cpu : ℕ) → preempts (if goes then Some cpu else None) cpu ≡ false
self-step true cpu = let same : (cpu == cpu) ≡ true = grind (arith, nat_tests) in ap not same
self-step false cpu = refl

earlier : (wanted : Wanted) (among : List Event) (a : Asleep) (from here to : Place) (done rest : List Event) → wanted.rounds ≡ 0 →
    Naps among a from here done → (here.last ≡ Some a.cpu → ⊥) → is_left here (Step a.cpu) ≡ true →
    does here.board (Step a.cpu) ≡ true → Leads among (next here (Step a.cpu)) rest to → FailsAt wanted to →
    Earlier wanted among from (done ++ Step a.cpu ∷ rest)
earlier wanted among a from here to done rest zero' n never left did leads fails = elim n.last [
  | inl first ↦ absurd (never first)
  | inr later ↦
      let x = a.cpu in
      let can = affords-next here n.other x later.0 (omega (arith, n.events)) n.preemptions left in
      let steps = sleeps-steps a n.other.board here.board n.sleeping in
      let third : Place = next n.other (Step x) in
      let same : third.board ≡ here.board = steps.1 in
      let events : third.left.events ≡ here.left.events = omega (arith, left-after n.other (Step x) can.left, n.events) in
      let free : preempts third.last x ≡ false = self-step (is_some (registers_of third.board x)) x in
      let again : is_left third (Step x) ≡ true = step-left third x (omega (arith, events, left-after here (Step x) left))
      (or-second (nat_lt 0 third.left.preemptions) (not (preempts third.last x)) (ap not free)) in
      let one = spent-rest here x in
      let two = spent-rest n.other x in
      let three = spent-rest third x in
      let rich : IsRicher (next third (Step x)) (next here (Step x)) = record {
        board = ap (λ b. (happens b (Step x)).board) same;
        last = ap (λ b. stepper (happens b (Step x)).board None (Step x)) same;
        events = omega (arith, left-after third (Step x) again, left-after here (Step x) left, events);
        ticks = omega (arith, three.0, two.0, n.ticks, one.0);
        raises = omega (arith, three.1, two.1, n.raises, one.1);
        owed = three.2 ∙ two.2 ∙ n.owed ∙ sym one.2;
        preemptions = omega (arith, can.after, spent-preemptions third x, ap one_if free);
      } in
      let there = rich-leads among (next third (Step x)) (next here (Step x)) to rest rich leads in
      record {
        events = n.pre ++ (n.qs ++ Step x ∷ Step x ∷ rest);
        to = there.0;
        less = subst (λ es. switches 0 0 (n.pre ++ (n.qs ++ Step x ∷ Step x ∷ rest)) < switches 0 0 (es ++ Step x ∷ rest)) (sym n.split)
            (moved-less x rest n.qs 0 0 n.pre n.all later.1);
        leads = leads-both among from n.first there.0 n.pre (n.qs ++ Step x ∷ Step x ∷ rest) n.before
            (leads-both among n.first n.other there.0 n.qs (Step x ∷ Step x ∷ rest) n.leads
            (n.one, can.left, run-does n.other.board x steps.0, (n.one, again, ap (λ b. does b (Step x)) same ∙ did, there.1)));
        fails = rich-fails wanted there.0 to zero' there.2 fails;
      }
]

-- what of a step tells that it is left out
record LeftOut (wanted : Wanted) (spot : Spot) (cpu : ℕ) : Type 0 where
  asleep : sleeps spot.asleep cpu ≡ true
  last : not (is_last spot.place.last cpu) ≡ true
  rounds : wanted.rounds ≡ 0

left-out : (wanted : Wanted) (spot : Spot) (cpu : ℕ) → is_left_out wanted spot (Step cpu) ≡ true → LeftOut wanted spot cpu
unfolding is_left_out
left-out wanted spot cpu is =
    let two = and_parts (sleeps spot.asleep cpu && not (is_last spot.place.last cpu) && executes spot.place.board cpu) (wanted.rounds == 0) is in
    let three = and_parts (sleeps spot.asleep cpu && not (is_last spot.place.last cpu)) (executes spot.place.board cpu) two.0 in
    let four = and_parts (sleeps spot.asleep cpu) (not (is_last spot.place.last cpu)) three.0 in
    record {
      asleep = four.0;
      last = four.1;
      rounds = grind (arith, nat_tests, two.1);
    }

-- it isn't the one that is preempted
not-last : (last : Option ℕ) (x cpu : ℕ) → not (is_last last cpu) ≡ true → x ≡ cpu → last ≡ Some x → ⊥
not-last last x cpu isnt same is =
    let here : (x == cpu) ≡ true = grind (arith, nat_tests, same) in
    false≢true (sym (ap (λ l. not (is_last l cpu)) is ∙ ap not here) ∙ isnt)

out-asleep : (wanted : Wanted) (among : List Event) (from here to : Place) (asleep : Option Asleep) (done rest : List Event) (cpu : ℕ) →
    LeftOut wanted (record { place = here; asleep = asleep }) cpu → NapsIf among from here done asleep → is_left here (Step cpu) ≡ true →
    does here.board (Step cpu) ≡ true → Leads among (next here (Step cpu)) rest to → FailsAt wanted to →
    Earlier wanted among from (done ++ Step cpu ∷ rest)
out-asleep wanted among from here to None done rest cpu out n left did leads fails = absurd (false≢true out.asleep)
out-asleep wanted among from here to (Some a) done rest cpu out n left did leads fails =
    let is : a.cpu ≡ cpu = grind (arith, nat_tests, out.asleep) in
    subst (λ x. Earlier wanted among from (done ++ Step x ∷ rest)) is
    (earlier wanted among a from here to done rest out.rounds n (not-last here.last a.cpu cpu out.last is)
    (subst (λ x. is_left here (Step x) ≡ true) (sym is) left)
    (subst (λ x. does here.board (Step x) ≡ true) (sym is) did)
    (subst (λ x. Leads among (next here (Step x)) rest to) (sym is) leads) fails)

out-event : (wanted : Wanted) (among : List Event) (from to : Place) (spot : Spot) (done rest : List Event) (e : Event) → is_left_out wanted spot e ≡ true →
    NapsIf among from spot.place done spot.asleep → is_left spot.place e ≡ true → does spot.place.board e ≡ true →
    Leads among (next spot.place e) rest to → FailsAt wanted to → Earlier wanted among from (done ++ e ∷ rest)
unfolding is_left_out
out-event wanted among from to spot done rest (Step cpu) out n left did leads fails =
    out-asleep wanted among from spot.place to spot.asleep done rest cpu (left-out wanted spot cpu out) n left did leads fails
out-event wanted among from to spot done rest Tick out n left did leads fails = absurd (false≢true out)
out-event wanted among from to spot done rest (Raise line) out n left did leads fails = absurd (false≢true out)

-- along a schedule that fails, to its end or to a step that is left out
walk : (wanted : Wanted) (among : List Event) (from : Place) (n : ℕ) →
    ((es : List Event) (to : Place) → switches 0 0 es < n → Leads among from es to → FailsAt wanted to → ⊥) →
    (rest done : List Event) (spot : Spot) (to : Place) → Leads among from done spot.place → NapsIf among from spot.place done spot.asleep →
    switches 0 0 (done ++ rest) < suc n → Leads among spot.place rest to → FailsAt wanted to → NoneGoes wanted among spot → ⊥
walk wanted among from n others [] done spot to led naps less leads fails none = none [] to leads fails
walk wanted among from n others (e ∷ rest) done spot to led naps less leads fails none = elim (cases_Bool (is_left_out wanted spot e)) [
  | inl out ↦
      let found = out-event wanted among from to spot done rest e out naps leads.1 leads.2 leads.3 fails in
      others found.events found.to (omega (arith, found.less, less)) found.leads found.fails
  | inr tried ↦ walk wanted among from n others rest (done ++ e ∷ []) (next_spot spot e) to
      (leads-on among from done spot.place e led leads.0 leads.1 leads.2)
      (naps-next among from spot.place done e spot.asleep led naps leads.0 leads.1)
      (subst (λ es. switches 0 0 es < suc n) (sym (append_assoc done (e ∷ []) rest)) less)
      leads.3 fails
      (λ es there leads' fails'. none (e ∷ es) there (leads.0, leads.1, leads.2, tried, leads') fails')
]

none-at_all : (wanted : Wanted) (among : List Event) (from : Place) → NoneGoes wanted among (awake from) → (n : ℕ) (es : List Event) (to : Place) →
    switches 0 0 es < n → Leads among from es to → FailsAt wanted to → ⊥
none-at_all wanted among from none zero es to less leads fails = absurd (omega (arith, less))
none-at_all wanted among from none (suc n) es to less leads fails =
    walk wanted among from n (none-at_all wanted among from none n) es [] (awake from) to refl tt less leads fails none

pub none-awake : (wanted : Wanted) (among : List Event) (from : Place) → NoneGoes wanted among (awake from) → NoneFails wanted among from
none-awake wanted among from none events within fails =
    let real = really among from events within in
    none-at_all wanted among from none (suc (switches 0 0 real.0)) real.0 (place_after from events) (omega arith) real.1 fails

-- Where none fails with more left, none does with less.
pub larger : (wanted : Wanted) (among : List Event) (rich poor : Place) → wanted.rounds ≡ 0 → IsRicher rich poor →
    NoneFails wanted among rich → NoneFails wanted among poor
larger wanted among rich poor fair r none events within fails =
    let real = really among poor events within in
    let there = rich-leads among rich poor (place_after poor events) real.0 r real.1 in
    none real.0 (leads-within among rich real.0 there.0 there.1)
    (subst (FailsAt wanted) (sym (leads-after among rich real.0 there.0 there.1))
    (rich-fails wanted there.0 (place_after poor events) fair there.2 fails))
