-- What is left at a place that is ahead of another one.
use Rattle.std.proofs.Common.{◌≡◌, ℕ, suc, ◌+◌, ◌-◌, ◌<◌, ◌≤◌, inl, inr, Bool, true, false, refl, sym, ap, ◌∙◌, arith}
use Rattle.std.specs.Prelude.{◌==◌, ◌||◌, nat_lt, not, Option, Some, None}
use Rattle.std.proofs.lemmas.Bool.{cases_Bool, and_parts, and_from, lt-ltb, ltb-true, false≢true, eqb-true, eq-eqb}
use Rattle.brd_board.specs.declared.event.Event.{Event}
use Rattle.brd_board.specs.declared.event.Event.TheVariants.{Step, Tick, Raise}
use Rattle.brd_explore.specs.declared.bounds.Bounds.{Bounds}
use Rattle.brd_explore.specs.Schedules.{Place, IsRicher, preempts, one_if, affords, affords_one, spent, is_left, next}
use Rattle.brd_lazy.specs.Blocks.{left_by}
use Rattle.brd_lazy.specs.Trees.{differ, IsAhead}

-- Preemptions.

one-most : (x : Bool) → one_if x ≤ 1
one-most true = omega arith
one-most false = omega arith

between : (a b cpu : ℕ) → one_if (not (a == cpu)) ≤ one_if (not (a == b)) + one_if (not (b == cpu))
between a b cpu = elim (cases_Bool (a == b)) [
  | inl same ↦
      let one : one_if (not (a == cpu)) ≡ one_if (not (b == cpu)) = ap (λ n. one_if (not (n == cpu))) (eqb-true a b same) in
      omega (arith, one)
  | inr other ↦
      let one : one_if (not (a == b)) ≡ 1 = ap (λ x. one_if (not x)) other in
      omega (arith, one, one-most (not (a == cpu)))
]

-- a step preempts who has stepped last at one place only if it does at the other one, or they differ
pub preempts-between : (one other : Option ℕ) (cpu : ℕ) → one_if (preempts one cpu) ≤ one_if (differ one other) + one_if (preempts other cpu)
preempts-between None other cpu = omega arith
preempts-between (Some a) None cpu = omega (arith, one-most (not (a == cpu)))
preempts-between (Some a) (Some b) cpu = between a b cpu

pub differ-cpu : (one : Option ℕ) (cpu : ℕ) → differ one (Some cpu) ≡ preempts one cpu
differ-cpu None cpu = refl
differ-cpu (Some a) cpu = refl

pub differ-same : (one other : Option ℕ) → one ≡ other → one_if (differ one other) ≡ 0
differ-same None other is = refl
differ-same (Some a) None is = let wrong : ⊥ = cc in absurd wrong
differ-same (Some a) (Some b) is =
    let same : a ≡ b = cc in
    ap (λ x. one_if (not x)) (eq-eqb a b same)

-- What bounds afford, in numbers.

some-or : (n : ℕ) (x : Bool) → (nat_lt 0 n || not x) ≡ true → one_if x ≤ n
some-or n true is = elim (cases_Bool (nat_lt 0 n)) [
  | inl some ↦ omega (arith, ltb-true 0 n some)
  | inr none ↦ absurd (false≢true (sym (ap (λ t. t || false) none) ∙ is))
]
some-or n false is = omega arith

pub or-some : (n : ℕ) (x : Bool) → one_if x ≤ n → (nat_lt 0 n || not x) ≡ true
or-some n true some = ap (λ t. t || false) (lt-ltb 0 n (omega (arith, some)))
or-some n false some = elim (cases_Bool (nat_lt 0 n)) [
  | inl is ↦ ap (λ t. t || true) is
  | inr is ↦ ap (λ t. t || true) is
]

pub some-events : (p : Place) (event : Event) → is_left p event ≡ true → 0 < p.left.events
unfolding affords
some-events p event is = ltb-true 0 p.left.events (and_parts (nat_lt 0 p.left.events) (affords_one p.left p.last event) is).0

pub one-left : (p : Place) (event : Event) → is_left p event ≡ true → affords_one p.left p.last event ≡ true
unfolding affords
one-left p event is = (and_parts (nat_lt 0 p.left.events) (affords_one p.left p.last event) is).1

pub from-one : (p : Place) (event : Event) → 0 < p.left.events → affords_one p.left p.last event ≡ true → is_left p event ≡ true
unfolding affords
from-one p event some one =
    and_from (nat_lt 0 p.left.events) (affords_one p.left p.last event) (lt-ltb 0 p.left.events some) one

pub step-affords : (p : Place) (cpu : ℕ) → is_left p (Step cpu) ≡ true → one_if (preempts p.last cpu) ≤ p.left.preemptions
step-affords p cpu is = some-or p.left.preemptions (preempts p.last cpu) (one-left p (Step cpu) is)

-- A place that is ahead affords what the other one does.

more-left : (m n : ℕ) → m ≤ n → nat_lt 0 m ≡ true → nat_lt 0 n ≡ true
more-left m n on is = lt-ltb 0 n (omega (arith, on, ltb-true 0 m is))

ahead-one : (q p : Place) (more : ℕ) (event : Event) → IsAhead q p more → is_left p event ≡ true → affords_one q.left q.last event ≡ true
ahead-one q p more (Step cpu) ahead is =
    or-some q.left.preemptions (preempts q.last cpu)
    (omega (arith, preempts-between q.last p.last cpu, step-affords p cpu is, ahead.preemptions))
ahead-one q p more Tick ahead is = more-left p.left.ticks q.left.ticks ahead.ticks (one-left p Tick is)
ahead-one q p more (Raise line) ahead is = more-left p.left.raises q.left.raises ahead.raises (one-left p (Raise line) is)

pub ahead-left : (q p : Place) (more : ℕ) (event : Event) → IsAhead q p more → is_left p event ≡ true → is_left q event ≡ true
ahead-left q p more event ahead is =
    from-one q event (omega (arith, some-events p event is, ahead.events)) (ahead-one q p more event ahead is)

-- and more so one that covers it
pub ahead-richer : (z q p : Place) (more : ℕ) → IsRicher z q → IsAhead q p more → IsAhead z p more
ahead-richer z q p more rich ahead =
    let last : one_if (differ z.last p.last) ≡ one_if (differ q.last p.last) = ap (λ l. one_if (differ l p.last)) rich.last in
    record {
      events = omega (arith, ahead.events, rich.events);
      preemptions = omega (arith, ahead.preemptions, rich.preemptions, last);
      ticks = omega (arith, ahead.ticks, rich.ticks);
      raises = omega (arith, ahead.raises, rich.raises);
      owed = rich.owed ∙ ahead.owed;
    }

pub richer-ahead : (z p : Place) → IsRicher z p → IsAhead z p 0
richer-ahead z p rich =
    let last : one_if (differ z.last p.last) ≡ 0 = differ-same z.last p.last rich.last in
    record {
      events = omega (arith, rich.events);
      preemptions = omega (arith, rich.preemptions, last);
      ticks = rich.ticks;
      raises = rich.raises;
      owed = rich.owed;
    }

-- After an event at both.

pub ahead-tick : (q p : Place) (more : ℕ) → IsAhead q p more → is_left p Tick ≡ true → IsAhead (next q Tick) (next p Tick) more
unfolding spent
ahead-tick q p more ahead is = record {
  events = omega (arith, ahead.events, some-events p Tick is);
  preemptions = ahead.preemptions;
  ticks = omega (arith, ahead.ticks);
  raises = ahead.raises;
  owed = ahead.owed;
}

pub ahead-raise : (q p : Place) (line more : ℕ) → IsAhead q p more → is_left p (Raise line) ≡ true →
    IsAhead (next q (Raise line)) (next p (Raise line)) more
unfolding spent
ahead-raise q p line more ahead is = record {
  events = omega (arith, ahead.events, some-events p (Raise line) is);
  preemptions = ahead.preemptions;
  ticks = ahead.ticks;
  raises = omega (arith, ahead.raises);
  owed = ap (λ n. n - 1) ahead.owed;
}

-- After a step at one, and at the other so many steps that end where the same processor has stepped last.
pub ahead-steps : (q z p : Place) (cpu count more all : ℕ) → count + more ≡ all → IsAhead q p all → is_left p (Step cpu) ≡ true →
    z.left ≡ left_by q cpu (suc count) → z.last ≡ (next p (Step cpu)).last → IsAhead z (next p (Step cpu)) more
unfolding spent
ahead-steps q z p cpu count more all few ahead is left last =
    let events : z.left.events ≡ q.left.events - suc count = ap (λ (l : Bounds). l.events) left in
    let preemptions : z.left.preemptions ≡ q.left.preemptions - one_if (preempts q.last cpu) = ap (λ (l : Bounds). l.preemptions) left in
    let ticks : z.left.ticks ≡ q.left.ticks = ap (λ (l : Bounds). l.ticks) left in
    let raises : z.left.raises ≡ q.left.raises = ap (λ (l : Bounds). l.raises) left in
    let same : one_if (differ z.last (next p (Step cpu)).last) ≡ 0 = differ-same z.last (next p (Step cpu)).last last in
    record {
      events = omega (arith, events, few, ahead.events, some-events p (Step cpu) is);
      preemptions = omega (arith, preemptions, same, ahead.preemptions, preempts-between q.last p.last cpu, step-affords p cpu is);
      ticks = omega (arith, ticks, ahead.ticks);
      raises = omega (arith, raises, ahead.raises);
      owed = ap (λ (l : Bounds). l.owed) left ∙ ahead.owed;
    }

-- After a step at one alone, by which its processor is the one that has stepped last.
pub ahead-waits : (q p : Place) (cpu more : ℕ) → IsAhead q p more → is_left p (Step cpu) ≡ true → (next p (Step cpu)).last ≡ Some cpu →
    IsAhead q (next p (Step cpu)) (more + 1)
unfolding spent
ahead-waits q p cpu more ahead is last =
    let there : one_if (differ q.last (next p (Step cpu)).last) ≡ one_if (preempts q.last cpu) =
    ap (λ l. one_if (differ q.last l)) last ∙ ap one_if (differ-cpu q.last cpu) in
    record {
      events = omega (arith, ahead.events, some-events p (Step cpu) is);
      preemptions = omega (arith, there, ahead.preemptions, preempts-between q.last p.last cpu, step-affords p cpu is);
      ticks = ahead.ticks;
      raises = ahead.raises;
      owed = ahead.owed;
    }
