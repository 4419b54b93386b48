-- Places that differ only in what is left.
use Rattle.std.proofs.Common.{◌≡◌, ℕ, ◌-◌, ◌≤◌, List, [], ◌∷◌, refl, sym, ap, subst, ◌∙◌, arith, inl, inr}
use Rattle.std.specs.Prelude.{Bool, true, false, not, ◌&&◌, ◌||◌, nat_lt, ◌==◌}
use Rattle.std.proofs.lemmas.Bool.{cases_Bool, and_parts, and_from, lt-ltb, ltb-true}
use Rattle.brd_board.specs.declared.event.Event.{Event}
use Rattle.brd_board.specs.declared.event.Event.TheVariants.{Step, Tick, Raise}
use Rattle.brd_board.specs.Board.{BoardState, happens}
use Rattle.brd_explore.specs.declared.bounds.Bounds.{Bounds}
use Rattle.brd_explore.specs.declared.wanted.Wanted.{Wanted}
use Rattle.brd_explore.specs.Schedules.{Place, IsRicher, does, stepper, is_last, preempts, affords, affords_one, one_if, spent, is_left, next}
use Rattle.brd_explore.specs.Failures.{is_at_rest, is_end, is_cut, goes_fairly, lacks, fails_now, fails_fairly, fails_at}
use Rattle.brd_explore.specs.Sleeping.{Spot, next_spot, asleep_after, sleeps, executes, is_left_out}
use Rattle.brd_explore.specs.Searching.{FailsAt, Leads, LeadsAwake, NoneGoes}

preempts-same : (rich poor : Place) (cpu : ℕ) → IsRicher rich poor → preempts rich.last cpu ≡ preempts poor.last cpu
preempts-same rich poor cpu r = ap (λ last. preempts last cpu) r.last

pub or-second : (a b : Bool) → b ≡ true → (a || b) ≡ true
or-second true b is = refl
or-second false b is = is

some-more : (m n : ℕ) → m ≤ n → nat_lt 0 m ≡ true → nat_lt 0 n ≡ true
some-more m n on is = lt-ltb 0 n (omega (arith, on, ltb-true 0 m is))

pub or-more : (m n : ℕ) (x : Bool) → m ≤ n → (nat_lt 0 m || x) ≡ true → (nat_lt 0 n || x) ≡ true
or-more m n x on is = elim (cases_Bool (nat_lt 0 m)) [
  | inl some ↦ ap (λ t. t || x) (some-more m n on some)
  | inr none ↦ or-second (nat_lt 0 n) x (sym (ap (λ t. t || x) none) ∙ is)
]

rich-one : (rich poor : Place) (e : Event) → IsRicher rich poor → affords_one poor.left poor.last e ≡ true →
    affords_one rich.left rich.last e ≡ true
rich-one rich poor (Step cpu) r is =
    or-more poor.left.preemptions rich.left.preemptions (not (preempts rich.last cpu)) r.preemptions
    (ap (λ x. nat_lt 0 poor.left.preemptions || not x) (preempts-same rich poor cpu r) ∙ is)
rich-one rich poor Tick r is = some-more poor.left.ticks rich.left.ticks r.ticks is
rich-one rich poor (Raise line) r is = some-more poor.left.raises rich.left.raises r.raises is

pub rich-left : (rich poor : Place) (e : Event) → IsRicher rich poor → is_left poor e ≡ true → is_left rich e ≡ true
unfolding affords
rich-left rich poor e r is =
    let parts = and_parts (nat_lt 0 poor.left.events) (affords_one poor.left poor.last e) is in
    and_from (nat_lt 0 rich.left.events) (affords_one rich.left rich.last e) (some-more poor.left.events rich.left.events r.events parts.0)
    (rich-one rich poor e r parts.1)

pub rich-next : (rich poor : Place) (e : Event) → IsRicher rich poor → IsRicher (next rich e) (next poor e)
unfolding spent
rich-next rich poor (Step cpu) r = record {
  board = ap (λ b. (happens b (Step cpu)).board) r.board;
  last = λ i. stepper (happens (r.board i) (Step cpu)).board (r.last i) (Step cpu);
  events = omega (arith, r.events);
  preemptions = omega (arith, r.preemptions, ap one_if (preempts-same rich poor cpu r));
  ticks = r.ticks;
  raises = r.raises;
  owed = r.owed;
}
rich-next rich poor Tick r = record {
  board = ap (λ b. (happens b Tick).board) r.board;
  last = r.last;
  events = omega (arith, r.events);
  preemptions = r.preemptions;
  ticks = omega (arith, r.ticks);
  raises = r.raises;
  owed = r.owed;
}
rich-next rich poor (Raise line) r = record {
  board = ap (λ b. (happens b (Raise line)).board) r.board;
  last = r.last;
  events = omega (arith, r.events);
  preemptions = r.preemptions;
  ticks = r.ticks;
  raises = omega (arith, r.raises);
  owed = ap (λ n. n - 1) r.owed;
}

-- where a list leads from the place with more
pub rich-leads : (among : List Event) (rich poor to : Place) (es : List Event) → IsRicher rich poor → Leads among poor es to →
    (there : Place) × Leads among rich es there × IsRicher there to
rich-leads among rich poor to [] r leads = (rich, refl, subst (IsRicher rich) leads r)
rich-leads among rich poor to (e ∷ es) r leads =
    let rest = rich-leads among (next rich e) (next poor e) to es (rich-next rich poor e r) leads.3 in
    (rest.0, (leads.0, rich-left rich poor e r leads.1, ap (λ b. does b e) r.board ∙ leads.2, rest.1), rest.2)

-- what is left out doesn't depend on what is left

out-same : (wanted : Wanted) (rich poor : Spot) (e : Event) → IsRicher rich.place poor.place → rich.asleep ≡ poor.asleep →
    is_left_out wanted rich e ≡ is_left_out wanted poor e
unfolding is_left_out
out-same wanted rich poor (Step cpu) r asleep = λ i.
    sleeps (asleep i) cpu && not (is_last (r.last i) cpu) && executes (r.board i) cpu && wanted.rounds == 0
out-same wanted rich poor Tick r asleep = refl
out-same wanted rich poor (Raise line) r asleep = refl

rich-awake : (wanted : Wanted) (among : List Event) (rich poor : Spot) (to : Place) (es : List Event) → IsRicher rich.place poor.place → rich.asleep ≡ poor.asleep →
    LeadsAwake wanted among poor es to → (there : Place) × LeadsAwake wanted among rich es there × IsRicher there to
rich-awake wanted among rich poor to [] r asleep leads = (rich.place, refl, subst (IsRicher rich.place) leads r)
rich-awake wanted among rich poor to (e ∷ es) r asleep leads =
    let rest = rich-awake wanted among (next_spot rich e) (next_spot poor e) to es (rich-next rich.place poor.place e r)
    (λ i. asleep_after (r.board i) (asleep i) e) leads.4 in (
      rest.0,
      (
        leads.0,
        rich-left rich.place poor.place e r leads.1,
        ap (λ b. does b e) r.board ∙ leads.2,
        out-same wanted rich poor e r asleep ∙ leads.3,
        rest.1,
      ),
      rest.2,
    )

-- Where nothing goes on to a fair end, what fails depends on the board, and on the raises that are owed.

no-fair : (wanted : Wanted) (b : BoardState) (left : Bounds) → wanted.rounds ≡ 0 → goes_fairly wanted b left ≡ false
unfolding goes_fairly
no-fair wanted b left none = ap (λ n. nat_lt 0 n && left.owed == 0 && is_cut b left) none

fails-same : (wanted : Wanted) (a b : BoardState) (one other : Bounds) → wanted.rounds ≡ 0 → a ≡ b → one.owed ≡ other.owed →
    fails_at wanted a one ≡ fails_at wanted b other
unfolding fails_at is_end
fails-same wanted a b one other none board owed =
    ap (λ fair. fails_now wanted a || (is_end a one && lacks wanted a) || (fair && fails_fairly wanted a)) (no-fair wanted a one none)
    ∙ (λ i. fails_now wanted (board i)
    || (((board i).kernel.off || (owed i == 0 && is_at_rest (board i))) && lacks wanted (board i))
    || (false && fails_fairly wanted (board i)))
    ∙ sym (ap (λ fair. fails_now wanted b || (is_end b other && lacks wanted b) || (fair && fails_fairly wanted b)) (no-fair wanted b other none))

pub rich-fails : (wanted : Wanted) (rich poor : Place) → wanted.rounds ≡ 0 → IsRicher rich poor → FailsAt wanted poor → FailsAt wanted rich
rich-fails wanted rich poor none r fails = fails-same wanted rich.board poor.board rich.left poor.left none r.board r.owed ∙ fails

-- What was searched from a place answers for another one.
pub rich-none : (wanted : Wanted) (among : List Event) (rich poor : Spot) → wanted.rounds ≡ 0 → IsRicher rich.place poor.place →
    rich.asleep ≡ poor.asleep → NoneGoes wanted among rich → NoneGoes wanted among poor
rich-none wanted among rich poor zero' r asleep none es to leads fails =
    let there = rich-awake wanted among rich poor to es r asleep leads in
    none es there.0 there.1 (rich-fails wanted there.0 to zero' there.2 fails)
