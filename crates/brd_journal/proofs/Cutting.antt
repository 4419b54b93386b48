-- The runs of a list of events stand for it, and are cut as runs are.
use Rattle.std.proofs.Common.{◌≡◌, ℕ, zero, suc, ◌+◌, ◌*◌, ◌/◌, ◌%◌, ◌≤◌, true, List, [], ◌∷◌, ◌++◌, replicate, refl, sym, ap, ◌∙◌, inl, inr, arith}
use Rattle.std.specs.Prelude.{Some}
use Rattle.std.specs.List.{flat_map}
use Rattle.std.proofs.lemmas.Bool.{cases_Bool}
use Rattle.std.proofs.lemmas.List.{append_assoc, append-nil}
use Rattle.brd_board.specs.declared.event.Event.{Event}
use Rattle.brd_journal.specs.declared.run.Run.{Run}
use Rattle.brd_journal.specs.Runs.{most_count, copies, events_of, same_event, with_first, stretches_of, run_of_count, cut, runs_of, first_event, AreCut}
use Rattle.brd_journal.proofs.EventLemmas.{run_of, same_is, same-self, copies-add, copies-zero, copies-one, copies-next, events-append}
use Rattle.brd_journal.proofs.OneList.{one_list}

-- stretches: each has events, and the next has another event
abbrev AreApart : List Run → Type 0
AreApart [] = Unit {0}
AreApart (s ∷ ss) = (1 ≤ s.count) × (first_event ss ≡ Some s.event → ⊥) × AreApart ss

apart-with_first : (e : Event) (ss : List Run) → AreApart ss → AreApart (with_first e ss)
apart-with_first e [] h = (omega arith, (λ p. cc), tt)
apart-with_first e (s ∷ ss) h =
    elim (cases_Bool (same_event e s.event)) [
      | inl same ↦ rw same (omega arith, (λ p. h.1 (p ∙ ap Some (same_is e s.event same))), h.2)
      | inr other ↦ rw other (omega arith, (λ p. let q : s.event ≡ e = cc in let t : same_event e s.event ≡ true = rw q (same-self e) in cc), h)
    ]

events-with_first : (e : Event) (ss : List Run) → events_of (with_first e ss) ≡ e ∷ events_of ss
events-with_first e [] = rw (copies-one e) refl
events-with_first e (s ∷ ss) =
    elim (cases_Bool (same_event e s.event)) [
      | inl same ↦ rw (same, copies-next, same_is e s.event same) refl
      | inr other ↦ rw (other, copies-one) refl
    ]

stretches_apart : (es : List Event) → AreApart (stretches_of es)
stretches_apart [] = tt
stretches_apart (e ∷ es) = apart-with_first e (stretches_of es) (stretches_apart es)

stretches_events : (es : List Event) → events_of (stretches_of es) ≡ es
stretches_events [] = refl
stretches_events (e ∷ es) = events-with_first e (stretches_of es) ∙ ap (λ (xs : List Event). e ∷ xs) (stretches_events es)

-- ---- one stretch

pub events-run_of_count : (e : Event) (n : ℕ) → events_of (run_of_count e n) ≡ copies e n
events-run_of_count e zero = sym (copies-zero e)
events-run_of_count e (suc n) = append-nil _

events-pieces : (e : Event) (m q r : ℕ) → events_of (replicate q (run_of e m) ++ run_of_count e r) ≡ copies e (q * m + r)
events-pieces e m zero r = events-run_of_count e r ∙ ap (copies e) (omega arith)
events-pieces e m (suc q) r =
    let sum : suc q * m + r ≡ m + (q * m + r) = omega arith in
    rw (events-pieces e m q r, sum, copies-add e m (q * m + r)) refl

divided : (n m : ℕ) → 1 ≤ m → (n / m) * m + n % m ≡ n
divided n m h = omega arith

events-cut : (s : Run) → events_of (cut s) ≡ copies s.event s.count
events-cut s = events-pieces s.event most_count (s.count / most_count) (s.count % most_count) ∙ ap (copies s.event) (divided s.count most_count (omega arith))

events-cut_all : (ss : List Run) → events_of (flat_map cut ss) ≡ events_of ss
events-cut_all [] = refl
events-cut_all (s ∷ ss) = events-append (cut s) (flat_map cut ss) ∙ rw (events-cut s, events-cut_all ss) refl

pub runs_events : (es : List Event) → events_of (runs_of es) ≡ es
unfolding runs_of
runs_events es = events-cut_all (stretches_of es) ∙ stretches_events es

-- ---- cut as runs are

first-pieces : (e : Event) (m q r : ℕ) (rs : List Run) → 1 ≤ q * m + r → first_event ((replicate q (run_of e m) ++ run_of_count e r) ++ rs) ≡ Some e
first-pieces e m zero zero rs h = absurd (omega arith)
first-pieces e m zero (suc r) rs h = refl
first-pieces e m (suc q) r rs h = refl

first-cut_all : (s : Run) (ss : List Run) → 1 ≤ s.count → first_event (flat_map cut (s ∷ ss)) ≡ Some s.event
first-cut_all s ss h =
    let whole = divided s.count most_count (omega arith) in
    let some : 1 ≤ (s.count / most_count) * most_count + s.count % most_count = rw whole h in
    first-pieces s.event most_count (s.count / most_count) (s.count % most_count) (flat_map cut ss) some

cut-run_of_count : (e : Event) (n : ℕ) (rs : List Run) → n ≤ most_count → AreCut rs → (first_event rs ≡ Some e → ⊥) → AreCut (run_of_count e n ++ rs)
cut-run_of_count e zero rs small h other = h
cut-run_of_count e (suc n) rs small h other = (omega arith, small, (λ p. absurd (other p)), h)

cut-full : (e : Event) (q : ℕ) (rs : List Run) → AreCut rs → AreCut (replicate q (run_of e most_count) ++ rs)
cut-full e zero rs h = h
cut-full e (suc q) rs h = (omega arith, omega arith, (λ p. refl), cut-full e q rs h)

other_first : (s : Run) (ss : List Run) → AreApart (s ∷ ss) → first_event (flat_map cut ss) ≡ Some s.event → ⊥
other_first s [] h p = cc
other_first s (t ∷ ts) h p = h.1 (sym (first-cut_all t ts h.2.0) ∙ p)

cut_all : (ss : List Run) → AreApart ss → AreCut (flat_map cut ss)
cut_all [] h = tt
cut_all (s ∷ ss) h =
    let small : s.count % most_count ≤ most_count = omega arith in
    let rest = cut-run_of_count s.event (s.count % most_count) (flat_map cut ss) small (cut_all ss h.2) (other_first s ss h) in
    rw append_assoc (cut-full s.event (s.count / most_count) _ rest)

pub runs_cut : (es : List Event) → AreCut (runs_of es)
unfolding runs_of
runs_cut es = cut_all (stretches_of es) (stretches_apart es)

-- runs that are cut so are the runs of their events
pub runs_are : (rs : List Run) → AreCut rs → rs ≡ runs_of (events_of rs)
runs_are rs h = one_list rs (runs_of (events_of rs)) h (runs_cut (events_of rs)) (sym (runs_events (events_of rs)))
