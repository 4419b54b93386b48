-- What is left of a run after n events.
use Rattle.std.proofs.Common.{◌≡◌, ℕ, zero, suc, ◌+◌, ◌-◌, ◌≤◌, ◌<◌, List, [], ◌∷◌, ◌++◌, length, get_or, take, drop, refl, sym, ap, subst, ◌∙◌, inl, inr, arith}
use Rattle.std.specs.Prelude.{Option, Some, None, IfSome, slice_get}
use Rattle.std.proofs.lemmas.Bool.{cases_lt}
use Rattle.std.proofs.lemmas.List.{drop_more, take_all, take-append-drop}
use Rattle.brd_board.specs.declared.event.Event.{Event}
use Rattle.brd_journal.specs.declared.run.Run.{Run}
use Rattle.brd_journal.specs.Runs.{copies, events_of, runs_of, AreCut, starts_of, IsRestOfRun, IsRest, ComesBehind}
use Rattle.brd_journal.proofs.EventLemmas.{copies-suc, copies-zero, events-append}
use Rattle.brd_journal.proofs.Cutting.{runs_events, runs_are}
use Rattle.brd_journal.proofs.StartLemmas.{start_at, length-starts, one_more_run}

-- after fewer events than a run has
among : (e : Event) (c n : ℕ) (es : List Event) → n ≤ c → drop n (copies e c ++ es) ≡ copies e (c - n) ++ es
among e c zero es h = let all : c - 0 ≡ c = omega arith in rw (all) refl
among e zero (suc n) es h = absurd (omega (arith, h))
among e (suc c) (suc n) es h = let less : suc c - suc n ≡ c - n = omega arith in rw (copies-suc e c, less) (among e c n es (omega (arith, h)))

-- ---- the rest of a run that is found

-- a run of which some is left there
pub rest_there : (runs : List Run) (others i start : ℕ) (run : Run) → AreCut runs → i < length runs → run ≡ get_or runs i run → start ≡ get_or (starts_of runs) i start
    → start ≤ others → others - start < run.count → IsRest (events_of runs) others (Some (record { event = run.event; count = run.count - (others - start) }))
rest_there runs others i start run cut within is from begun left =
    let here : start ≡ length (events_of (take i runs)) = omega (arith, from, start_at 0 runs i start within) in
    record {
      before = take i runs;
      run = run;
      behind = drop (i + 1) runs;
      among = sym (runs_are runs cut) ∙ sym (take-append-drop i runs)
          ∙ ap (λ (rs : List Run). take i runs ++ rs) (drop_more runs i run within ∙ ap (λ (r : Run). r ∷ drop (i + 1) runs) (sym is));
      begun = omega (arith, here, begun);
      unended = omega (arith, here, begun, left);
      event = refl;
      ends = omega (arith, here, begun, left);
    }

some_of : (runs : List Run) (i : ℕ) (d : Run) → AreCut runs → i < length runs → 1 ≤ (get_or runs i d).count
some_of [] i d cut within = absurd (omega (arith, within))
some_of (r ∷ rs) zero d cut within = cut.0
some_of (r ∷ rs) (suc i) d cut within = some_of rs i d cut.3 (omega (arith, within))

-- a run that begins there
pub rest_from : (runs : List Run) (others i : ℕ) (run : Run) → AreCut runs → i < length runs → run ≡ get_or runs i run → others ≡ get_or (starts_of runs) i others → IsRest (events_of runs) others (Some run)
rest_from runs others i run cut within is from =
    let here : others ≡ length (events_of (take i runs)) = omega (arith, from, start_at 0 runs i others within) in
    let count : run.count ≡ (get_or runs i run).count = ap (λ (r : Run). r.count) is in
    record {
      before = take i runs;
      run = run;
      behind = drop (i + 1) runs;
      among = sym (runs_are runs cut) ∙ sym (take-append-drop i runs)
          ∙ ap (λ (rs : List Run). take i runs ++ rs) (drop_more runs i run within ∙ ap (λ (r : Run). r ∷ drop (i + 1) runs) (sym is));
      begun = omega (arith, here);
      unended = omega (arith, here, count, some_of runs i run cut within);
      event = refl;
      ends = omega (arith, here);
    }

-- no run begins at the first event or before
pub none_begun : (runs : List Run) (others : ℕ) → ((k d : ℕ) → 0 ≤ k → k < length (starts_of runs) → others < get_or (starts_of runs) k d) → length (events_of runs) ≤ others
none_begun [] others later = omega arith
none_begun (r ∷ rs) others later = absurd (omega (arith, later 0 0 (omega arith) (omega arith)))

-- a run that has begun has ended
pub run_ended : (runs : List Run) (others i start : ℕ) (run : Run) → i < length runs → run ≡ get_or runs i run → start ≡ get_or (starts_of runs) i start
    → start ≤ others → run.count ≤ others - start → length (events_of (take (i + 1) runs)) ≤ others
run_ended runs others i start run within is from begun ended =
    let here : start ≡ length (events_of (take i runs)) = omega (arith, from, start_at 0 runs i start within) in
    let count : run.count ≡ (get_or runs i run).count = ap (λ (r : Run). r.count) is in
    omega (arith, one_more_run runs i run within, here, count, begun, ended)

-- the last run that has begun has ended
pub all_ended : (runs : List Run) (others i : ℕ) → length (events_of (take (i + 1) runs)) ≤ others
    → ((k d : ℕ) → i + 1 ≤ k → k < length (starts_of runs) → others < get_or (starts_of runs) k d) → length (events_of runs) ≤ others
all_ended runs others i ended later =
    elim (cases_lt (i + 1) (length runs)) [
      | inl more ↦ absurd (omega (arith, later (i + 1) 0 (omega arith) (omega (arith, length-starts 0 runs, more)), start_at 0 runs (i + 1) 0 more, ended))
      | inr last ↦
          let whole : length (events_of (take (i + 1) runs)) ≡ length (events_of runs) = ap (λ (rs : List Run). length (events_of rs)) (take_all (i + 1) runs last) in
          omega (arith, whole, ended)
    ]

-- what is found, if something is
pub found_by : (runs : List Run) (others : ℕ) (found : Option Run) → IfSome found (λ rest. IsRest (events_of runs) others (Some rest)) →
    (found ≡ None → length (events_of runs) ≤ others) → IsRest (events_of runs) others found
found_by runs others None is none = none refl
found_by runs others (Some rest) is none = is

-- ---- it comes there

comes : (front : List Event) (e : Event) (c : ℕ) (back : List Event) (others left : ℕ) → length front ≤ others → others + left ≡ length front + c →
    drop others (front ++ (copies e c ++ back)) ≡ copies e left ++ drop (others + left) (front ++ (copies e c ++ back))
comes [] e c back others left begun ends =
    let size : c - others ≡ left = omega (arith, ends) in
    let whole : others + left ≡ c = omega (arith, ends) in
    let none : c - c ≡ 0 = omega arith in
    let next : drop (others + left) (copies e c ++ back) ≡ back =
    ap (λ (n : ℕ). drop n (copies e c ++ back)) whole ∙ among e c c back (omega arith) ∙ ap (λ (n : ℕ). copies e n ++ back) none ∙ rw (copies-zero e) refl in
    among e c others back (omega (arith, ends)) ∙ ap (λ (n : ℕ). copies e n ++ back) size ∙ ap (λ (es : List Event). copies e left ++ es) (sym next)
comes (x ∷ front) e c back zero left begun ends = absurd (omega (arith, begun))
comes (x ∷ front) e c back (suc others) left begun ends =
    let next : suc others + left ≡ suc (others + left) = omega arith in
    rw next (comes front e c back others left (omega (arith, begun)) (omega (arith, ends)))

rest_comes : (events : List Event) (others : ℕ) (rest : Run) → IsRestOfRun (runs_of events) others rest → ComesBehind events others rest
rest_comes events others rest it =
    let front : List Event = events_of it.before in
    let back : List Event = events_of it.behind in
    let whole : front ++ (copies it.run.event it.run.count ++ back) ≡ events =
    sym (events-append it.before (it.run ∷ it.behind)) ∙ ap events_of (sym it.among) ∙ runs_events events in
    let here = comes front it.run.event it.run.count back others rest.count it.begun it.ends in
    let P : List Event → Type 0 = λ es. drop others es ≡ copies it.run.event rest.count ++ drop (others + rest.count) es in (
      omega (arith, it.unended, it.ends),
      subst P whole here ∙ ap (λ (e : Event). copies e rest.count ++ drop (others + rest.count) events) (sym it.event),
    )

pub found_comes : (events : List Event) (others : ℕ) (found : Option Run) → IsRest events others found → IfSome found (ComesBehind events others)
found_comes events others None is = tt
found_comes events others (Some rest) is = rest_comes events others rest is

-- ---- its event is the one after the others

pub slice_get-drop : (events : List Event) (n : ℕ) → slice_get (drop n events) 0 ≡ slice_get events n
slice_get-drop [] zero = refl
slice_get-drop [] (suc n) = refl
slice_get-drop (e ∷ events) zero = refl
slice_get-drop (e ∷ events) (suc n) = slice_get-drop events n

pub first-of : (e : Event) (count : ℕ) (es : List Event) → 1 ≤ count → Some e ≡ slice_get (copies e count ++ es) 0
first-of e zero es some = absurd (omega (arith, some))
first-of e (suc count) es some = rw (copies-suc e count) refl

pub rest_some : (events : List Event) (others : ℕ) (rest : Run) → ComesBehind events others rest → Some rest.event ≡ slice_get events others
rest_some events others rest it =
    first-of rest.event rest.count (drop (others + rest.count) events) it.0
    ∙ ap (λ es. slice_get es 0) (sym it.1) ∙ slice_get-drop events others
