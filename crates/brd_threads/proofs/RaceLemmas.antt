-- What is looked at after a race, from the last processor to the first.
use Rattle.std.proofs.Common.{◌≡◌, ◌≢◌, ℕ, ◌+◌, ◌<◌, ◌≤◌, ◌==◌, eqb, true, false, List, [], ◌∷◌, ◌++◌, length, take, ap, sym, subst, ◌∙◌, inl, inr, arith}
use Rattle.std.specs.Prelude.{Bool, Option, None, Some, Result, Ok, Err, IfOk, slice_index_or, Decides}
use Rattle.std.proofs.lemmas.Bool.{cases_Bool, eqb-true, eq-eqb, false≢true}
use Rattle.std.proofs.lemmas.Bool.Decides.{nat_tests}
use Rattle.std.proofs.lemmas.List.{get_or_append_left}
use Rattle.std.proofs.Math.Seq.{get_or-append_seam}
use Rattle.brd_board.specs.declared.event.Event.{Event}
use Rattle.brd_board.specs.Board.{BoardState}
use Rattle.brd_journal.specs.Runs.{runs_of}
use Rattle.brd_ledgers.specs.Shares.{Counted}
use Rattle.brd_threads.specs.declared.fault.RaceFault.{RaceFault}
use Rattle.brd_threads.specs.declared.outer.Outer.{Outer}
use Rattle.brd_threads.specs.Outers.{outers, steps}
use Rattle.brd_threads.specs.Station.{StationState, AreOfFirst, board_of}
use Rattle.brd_threads.specs.Races.{Answers, AreCounted, AreMet, AreWithin, Counts, HasRaced, HasWorked, HaveWorked}

-- what holds at n and from n + 1 on holds from n on
pub from_one_less : (P : ℕ → Type 0) (n most : ℕ) → P n → ((i : ℕ) → n + 1 ≤ i → i < most → P i) → (i : ℕ) → n ≤ i → i < most → P i
from_one_less P n most here more i from to =
    elim (cases_Bool (eqb n i)) [
      | inl same ↦ subst P (eqb-true n i same) here
      | inr other ↦ more i (grind (arith, nat_tests, other, from)) to
    ]

pub worked_counts : (cpu quota : ℕ) (worked : Counted × Result Bool RaceFault) → HasWorked cpu quota worked → (worked.0.cpu ≡ cpu) × Counts quota worked.0.count worked.1
unfolding HasWorked
worked_counts cpu quota worked has = has

-- one worker more whose share has been seen to count the steps of its processor
pub counted_from : (all before : List (Counted × Result Bool RaceFault)) (worked : Counted × Result Bool RaceFault) (events : List Event) (cpu : ℕ)
    → ((i : ℕ) (default : Counted × Result Bool RaceFault) → i < length before + 1 → slice_index_or (before ++ worked ∷ []) i default ≡ slice_index_or all i default)
    → cpu ≡ length before + 1 → steps cpu events ≡ worked.0.count
    → ((i : ℕ) (default : Counted × Result Bool RaceFault) → length before + 1 ≤ i → i < length all → steps (i + 1) events ≡ (slice_index_or all i default).0.count)
    → (i : ℕ) (default : Counted × Result Bool RaceFault) → length before ≤ i → i < length all → steps (i + 1) events ≡ (slice_index_or all i default).0.count
counted_from all before worked events cpu same is here more i default from to =
    let at : slice_index_or all (length before) default ≡ worked = sym (same (length before) default (omega arith)) ∙ get_or-append_seam before worked [] default in
    from_one_less (λ n. steps (n + 1) events ≡ (slice_index_or all n default).0.count) (length before) (length all)
    (subst (λ n. steps n events ≡ (slice_index_or all (length before) default).0.count) is (here ∙ ap (λ (w : Counted × Result Bool RaceFault). w.0.count) (sym at)))
    (λ n. more n default) i from to

-- its share is that of the next processor
pub cpu_of_last : (quotas : List ℕ) (all before : List (Counted × Result Bool RaceFault)) (worked : Counted × Result Bool RaceFault) → HaveWorked quotas all
    → ((i : ℕ) (default : Counted × Result Bool RaceFault) → i < length before + 1 → slice_index_or (before ++ worked ∷ []) i default ≡ slice_index_or all i default)
    → length before < length all → worked.0.cpu ≡ length before + 1
cpu_of_last quotas all before worked have same within =
    let at : slice_index_or all (length before) worked ≡ worked = sym (same (length before) worked (omega arith)) ∙ get_or-append_seam before worked [] worked in
    let has = (worked_counts (length before + 1) (slice_index_or quotas (length before) 0) (slice_index_or all (length before) worked) (have (length before) worked within)).0 in
    ap (λ (w : Counted × Result Bool RaceFault). w.0.cpu) (sym at) ∙ has

-- those before it are the first of all
pub front_of : (all before : List (Counted × Result Bool RaceFault)) (worked : Counted × Result Bool RaceFault)
    → ((i : ℕ) (default : Counted × Result Bool RaceFault) → i < length before + 1 → slice_index_or (before ++ worked ∷ []) i default ≡ slice_index_or all i default)
    → (i : ℕ) (default : Counted × Result Bool RaceFault) → i < length before → slice_index_or before i default ≡ slice_index_or all i default
front_of all before worked same i default within = sym (get_or_append_left before (worked ∷ []) default i within) ∙ same i default (omega (arith, within))

-- the quotas from one on are met
abbrev pub AreMetFrom : ℕ → List ℕ → List Event → Type 0
AreMetFrom from quotas events = (i : ℕ) → from ≤ i → i < length quotas → steps (i + 1) events ≡ slice_index_or quotas i 0

pub met_more : (quotas : List ℕ) (events : List Event) (n len count : ℕ) (more : Bool) → len ≡ n → steps (n + 1) events ≡ count → true ≡ (count == slice_index_or quotas len 0)
    → Decides more (AreMetFrom (n + 1) quotas events) → Decides more (AreMetFrom n quotas events)
met_more quotas events n len count more is here met rest = (
  λ yes. from_one_less (λ i. steps (i + 1) events ≡ slice_index_or quotas i 0) n (length quotas)
      (here ∙ eqb-true count (slice_index_or quotas len 0) (sym met) ∙ ap (λ i. slice_index_or quotas i 0) is) (rest.0 yes),
  λ all. rest.1 (λ i from to. all i (omega (arith, from)) to),
)

pub not_met : (quotas : List ℕ) (events : List Event) (n len count : ℕ) (met : Bool) → len ≡ n → steps (n + 1) events ≡ count → met ≡ false → met ≡ (count == slice_index_or quotas len 0)
    → n < length quotas → Decides met (AreMetFrom n quotas events)
not_met quotas events n len count met is here isnt counts within = (
  λ yes. absurd (false≢true (sym isnt ∙ yes)),
  λ all. absurd (false≢true (sym isnt ∙ counts ∙ eq-eqb count (slice_index_or quotas len 0) (sym here ∙ all n (omega arith) within ∙ ap (λ i. slice_index_or quotas i 0) (sym is)))),
)

-- the workers of the processors from 1 on are within their quotas
within_of : (quota count : ℕ) (answer : Result Bool RaceFault) → Counts quota count answer → count ≤ quota
within_of quota count (Ok true) counts = omega (arith, counts)
within_of quota count (Ok false) counts = omega (arith, counts)
within_of quota count (Err fault) counts = omega (arith, counts.0)

nobody : Counted × Result Bool RaceFault
nobody = (record { cpu = 0; count = 0 }, Ok true)

pub are_within : (quotas : List ℕ) (workers : List (Counted × Result Bool RaceFault)) (station : StationState) → length workers ≡ length quotas → HaveWorked quotas workers
    → AreCounted workers station → AreWithin quotas station
are_within quotas workers station each worked counted i to =
    let within : i < length workers = omega (arith, each, to) in
    let worker = slice_index_or workers i nobody in
    let counts = (worked_counts (i + 1) (slice_index_or quotas i 0) worker (worked i nobody within)).1 in
    omega (arith, counted i nobody within, within_of (slice_index_or quotas i 0) worker.0.count worker.1 counts)

-- what is of this boot and script, within the limit, and of these processors
abbrev pub IsOf : BoardState → List Outer → List ℕ → ℕ → StationState → Type 0
IsOf boot script quotas limit station =
    ((station.boot ≡ boot) × (station.script ≡ script)) × ((length (runs_of station.journal.events) ≤ limit) × AreOfFirst (length quotas) station)

-- what is known of a station after the joins
pub has_raced : {boot : BoardState} {script : List Outer} {quotas : List ℕ} {limit : ℕ} {station : StationState} → IsOf boot script quotas limit station
    → station.journal.order ≡ station.boot.memory.order → outers station.journal.events ≡ take station.taken station.script → AreWithin quotas station
    → ((board_of station).kernel.off ≡ false → outers station.journal.events ≡ station.script) → ((board_of station).kernel.off ≡ false → AreMet quotas station)
    → HasRaced boot script quotas limit station
has_raced {station = station} is order taken within whole met = record {
  boot_is = is.0.0;
  script_is = is.0.1;
  order = order ∙ ap (λ (b : BoardState). b.memory.order) is.0.0;
  room = is.1.0;
  taken = taken ∙ ap (take station.taken) is.0.1;
  within = within;
  own = is.1.1;
  whole = λ on. whole on ∙ is.0.1;
  met = met;
}

-- a station that is not of these isn't what a race leaves
pub not_of : {boot : BoardState} {script : List Outer} {quotas : List ℕ} {limit : ℕ} {station : StationState} → (IsOf boot script quotas limit station → ⊥)
    → HasRaced boot script quotas limit station → ⊥
not_of not has = not ((has.boot_is, has.script_is), (has.room, has.own))

-- nor is one in which something is undone though the board is on
pub not_over : {boot : BoardState} {script : List Outer} {quotas : List ℕ} {limit : ℕ} {station : StationState} (met : Bool) → Decides met (AreMet quotas station)
    → (board_of station).kernel.off ≡ false → (met ≡ true → outers station.journal.events ≢ station.script)
    → HasRaced boot script quotas limit station → ⊥
not_over met decides on not has = not (decides.1 (has.met on)) (has.whole on ∙ sym has.script_is)

-- a station that is answered is what a race leaves
pub answered_has : (fault : Option RaceFault) (workers : List (Counted × Result Bool RaceFault)) (left : StationState) (Has : StationState → Type 0) (answer : Result StationState RaceFault)
    → Answers fault workers left Has answer → IfOk answer Has
answered_has None workers left Has (Ok station) answers = answers.2
answered_has None workers left Has (Err fault) answers = tt
answered_has (Some fault) workers left Has (Ok station) is = cc
answered_has (Some fault) workers left Has (Err other) is = tt

-- what decides the second of two facts decides both where the first holds
pub with_first : {P Q : Type 0} (answer : Bool) → P → Decides answer Q → Decides answer (P × Q)
with_first answer first decides = (λ yes. (first, decides.0 yes), λ both. decides.1 both.1)
