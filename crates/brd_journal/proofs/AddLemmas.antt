-- Runs with more of an event at the end.
use Rattle.std.proofs.Common.{◌≡◌, ℕ, zero, suc, ◌+◌, ◌-◌, ◌≤◌, ◌<◌, true, false, cond, List, [], ◌∷◌, ◌++◌, length, get_or, set, refl, sym, ap, ◌∙◌, inl, inr, arith, add-zero}
use Rattle.std.specs.Prelude.{Option, Some, None, Ok, Err, min, slice_get}
use Rattle.std.proofs.lemmas.Bool.{cases_Bool, lt-leb, le-leb}
use Rattle.std.proofs.lemmas.Option.{slice_get_within}
use Rattle.std.proofs.lemmas.List.{append_assoc, append-nil, length-append, length-set}
use Rattle.brd_board.specs.declared.event.Event.{Event}
use Rattle.brd_journal.specs.declared.fault.JournalFault.TheVariants.{Full}
use Rattle.brd_journal.specs.declared.run.Run.{Run}
use Rattle.brd_journal.specs.Runs.{most_count, copies, events_of, same_event, run_of_count, runs_of, first_event, AreCut}
use Rattle.brd_journal.specs.Adding.{room_in, grown, added, added_within}
use Rattle.brd_journal.proofs.EventLemmas.{run_of, same_is, same-self, copies-add}
use Rattle.brd_journal.proofs.Cutting.{runs_are, events-run_of_count}

-- ---- added runs are cut as runs are

cut_two : (r e : Event) (c m : ℕ) → 1 ≤ c → c ≤ most_count → m ≤ most_count → (1 ≤ m → r ≡ e → c ≡ most_count) → AreCut (run_of r c ∷ run_of_count e m)
cut_two r e c zero least most small full = (least, most, (λ p. cc), tt)
cut_two r e c (suc m) least most small full =
    (least, most, (λ p. full (omega arith) (cc)), (omega arith, small, (λ p. cc), tt))

first-grown : (r : Run) (rs : List Run) (j : ℕ) (more : List Run) → first_event (grown (r ∷ rs) j ++ more) ≡ Some r.event
first-grown r [] j more = refl
first-grown r (s ∷ rs) j more = refl

pub cut_added : (rs : List Run) (e : Event) (n : ℕ) → AreCut rs → n ≤ most_count → AreCut (added rs e n)
cut_added [] e n h small = cut_none e (n - min 0 n) (omega arith)
  where
    cut_none : (e : Event) (m : ℕ) → m ≤ most_count → AreCut (run_of_count e m)
    cut_none e zero small = tt
    cut_none e (suc m) small = (omega arith, small, (λ p. cc), tt)
cut_added (r ∷ []) e n h small =
    elim (cases_Bool (same_event r.event e)) [
      | inl same ↦ rw same (cut_two r.event e (r.count + min (most_count - r.count) n) (n - min (most_count - r.count) n) (omega (arith, h.0)) (omega (arith, h.1)) (omega arith) (λ some eq. omega (arith, h.1, some)))
      | inr other ↦ rw other (cut_two r.event e (r.count + min 0 n) (n - min 0 n) (omega (arith, h.0)) (omega (arith, h.1)) (omega arith) (λ some eq. let t : same_event r.event e ≡ true = rw eq (same-self e) in cc))
    ]
cut_added (r ∷ s ∷ rs) e n h small =
    (h.0, h.1, (λ p. h.2 (sym (first-grown s rs _ _) ∙ p)), cut_added (s ∷ rs) e n h.3 small)

-- ---- they stand for the events and the copies after them

events_joined : (r e : Event) (c j n : ℕ) → r ≡ e → j ≤ n → events_of (run_of r (c + j) ∷ run_of_count e (n - j)) ≡ copies r c ++ copies e n
events_joined r e c j n same le =
    let sum : n ≡ j + (n - j) = omega arith in
    let parts : copies e n ≡ copies e j ++ copies e (n - j) = ap (copies e) sum ∙ copies-add e j (n - j) in
    rw (events-run_of_count, copies-add r c j, parts, same, append_assoc) refl

events_apart : (r e : Event) (c j n : ℕ) → j ≡ 0 → events_of (run_of r (c + j) ∷ run_of_count e (n - j)) ≡ copies r c ++ copies e n
events_apart r e c j n none =
    let left : n - j ≡ n = omega arith in
    let same : c + j ≡ c = omega arith in
    rw (events-run_of_count, left, same) refl

pub events_added : (rs : List Run) (e : Event) (n : ℕ) → events_of (added rs e n) ≡ events_of rs ++ copies e n
events_added [] e n = let all : n - min 0 n ≡ n = omega arith in events-run_of_count e (n - min 0 n) ∙ ap (copies e) all
events_added (r ∷ []) e n =
    elim (cases_Bool (same_event r.event e)) [
      | inl same ↦ rw (same, append-nil) (events_joined r.event e r.count (min (most_count - r.count) n) n (same_is r.event e same) (omega arith))
      | inr other ↦ rw (other, append-nil) (events_apart r.event e r.count (min 0 n) n (omega arith))
    ]
events_added (r ∷ s ∷ rs) e n = ap (λ (es : List Event). copies r.event r.count ++ es) (events_added (s ∷ rs) e n) ∙ sym (append_assoc (copies r.event r.count) (events_of (s ∷ rs)) (copies e n))

-- so they are the runs of these events
pub added_runs : (rs : List Run) (e : Event) (n : ℕ) → AreCut rs → n ≤ most_count → runs_of (events_of rs ++ copies e n) ≡ added rs e n
added_runs rs e n h small = ap runs_of (sym (events_added rs e n)) ∙ sym (runs_are (added rs e n) (cut_added rs e n h small))

-- ---- what the last run has room for

room_of : Option Run → Event → ℕ
room_of None e = 0
room_of (Some r) e = cond (same_event r.event e) (most_count - r.count) 0

room_at : (rs : List Run) (e : Event) (i : ℕ) → suc i ≡ length rs → room_in rs e ≡ room_of (slice_get rs i) e
unfolding room_of
room_at [] e i h = absurd (omega arith)
room_at (r ∷ []) e zero h = refl
room_at (r ∷ []) e (suc i) h = absurd (omega arith)
room_at (r ∷ s ∷ rs) e zero h = absurd (omega arith)
room_at (r ∷ s ∷ rs) e (suc i) h = room_at (s ∷ rs) e i (omega arith)

room_last : (rs : List Run) (e : Event) (r : Run) → Some r ≡ slice_get rs (length rs - 1) → room_in rs e ≡ cond (same_event r.event e) (most_count - r.count) 0
unfolding room_of
room_last rs e r h =
    let within = slice_get_within rs (length rs - 1) r (sym h) in
    room_at rs e (length rs - 1) (omega arith) ∙ ap (λ (o : Option Run). room_of o e) (sym h)

pub room_same : (rs : List Run) (e : Event) (r : Run) → Some r ≡ slice_get rs (length rs - 1) → same_event r.event e ≡ true → most_count - r.count ≡ room_in rs e
room_same rs e r h same = sym (room_last rs e r h ∙ rw same refl)

pub room_other : (rs : List Run) (e : Event) (r : Run) → Some r ≡ slice_get rs (length rs - 1) → same_event r.event e ≡ false → 0 ≡ room_in rs e
room_other rs e r h other = sym (room_last rs e r h ∙ rw other refl)

pub room_some : (rs : List Run) (e : Event) → 0 < room_in rs e → 1 ≤ length rs
room_some [] e h = absurd (omega arith)
room_some (r ∷ rs) e h = omega arith

-- ---- the new list of the code

pub grown_fits : (rs more : List Run) (e : Event) (n i : ℕ) (x : Run) → AreCut rs → suc i ≡ length rs → x ≡ get_or (rs ++ more) i x → x.count + min (room_in rs e) n ≤ most_count
grown_fits [] more e n i x cut h p = absurd (omega arith)
grown_fits (r ∷ []) more e n (suc i) x cut h p = absurd (omega arith)
grown_fits (r ∷ []) more e n zero x cut h p =
    let q : x.count ≡ r.count = ap (λ (y : Run). y.count) p in
    elim (cases_Bool (same_event r.event e)) [
      | inl same ↦ rw same (omega (arith, cut.1))
      | inr other ↦ rw other (omega (arith, cut.1))
    ]
grown_fits (r ∷ s ∷ rs) more e n zero x cut h p = absurd (omega arith)
grown_fits (r ∷ s ∷ rs) more e n (suc i) x cut h p = grown_fits (s ∷ rs) more e n i x cut.3 (omega arith) p

set_grown : (rs more : List Run) (j i : ℕ) (x : Run) → suc i ≡ length rs → x ≡ get_or (rs ++ more) i x → set (rs ++ more) i (run_of x.event (x.count + j)) ≡ grown rs j ++ more
set_grown [] more j i x h p = absurd (omega arith)
set_grown (r ∷ []) more j (suc i) x h p = absurd (omega arith)
set_grown (r ∷ []) more j zero x h p = ap (λ (y : Run). run_of y.event (y.count + j) ∷ more) p
set_grown (r ∷ s ∷ rs) more j zero x h p = absurd (omega arith)
set_grown (r ∷ s ∷ rs) more j (suc i) x h p = ap (λ (ys : List Run). r ∷ ys) (set_grown (s ∷ rs) more j i x (omega arith) p)

grown-zero : (rs : List Run) → grown rs 0 ≡ rs
grown-zero [] = refl
grown-zero (r ∷ []) = rw add-zero refl
grown-zero (r ∷ s ∷ rs) = ap (λ (ys : List Run). r ∷ ys) (grown-zero (s ∷ rs))

length-grown : (rs : List Run) (j : ℕ) → length (grown rs j) ≡ length rs
length-grown [] j = refl
length-grown (r ∷ []) j = refl
length-grown (r ∷ s ∷ rs) j = ap suc (length-grown (s ∷ rs) j)

pub new_run : (e : Event) (m : ℕ) → 0 < m → run_of_count e m ≡ run_of e m ∷ []
new_run e zero h = absurd (omega arith)
new_run e (suc m) h = refl

-- the runs before the last one of them is grown
pub record Pushed (limit : ℕ) (rs : List Run) (e : Event) (rest : ℕ) (items : List Run) : Type 0 where
  pub is : items ≡ rs ++ run_of_count e rest
  pub within : length items ≤ limit

pub pushed_some : (limit : ℕ) (rs items : List Run) (e : Event) (rest : ℕ) → 0 < rest → length rs < limit → items ≡ rs ++ run_of e rest ∷ [] → Pushed limit rs e rest items
pushed_some limit rs items e rest some room h = record {
  is = h ∙ ap (λ (ys : List Run). rs ++ ys) (sym (new_run e rest some));
  within = rw h (omega (arith, length-append rs (run_of e rest ∷ [])));
}

pub pushed_none : (limit : ℕ) (rs items : List Run) (e : Event) (rest : ℕ) → rest ≤ 0 → length rs ≤ limit → items ≡ rs → Pushed limit rs e rest items
pushed_none limit rs items e (suc rest) none room h = absurd (omega arith)
pushed_none limit rs items e zero none room h = record { is = h ∙ sym (append-nil rs); within = rw h room }

pub added_full : (limit : ℕ) (rs : List Run) (e : Event) (n j : ℕ) → j ≡ min (room_in rs e) n → 0 < n - j → limit ≤ length rs → added_within limit rs e n ≡ Err Full
added_full limit rs e n j is some full =
    let len : length (added rs e n) ≡ length rs + 1 = length-append (grown rs (min (room_in rs e) n)) (run_of_count e (n - min (room_in rs e) n)) ∙ rw (length-grown, ← is, new_run e (n - j) some) refl in
    let above : limit < length (added rs e n) = omega arith in
    rw (lt-leb (length (added rs e n)) limit above) refl

added_ok : (limit : ℕ) (rs items : List Run) (e : Event) (n : ℕ) → items ≡ added rs e n → length items ≤ limit → added_within limit rs e n ≡ Ok items
added_ok limit rs items e n is within =
    let below : length (added rs e n) ≤ limit = rw is at within in
    rw (le-leb (length (added rs e n)) limit below, is) refl

pub added_apart : (limit : ℕ) (rs items : List Run) (e : Event) (n j : ℕ) → j ≡ min (room_in rs e) n → j ≤ 0 → Pushed limit rs e (n - j) items → added_within limit rs e n ≡ Ok items
added_apart limit rs items e n j is none pushed =
    let zero_j : j ≡ 0 = omega arith in
    let same : added rs e n ≡ rs ++ run_of_count e (n - j) =
    ap (λ (m : ℕ). grown rs m ++ run_of_count e (n - m)) (sym is) ∙ ap (λ (ys : List Run). ys ++ run_of_count e (n - j)) (ap (grown rs) zero_j ∙ grown-zero rs) in
    added_ok limit rs items e n (pushed.is ∙ sym same) pushed.within

pub added_joined : (limit : ℕ) (rs items : List Run) (e : Event) (n j i : ℕ) (x : Run) → j ≡ min (room_in rs e) n → Pushed limit rs e (n - j) items → suc i ≡ length rs → x ≡ get_or items i x
    → added_within limit rs e n ≡ Ok (set items i (run_of x.event (x.count + j)))
added_joined limit rs items e n j i x is pushed h p =
    let more : List Run = run_of_count e (n - j) in
    let q : x ≡ get_or (rs ++ more) i x = rw pushed.is at p in
    let grow : set items i (run_of x.event (x.count + j)) ≡ grown rs j ++ more = ap (λ (ys : List Run). set ys i (run_of x.event (x.count + j))) pushed.is ∙ set_grown rs more j i x h q in
    let same : grown rs j ++ more ≡ added rs e n = rw is refl in
    added_ok limit rs _ e n (grow ∙ same) (rw length-set pushed.within)

-- there are no fewer runs
pub length_added : (rs : List Run) (e : Event) (n : ℕ) → length rs ≤ length (added rs e n)
length_added rs e n =
    omega (arith, length-append (grown rs (min (room_in rs e) n)) (run_of_count e (n - min (room_in rs e) n)), length-grown rs (min (room_in rs e) n))
