-- A list of events has one list of runs at most.
use Rattle.std.proofs.Common.{◌≡◌, ℕ, zero, suc, ◌+◌, ◌-◌, ◌≤◌, List, [], ◌∷◌, ◌++◌, length, refl, sym, ap, ◌∙◌, inl, inr, arith}
use Rattle.std.specs.Prelude.{Some}
use Rattle.std.proofs.lemmas.List.{append_cancel_left, append_assoc, length-append}
use Rattle.std.proofs.lemmas.Bool.{cases_lt}
use Rattle.brd_board.specs.declared.event.Event.{Event}
use Rattle.brd_journal.specs.declared.run.Run.{Run}
use Rattle.brd_journal.specs.Runs.{copies, events_of, first_event, AreCut}
use Rattle.brd_journal.proofs.EventLemmas.{run_of, copies-add, copies-suc, length-copies}

-- copies of one event are no front of what begins with another
same_front : (e f : Event) (m n : ℕ) (xs ys : List Event) → 1 ≤ m → 1 ≤ n → copies e m ++ xs ≡ copies f n ++ ys → e ≡ f
same_front e f zero n xs ys h k p = absurd (omega arith)
same_front e f (suc m) zero xs ys h k p = absurd (omega arith)
same_front e f (suc m) (suc n) xs ys h k p = let q : e ∷ (copies e m ++ xs) ≡ f ∷ (copies f n ++ ys) = rw (copies-suc, copies-suc) at p in cc

not_empty : (e : Event) (n : ℕ) (xs : List Event) → 1 ≤ n → [] ≡ copies e n ++ xs → ⊥
not_empty e n xs h p = omega (arith, length-append (copies e n) xs, length-copies e n, ap length p)

-- what stands for copies of an event, and more, begins with that event
first_is : (e : Event) (n : ℕ) (xs : List Event) (rs : List Run) → AreCut rs → 1 ≤ n → events_of rs ≡ copies e n ++ xs → first_event rs ≡ Some e
first_is e n xs [] cut h p = absurd (not_empty e n xs h p)
first_is e n xs (r ∷ rs) cut h p = ap Some (same_front r.event e r.count n (events_of rs) xs cut.0 h p)

-- the first of two runs that begin one list isn't shorter by k
not_shorter : (r s : Run) (rs ss : List Run) (k : ℕ) → AreCut (r ∷ rs) → AreCut (s ∷ ss) → r.event ≡ s.event → events_of (r ∷ rs) ≡ events_of (s ∷ ss) → s.count ≡ r.count + k → 1 ≤ k → ⊥
not_shorter r s rs ss k cut_r cut_s e p sum one =
    let front : copies s.event s.count ≡ copies r.event r.count ++ copies r.event k = ap (copies s.event) sum ∙ ap (λ (x : Event). copies x (r.count + k)) (sym e) ∙ copies-add r.event r.count k in
    let q : copies r.event r.count ++ events_of rs ≡ copies r.event r.count ++ (copies r.event k ++ events_of ss) = p ∙ ap (λ (es : List Event). es ++ events_of ss) front ∙ append_assoc (copies r.event r.count) (copies r.event k) (events_of ss) in
    let rest : events_of rs ≡ copies r.event k ++ events_of ss = append_cancel_left (copies r.event r.count) (events_of rs) (copies r.event k ++ events_of ss) q in
    let full = cut_r.2 (first_is r.event k (events_of ss) rs cut_r.3 one rest) in
    omega (arith, full, cut_s.1)

same_count : (r s : Run) (rs ss : List Run) → AreCut (r ∷ rs) → AreCut (s ∷ ss) → r.event ≡ s.event → events_of (r ∷ rs) ≡ events_of (s ∷ ss) → r.count ≡ s.count
same_count r s rs ss cut_r cut_s e p =
    elim (cases_lt r.count s.count) [
      | inl less ↦ absurd (not_shorter r s rs ss (s.count - r.count) cut_r cut_s e p (omega arith) (omega arith))
      | inr le ↦ elim (cases_lt s.count r.count) [
        | inl less ↦ absurd (not_shorter s r ss rs (r.count - s.count) cut_s cut_r (sym e) (sym p) (omega arith) (omega arith))
        | inr ge ↦ omega arith
      ]
    ]

same_run : (r s : Run) → r.event ≡ s.event → r.count ≡ s.count → r ≡ s
same_run r s e n = ap (λ (x : Event). run_of x r.count) e ∙ ap (λ (x : ℕ). run_of s.event x) n

pub one_list : (rs ss : List Run) → AreCut rs → AreCut ss → events_of rs ≡ events_of ss → rs ≡ ss
one_list [] [] cut_r cut_s p = refl
one_list [] (s ∷ ss) cut_r cut_s p = absurd (not_empty s.event s.count (events_of ss) cut_s.0 p)
one_list (r ∷ rs) [] cut_r cut_s p = absurd (not_empty r.event r.count (events_of rs) cut_r.0 (sym p))
one_list (r ∷ rs) (s ∷ ss) cut_r cut_s p =
    let e : r.event ≡ s.event = same_front r.event s.event r.count s.count (events_of rs) (events_of ss) cut_r.0 cut_s.0 p in
    let same : r ≡ s = same_run r s e (same_count r s rs ss cut_r cut_s e p) in
    let q : copies r.event r.count ++ events_of rs ≡ copies r.event r.count ++ events_of ss = p ∙ ap (λ (x : Run). copies x.event x.count ++ events_of ss) (sym same) in
    let rest : rs ≡ ss = one_list rs ss cut_r.3 cut_s.3 (append_cancel_left _ _ _ q) in
    ap (λ (x : Run). x ∷ rs) same ∙ ap (λ (xs : List Run). s ∷ xs) rest
