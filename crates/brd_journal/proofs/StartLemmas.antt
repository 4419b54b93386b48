-- Where runs begin, also where more of an event is added.
use Rattle.std.proofs.Common.{◌≡◌, ℕ, zero, suc, ◌+◌, ◌-◌, ◌≤◌, ◌<◌, List, [], ◌∷◌, ◌++◌, length, get_or, take, refl, sym, ap, ◌∙◌, arith}
use Rattle.std.specs.Prelude.{min, Ok}
use Rattle.std.specs.List.Sorted.{IsNonDecreasingBy}
use Rattle.std.proofs.lemmas.List.{append-nil, length-append, take_more}
use Rattle.brd_board.specs.declared.event.Event.{Event}
use Rattle.brd_journal.specs.declared.run.Run.{Run}
use Rattle.brd_journal.specs.Runs.{copies, events_of, run_of_count, starts_from, starts_of}
use Rattle.brd_journal.specs.Adding.{room_in, grown, added, added_within}
use Rattle.brd_journal.proofs.EventLemmas.{run_of, events-append, length-copies}
use Rattle.brd_journal.proofs.AddLemmas.{Pushed, pushed_some, pushed_none, new_run, room_some}
use Rattle.brd_journal.proofs.KeptLemmas.{within_gives}

length-one : (r : Run) → length (events_of (r ∷ [])) ≡ r.count
length-one r = ap length (append-nil (copies r.event r.count)) ∙ length-copies r.event r.count

length-first : (r : Run) (rs : List Run) → length (events_of (r ∷ rs)) ≡ r.count + length (events_of rs)
length-first r rs = omega (arith, length-append (copies r.event r.count) (events_of rs), length-copies r.event r.count)

-- ---- each run begins after the events of those before it

pub start_at : (n : ℕ) (rs : List Run) (i d : ℕ) → i < length rs → get_or (starts_from n rs) i d ≡ n + length (events_of (take i rs))
start_at n [] i d h = absurd (omega (arith, h))
start_at n (r ∷ rs) zero d h = omega arith
start_at n (r ∷ rs) (suc i) d h = omega (arith, start_at (n + r.count) rs i d (omega (arith, h)), length-first r (take i rs))

pub length-starts : (n : ℕ) (rs : List Run) → length (starts_from n rs) ≡ length rs
length-starts n [] = refl
length-starts n (r ∷ rs) = ap suc (length-starts (n + r.count) rs)

-- the events of one run more
pub one_more_run : (rs : List Run) (i : ℕ) (d : Run) → i < length rs →
    length (events_of (take (i + 1) rs)) ≡ length (events_of (take i rs)) + (get_or rs i d).count
one_more_run rs i d h =
    let run : Run = get_or rs i d in
    ap (λ (xs : List Run). length (events_of xs)) (take_more rs i d h) ∙ ap length (events-append (take i rs) (run ∷ []))
    ∙ omega (arith, length-append (events_of (take i rs)) (events_of (run ∷ [])), length-one run)

-- ---- they rise

above : (n : ℕ) (rs : List Run) (j d : ℕ) → j < length (starts_from n rs) → n ≤ get_or (starts_from n rs) j d
above n [] j d h = absurd (omega (arith, h))
above n (r ∷ rs) zero d h = omega arith
above n (r ∷ rs) (suc j) d h = omega (arith, above (n + r.count) rs j d (omega (arith, h)))

pub starts_rise : (n : ℕ) (rs : List Run) → IsNonDecreasingBy (λ start. start) (starts_from n rs)
starts_rise n [] i j d le h = absurd (omega (arith, h))
starts_rise n (r ∷ rs) zero j d le h = above n (r ∷ rs) j d h
starts_rise n (r ∷ rs) (suc i) zero d le h = absurd (omega (arith, le))
starts_rise n (r ∷ rs) (suc i) (suc j) d le h = starts_rise (n + r.count) rs i j d (omega (arith, le)) (omega (arith, h))

-- ---- more of an event at the end

starts-grown : (n : ℕ) (rs ss : List Run) (j : ℕ) → (0 < j → 1 ≤ length rs)
    → starts_from n (grown rs j ++ ss) ≡ starts_from n rs ++ starts_from (n + length (events_of rs) + j) ss
starts-grown n [] ss zero some = ap (λ (m : ℕ). starts_from m ss) (omega arith)
starts-grown n [] ss (suc j) some = absurd (omega (arith, some (omega arith)))
starts-grown n (r ∷ []) ss j some =
    let next : n + (r.count + j) ≡ n + length (events_of (r ∷ [])) + j = omega (arith, length-one r) in
    ap (λ (m : ℕ). n ∷ starts_from m ss) next
starts-grown n (r ∷ s ∷ rs) ss j some =
    let next : n + r.count + length (events_of (s ∷ rs)) + j ≡ n + length (events_of (r ∷ s ∷ rs)) + j = omega (arith, length-first r (s ∷ rs)) in
    ap (λ (xs : List ℕ). n ∷ xs) (starts-grown (n + r.count) (s ∷ rs) ss j (λ _. omega arith))
    ∙ ap (λ (m : ℕ). n ∷ (starts_from (n + r.count) (s ∷ rs) ++ starts_from m ss)) next

pub starts-added : (limit : ℕ) (rs ys : List Run) (e : Event) (n j : ℕ) (starts : List ℕ) → j ≡ min (room_in rs e) n → added_within limit rs e n ≡ Ok ys
    → starts ≡ starts_of rs ++ starts_from (length (events_of rs) + j) (run_of_count e (n - j)) → starts ≡ starts_of ys
starts-added limit rs ys e n j starts is made these =
    let some : 0 < j → 1 ≤ length rs = λ h. room_some rs e (omega (arith, h, is)) in
    let front : ℕ = length (events_of rs) in
    let from : 0 + front + j ≡ front + j = omega arith in
    let same : added rs e n ≡ grown rs j ++ run_of_count e (n - j) = ap (λ (m : ℕ). grown rs m ++ run_of_count e (n - m)) (sym is) in
    these ∙ ap (λ (m : ℕ). starts_of rs ++ starts_from m (run_of_count e (n - j))) (sym from)
    ∙ sym (starts-grown 0 rs (run_of_count e (n - j)) j some)
    ∙ ap starts_of (sym same ∙ sym (within_gives limit rs ys e n made).0)

-- The runs before the last one of the old is grown, and where they begin: the new run, if there is one, begins after
-- all events.
pub record Extended (limit : ℕ) (rs : List Run) (e : Event) (start rest : ℕ) (items : List Run) (starts : List ℕ) : Type 0 where
  pub pushed : Pushed limit rs e rest items
  pub begun : starts ≡ starts_of rs ++ starts_from start (run_of_count e rest)

pub extended_some : (limit : ℕ) (rs items : List Run) (e : Event) (start rest : ℕ) (old starts : List ℕ) → 0 < rest → length rs < limit → items ≡ rs ++ run_of e rest ∷ []
    → old ≡ starts_of rs → starts ≡ old ++ start ∷ [] → Extended limit rs e start rest items starts
extended_some limit rs items e start rest old starts some room h was k = record {
  pushed = pushed_some limit rs items e rest some room h;
  begun = k ∙ ap (λ (xs : List ℕ). xs ++ start ∷ []) was ∙ ap (λ (ys : List Run). starts_of rs ++ starts_from start ys) (sym (new_run e rest some));
}

pub extended_none : (limit : ℕ) (rs items : List Run) (e : Event) (start rest : ℕ) (starts : List ℕ) → rest ≤ 0 → length rs ≤ limit → items ≡ rs
    → starts ≡ starts_of rs → Extended limit rs e start rest items starts
extended_none limit rs items e start (suc rest) starts none room h k = absurd (omega (arith, none))
extended_none limit rs items e start zero starts none room h k = record {
  pushed = pushed_none limit rs items e zero none room h;
  begun = k ∙ sym (append-nil (starts_of rs));
}
