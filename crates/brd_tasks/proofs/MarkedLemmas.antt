-- The ready lists with their masks: what is always true of them, and what each call finds and makes.
use Rattle.std.proofs.Common.{◌≡◌, ◌<◌, ◌≤◌, ℕ, zero, suc, ◌+◌, ◌/◌, ◌%◌, List, [], ◌∷◌, ◌++◌, length, replicate, refl, sym, ap, subst, ◌∙◌, true≢false, arith}
use Rattle.std.specs.Prelude.{Bool, true, false, ◌==◌, ◌&&◌, nat_lt, if◌then◌else◌, Option, None, Some, is_some, slice_index_or, slice_set}
use Rattle.std.proofs.lemmas.Bool.Decides.{nat_tests}
use Rattle.std.proofs.lemmas.Grind.{get_or-set_at}
use Rattle.std.proofs.lemmas.List.{ext_get_or, get_or_past, get_or-replicate, length-set, length-replicate, append-nil}
use Rattle.std.specs.Int.{bit_at}
use Rattle.std.proofs.lemmas.Nat.Bits.{bit_at-zero}
use Rattle.brd_queue.specs.Queue.{Plain, has, priority_in, behind_equals, without, rotated, AreApart}
use Rattle.brd_queue.proofs.PriorityLemmas.{priority_in-rotated}
use Rattle.brd_rings.specs.Rings.{ring_at, has as has_node, without as without_node, turned, head_of, IsApart}
use Rattle.brd_tasks.specs.Tasks.{first_id}
use Rattle.brd_tasks.specs.Marks.{word_of, mark_at, with_mark, without_mark}
use Rattle.brd_tasks.specs.ReadyRings.{entry, entries, number_of, joined, ready_of, lists_of, mark_of, IsMarked}
use Rattle.brd_tasks.proofs.MarkLemmas.{mark_at-with, mark_at-without}
use Rattle.brd_tasks.proofs.ReadyLemmas.{joined-has, joined-priority, joined-apart, joined-empty, joined-first, lists-length, lists-at, set-ring, number-small, lists-entered, lists-left, lists-turned}

number-is : (cpu p c q : ℕ) → p < 256 → q < 256 → (number_of cpu p == number_of c q) ≡ ((cpu == c) && (p == q))
number-is cpu p c q small within = grind (arith, nat_tests, small, within)

mark_of-more : (xs : List ℕ) (x : ℕ) → mark_of (xs ++ x ∷ []) ≡ 1
mark_of-more [] x = refl
mark_of-more (y ∷ ys) x = refl

marked-by : (own : Bool) (rings : List (List ℕ)) (marks new : List ℕ) (cpu p value : ℕ) (xs : List ℕ) (c q : ℕ) → ((cpu == c) && (p == q)) ≡ own → IsMarked rings marks → cpu < 9 → p < 256 →
    mark_at new c q ≡ (if (cpu == c) && (p == q) then value else mark_at marks c q) → value ≡ mark_of xs → c < 9 → q < 256 →
    mark_at new c q ≡ mark_of (ring_at (slice_set rings (number_of cpu p) xs) (number_of c q))
marked-by true rings marks new cpu p value xs c q test was listed small now is on within =
    let same : (number_of cpu p == number_of c q) ≡ true = number-is cpu p c q small within ∙ test in
    let ring : ring_at (slice_set rings (number_of cpu p) xs) (number_of c q) ≡ xs =
    grind (arith, nat_tests, same, set-ring rings (number_of cpu p) (number_of c q) xs (omega (arith, number-small cpu p listed small, was.count))) in
    let mark : mark_at new c q ≡ value = grind (arith, nat_tests, now, test) in
    mark ∙ is ∙ ap mark_of (sym ring)
marked-by false rings marks new cpu p value xs c q test was listed small now is on within =
    let other : (number_of cpu p == number_of c q) ≡ false = number-is cpu p c q small within ∙ test in
    let ring : ring_at (slice_set rings (number_of cpu p) xs) (number_of c q) ≡ ring_at rings (number_of c q) =
    grind (arith, nat_tests, other, set-ring rings (number_of cpu p) (number_of c q) xs (omega (arith, number-small cpu p listed small, was.count))) in
    let mark : mark_at new c q ≡ mark_at marks c q = grind (arith, nat_tests, now, test) in
    mark ∙ was.marked c q on within ∙ ap mark_of (sym ring)

mark_of-none : (xs : List ℕ) → is_some (head_of xs) ≡ false → mark_of xs ≡ 0
mark_of-none [] none = refl
mark_of-none (x ∷ xs) none = absurd (true≢false none)

-- the marks still tell it where a ring has changed
pub marked-changed : (rings : List (List ℕ)) (marks new : List ℕ) (cpu p value : ℕ) (xs : List ℕ) → IsMarked rings marks → cpu < 9 → p < 256 → length new ≡ 36 →
    ((c q : ℕ) → q < 256 → mark_at new c q ≡ (if (cpu == c) && (p == q) then value else mark_at marks c q)) → value ≡ mark_of xs → IsMarked (slice_set rings (number_of cpu p) xs) new
marked-changed rings marks new cpu p value xs was listed small long marks_are is = record {
  count = length-set rings (number_of cpu p) xs ∙ was.count;
  long = long;
  marked = λ c q on within.
      marked-by ((cpu == c) && (p == q)) rings marks new cpu p value xs c q refl was listed small (marks_are c q within) is on within;
}

pub marked-entered : (rings : List (List ℕ)) (marks : List ℕ) (cpu p id : ℕ) → IsMarked rings marks → cpu < 9 → p < 256 →
    IsMarked (slice_set rings (number_of cpu p) (ring_at rings (number_of cpu p) ++ id ∷ [])) (with_mark cpu p marks)
marked-entered rings marks cpu p id was listed small =
    marked-changed rings marks (with_mark cpu p marks) cpu p 1 (ring_at rings (number_of cpu p) ++ id ∷ []) was listed small (length-set marks (word_of cpu p) _ ∙ was.long)
    (λ c q within. mark_at-with cpu p c q marks was.long listed small within) (sym (mark_of-more (ring_at rings (number_of cpu p)) id))

pub marked-emptied : (rings : List (List ℕ)) (marks : List ℕ) (cpu p : ℕ) (xs : List ℕ) → IsMarked rings marks → cpu < 9 → p < 256 → mark_of xs ≡ 0 →
    IsMarked (slice_set rings (number_of cpu p) xs) (without_mark cpu p marks)
marked-emptied rings marks cpu p xs was listed small empty =
    marked-changed rings marks (without_mark cpu p marks) cpu p 0 xs was listed small (length-set marks (word_of cpu p) _ ∙ was.long)
    (λ c q within. mark_at-without cpu p c q marks was.long listed small within) (sym empty)

-- Who is in which ring.

in-none : (rings : List (List ℕ)) (id r : ℕ) → r < 2304 → ((c : ℕ) → has id (slice_index_or (lists_of rings) c []) ≡ false) → has_node id (ring_at rings r) ≡ false
unfolding ready_of
in-none rings id r within none =
    let cpu_small : r / 256 < 9 = omega (arith, within) in
    let p_small : r % 256 < 256 = omega arith in
    let number : number_of (r / 256) (r % 256) ≡ r = omega arith in
    ap (λ s. has_node id (ring_at rings s)) (sym number)
    ∙ joined-has rings (r / 256) 0 256 (r % 256) id (omega arith) (omega (arith, p_small)) (ap (has id) (sym (lists-at rings (r / 256) cpu_small)) ∙ none (r / 256))

none-by : (small : Bool) (rings : List (List ℕ)) (id r : ℕ) → nat_lt r 2304 ≡ small → length rings ≡ 2304 → ((c : ℕ) → has id (slice_index_or (lists_of rings) c []) ≡ false) → has_node id (ring_at rings r) ≡ false
none-by true rings id r test count none = in-none rings id r (grind (arith, nat_tests, test)) none
none-by false rings id r test count none = ap (has_node id) (get_or_past rings r [] (grind (arith, nat_tests, test, count)))

pub none-anywhere : (rings : List (List ℕ)) (id r : ℕ) → length rings ≡ 2304 → ((c : ℕ) → has id (slice_index_or (lists_of rings) c []) ≡ false) → has_node id (ring_at rings r) ≡ false
none-anywhere rings id r count none = none-by (nat_lt r 2304) rings id r refl count none

pub in-ring : (rings : List (List ℕ)) (cpu p id : ℕ) → cpu < 9 → priority_in id (slice_index_or (lists_of rings) cpu []) ≡ Some p → has_node id (ring_at rings (number_of cpu p)) ≡ true
unfolding ready_of
in-ring rings cpu p id listed there = joined-priority rings cpu 0 256 p id (ap (priority_in id) (sym (lists-at rings cpu listed)) ∙ there)

pub turn-stays : (rings : List (List ℕ)) (cpu p id : ℕ) → IsApart rings → cpu < 9 →
    priority_in id (rotated p (slice_index_or (lists_of rings) cpu [])) ≡ priority_in id (slice_index_or (lists_of rings) cpu [])
unfolding ready_of
turn-stays rings cpu p id apart listed =
    priority_in-rotated id p (slice_index_or (lists_of rings) cpu []) (subst AreApart (sym (lists-at rings cpu listed)) (joined-apart rings cpu 0 256 apart))

-- The first.

pub first-none : (rings : List (List ℕ)) (marks : List ℕ) (cpu : ℕ) → IsMarked rings marks → cpu < 9 → ((p : ℕ) → p < 256 → mark_at marks cpu p ≡ 0) →
    None ≡ first_id (slice_index_or (lists_of rings) cpu [])
unfolding ready_of
first-none rings marks cpu was listed none =
    ap first_id (sym (lists-at rings cpu listed ∙ joined-empty rings cpu 0 256 (λ q below. sym (was.marked cpu q listed (omega (arith, below))) ∙ none q (omega (arith, below)))))

pub first-some : (rings : List (List ℕ)) (marks : List ℕ) (cpu p : ℕ) → IsMarked rings marks → cpu < 9 → p < 256 → mark_at marks cpu p ≡ 1 → ((q : ℕ) → q < p → mark_at marks cpu q ≡ 0) →
    head_of (ring_at rings (number_of cpu p)) ≡ first_id (slice_index_or (lists_of rings) cpu [])
unfolding ready_of
first-some rings marks cpu p was listed small own before =
    sym (ap first_id (lists-at rings cpu listed)
    ∙ joined-first rings cpu 0 256 p (omega arith) (omega (arith, small)) (sym (was.marked cpu p listed small) ∙ own)
    (λ q below. sym (was.marked cpu q listed (omega (arith, below, small))) ∙ before q below))

-- At the making.

empty-ring-by : (small : Bool) (n r : ℕ) → nat_lt r n ≡ small → ring_at (replicate n []) r ≡ []
empty-ring-by true n r test = get_or-replicate n r [] [] (grind (arith, nat_tests, test))
empty-ring-by false n r test = get_or_past (replicate n []) r [] (grind (arith, nat_tests, test, length-replicate {A = List ℕ} n []))

empty-ring : (n r : ℕ) → ring_at (replicate n []) r ≡ []
empty-ring n r = empty-ring-by (nat_lt r n) n r refl

pub lists-new : lists_of (replicate 2304 []) ≡ replicate 9 []
unfolding ready_of
lists-new =
    ext_get_or [] (lists_of (replicate 2304 [])) (replicate 9 []) (lists-length (replicate 2304 []) ∙ sym (length-replicate {A = List Plain} 9 [])) (λ c within.
    let small : c < 9 = omega (arith, within, lists-length (replicate 2304 [])) in
    lists-at (replicate 2304 []) c small ∙ joined-empty (replicate 2304 []) c 0 256 (λ q below. ap mark_of (empty-ring 2304 (number_of c q))) ∙ sym (get_or-replicate 9 c [] [] small))

pub marked-new : IsMarked (replicate 2304 []) (replicate 36 0)
marked-new = record {
  count = length-replicate {A = List ℕ} 2304 [];
  long = length-replicate {A = ℕ} 36 0;
  marked = λ cpu p listed small.
      ap (λ w. bit_at w (p % 64)) (get_or-replicate 36 (word_of cpu p) 0 0 (omega (arith, listed, small))) ∙ bit_at-zero (p % 64) ∙ sym (ap mark_of (empty-ring 2304 (number_of cpu p)));
}

-- Equal lists are of equal rings.

abbrev of_priority : ℕ → List Plain → List ℕ
of_priority q [] = []
of_priority q (x ∷ xs) = if x.priority == q then x.id ∷ of_priority q xs else of_priority q xs

of_priority-own : (q : ℕ) (xs : List ℕ) (rest : List Plain) → of_priority q (entries q xs ++ rest) ≡ xs ++ of_priority q rest
of_priority-own q [] rest = refl
of_priority-own q (x ∷ xs) rest = grind (arith, nat_tests, of_priority-own q xs rest)

of_priority-other : (q p : ℕ) (xs : List ℕ) (rest : List Plain) → (p == q) ≡ false → of_priority q (entries p xs ++ rest) ≡ of_priority q rest
of_priority-other q p [] rest other = refl
of_priority-other q p (x ∷ xs) rest other = grind (arith, nat_tests, other, of_priority-other q p xs rest other)

of_priority-above : (rings : List (List ℕ)) (cpu p n q : ℕ) → q < p → of_priority q (joined rings cpu p n) ≡ []
of_priority-above rings cpu p zero q order = refl
of_priority-above rings cpu p (suc n) q order =
    of_priority-other q p (ring_at rings (number_of cpu p)) (joined rings cpu (suc p) n) (grind (arith, nat_tests, order)) ∙ of_priority-above rings cpu (suc p) n q (omega (arith, order))

nodes-by : (here : Bool) (rings : List (List ℕ)) (cpu p n q : ℕ) → (p == q) ≡ here → p ≤ q → (suc p ≤ q → of_priority q (joined rings cpu (suc p) n) ≡ ring_at rings (number_of cpu q)) →
    of_priority q (entries p (ring_at rings (number_of cpu p)) ++ joined rings cpu (suc p) n) ≡ ring_at rings (number_of cpu q)
nodes-by true rings cpu p n q test from again =
    let is : p ≡ q = grind (arith, nat_tests, test) in
    ap (λ r. of_priority q (entries r (ring_at rings (number_of cpu r)) ++ joined rings cpu (suc p) n)) is ∙ of_priority-own q (ring_at rings (number_of cpu q)) (joined rings cpu (suc p) n)
    ∙ ap (λ l. ring_at rings (number_of cpu q) ++ l) (of_priority-above rings cpu (suc p) n q (omega (arith, is))) ∙ append-nil (ring_at rings (number_of cpu q))
nodes-by false rings cpu p n q test from again =
    of_priority-other q p (ring_at rings (number_of cpu p)) (joined rings cpu (suc p) n) test ∙ again (grind (arith, nat_tests, test, from))

joined-nodes : (rings : List (List ℕ)) (cpu p n q : ℕ) → p ≤ q → q < p + n → of_priority q (joined rings cpu p n) ≡ ring_at rings (number_of cpu q)
joined-nodes rings cpu p zero q from below = let wrong : ⊥ = omega (arith, from, below) in absurd wrong
joined-nodes rings cpu p (suc n) q from below = nodes-by (p == q) rings cpu p n q refl from (λ order. joined-nodes rings cpu (suc p) n q order (omega (arith, below)))

ring-from : (rings : List (List ℕ)) (cpu p : ℕ) → cpu < 9 → p < 256 → of_priority p (slice_index_or (lists_of rings) cpu []) ≡ ring_at rings (number_of cpu p)
unfolding ready_of
ring-from rings cpu p listed small = ap (of_priority p) (lists-at rings cpu listed) ∙ joined-nodes rings cpu 0 256 p (omega arith) (omega (arith, small))

pub rings-same : (rings others : List (List ℕ)) → length rings ≡ 2304 → length others ≡ 2304 → lists_of rings ≡ lists_of others → rings ≡ others
rings-same rings others count long same =
    ext_get_or [] rings others (count ∙ sym long) (λ r within.
    let cpu_small : r / 256 < 9 = omega (arith, within, count) in
    let p_small : r % 256 < 256 = omega arith in
    let number : number_of (r / 256) (r % 256) ≡ r = omega arith in
    ap (ring_at rings) (sym number) ∙ sym (ring-from rings (r / 256) (r % 256) cpu_small p_small)
    ∙ ap (λ l. of_priority (r % 256) (slice_index_or l (r / 256) [])) same
    ∙ ring-from others (r / 256) (r % 256) cpu_small p_small ∙ ap (ring_at others) number)

-- The same of what a function has made step by step.

pub in-ring-as : (rings : List (List ℕ)) (now : List (List Plain)) (cpu p id ring : ℕ) → lists_of rings ≡ now → cpu < 9 → ring ≡ number_of cpu p → priority_in id (slice_index_or now cpu []) ≡ Some p →
    has_node id (ring_at rings ring) ≡ true
in-ring-as rings now cpu p id ring view listed number there =
    ap (λ r. has_node id (ring_at rings r)) number ∙ in-ring rings cpu p id listed (ap (λ l. priority_in id (slice_index_or l cpu [])) view ∙ there)

pub marked-emptied-as : (rings after : List (List ℕ)) (marks new : List ℕ) (cpu p id ring : ℕ) (head : Option ℕ) → IsMarked rings marks → cpu < 9 → p < 256 → ring ≡ number_of cpu p →
    after ≡ slice_set rings ring (without_node id (ring_at rings ring)) → head ≡ head_of (ring_at after ring) → is_some head ≡ false → new ≡ without_mark cpu p marks → IsMarked after new
marked-emptied-as rings after marks new cpu p id ring head was listed small number is at_head none new_is =
    subst (λ r. after ≡ slice_set rings r (without_node id (ring_at rings r)) → head ≡ head_of (ring_at after r) → IsMarked after new) (sym number)
    (λ made first.
    let within : number_of cpu p < length rings = omega (arith, number-small cpu p listed small, was.count) in
    let ring_is : ring_at after (number_of cpu p) ≡ without_node id (ring_at rings (number_of cpu p)) =
    ap (λ l. ring_at l (number_of cpu p)) made ∙ get_or-set_at rings (number_of cpu p) (number_of cpu p) (without_node id (ring_at rings (number_of cpu p))) [] refl within in
    let empty : mark_of (without_node id (ring_at rings (number_of cpu p))) ≡ 0 = mark_of-none (without_node id (ring_at rings (number_of cpu p))) (ap is_some (sym (first ∙ ap head_of ring_is)) ∙ none) in
    subst (λ l. IsMarked l new) (sym made) (subst (λ m. IsMarked (slice_set rings (number_of cpu p) (without_node id (ring_at rings (number_of cpu p)))) m) (sym new_is)
    (marked-emptied rings marks cpu p (without_node id (ring_at rings (number_of cpu p))) was listed small empty)))
    is at_head

pub lists-left-as : (rings after : List (List ℕ)) (marks : List ℕ) (now : List (List Plain)) (cpu p id ring : ℕ) → IsMarked rings marks → lists_of rings ≡ now → cpu < 9 → p < 256 → IsApart rings → has_node id (ring_at rings ring) ≡ true →
    ring ≡ number_of cpu p → after ≡ slice_set rings ring (without_node id (ring_at rings ring)) → lists_of after ≡ slice_set now cpu (without id (slice_index_or now cpu []))
lists-left-as rings after marks now cpu p id ring was view listed small apart there number is =
    subst (λ l. lists_of after ≡ slice_set l cpu (without id (slice_index_or l cpu []))) view
    (subst (λ r. after ≡ slice_set rings r (without_node id (ring_at rings r)) → has_node id (ring_at rings r) ≡ true → lists_of after ≡ slice_set (lists_of rings) cpu (without id (slice_index_or (lists_of rings) cpu []))) (sym number)
    (λ made stood. ap lists_of made ∙ lists-left rings cpu p id was.count listed small apart stood) is there)

pub marked-entered-as : (rings after : List (List ℕ)) (marks new : List ℕ) (cpu p id ring : ℕ) → IsMarked rings marks → cpu < 9 → p < 256 → ring ≡ number_of cpu p →
    after ≡ slice_set rings ring (ring_at rings ring ++ id ∷ []) → new ≡ with_mark cpu p marks → IsMarked after new
marked-entered-as rings after marks new cpu p id ring was listed small number is new_is =
    subst (λ r. after ≡ slice_set rings r (ring_at rings r ++ id ∷ []) → IsMarked after new) (sym number)
    (λ made. subst (λ l. IsMarked l new) (sym made) (subst (λ m. IsMarked (slice_set rings (number_of cpu p) (ring_at rings (number_of cpu p) ++ id ∷ [])) m) (sym new_is) (marked-entered rings marks cpu p id was listed small))) is

pub lists-entered-as : (rings after : List (List ℕ)) (marks : List ℕ) (now : List (List Plain)) (cpu p id ring : ℕ) → IsMarked rings marks → lists_of rings ≡ now → cpu < 9 → p < 256 → ring ≡ number_of cpu p →
    after ≡ slice_set rings ring (ring_at rings ring ++ id ∷ []) → lists_of after ≡ slice_set now cpu (behind_equals (entry p id) (slice_index_or now cpu []))
lists-entered-as rings after marks now cpu p id ring was view listed small number is =
    subst (λ l. lists_of after ≡ slice_set l cpu (behind_equals (entry p id) (slice_index_or l cpu []))) view
    (subst (λ r. after ≡ slice_set rings r (ring_at rings r ++ id ∷ []) → lists_of after ≡ slice_set (lists_of rings) cpu (behind_equals (entry p id) (slice_index_or (lists_of rings) cpu []))) (sym number)
    (λ made. ap lists_of made ∙ lists-entered rings cpu p id was.count listed small) is)

pub lists-turned-as : (rings after : List (List ℕ)) (marks : List ℕ) (now : List (List Plain)) (cpu p ring : ℕ) → IsMarked rings marks → lists_of rings ≡ now → cpu < 9 → p < 256 → IsApart rings → ring ≡ number_of cpu p →
    after ≡ slice_set rings ring (turned (ring_at rings ring)) → lists_of after ≡ slice_set now cpu (rotated p (slice_index_or now cpu []))
lists-turned-as rings after marks now cpu p ring was view listed small apart number is =
    subst (λ l. lists_of after ≡ slice_set l cpu (rotated p (slice_index_or l cpu []))) view
    (subst (λ r. after ≡ slice_set rings r (turned (ring_at rings r)) → lists_of after ≡ slice_set (lists_of rings) cpu (rotated p (slice_index_or (lists_of rings) cpu []))) (sym number)
    (λ made. ap lists_of made ∙ lists-turned rings cpu p was.count listed small apart) is)
