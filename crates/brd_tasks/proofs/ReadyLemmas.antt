-- Ready lists as rings: what a change of one ring makes of the list of its processor.
use Rattle.std.proofs.Common.{◌≡◌, ◌<◌, ◌≤◌, ℕ, zero, suc, ◌+◌, List, [], ◌∷◌, ◌++◌, length, refl, sym, ap, subst, ◌∙◌, arith}
use Rattle.std.specs.Prelude.{Bool, true, false, ◌==◌, ◌||◌, if◌then◌else◌, None, Some, find, slice_index_or, slice_set}
use Rattle.std.specs.Option.{option_map}
use Rattle.std.proofs.lemmas.Bool.Decides.{nat_tests}
use Rattle.std.proofs.lemmas.Grind.{get_or-set_at}
use Rattle.std.proofs.lemmas.List.{get_or-set_other, ext_get_or, length-set, set-get_or}
use Rattle.std.proofs.lemmas.List.FromFn.{length-map-range_with_len, get_or-map-range_with_len}
use Rattle.brd_queue.specs.Queue.{Plain, has, priority_in, behind_equals, without, rotated, moved_behind, AreApart}
use Rattle.brd_rings.specs.Rings.{ring_at, has as has_node, without as without_node, turned, head_of, AreApart as NodesApart, IsApart}
use Rattle.brd_tasks.specs.Tasks.{first_id}
use Rattle.brd_tasks.specs.ReadyRings.{entry, entries, number_of, joined, ready_of, lists_of, mark_of}

-- The list of a processor, ring by ring.

pub has-entries : (id p : ℕ) (xs : List ℕ) (rest : List Plain) → has id (entries p xs ++ rest) ≡ (has_node id xs || has id rest)
has-entries id p [] rest = refl
has-entries id p (x ∷ xs) rest = grind (arith, nat_tests, has-entries id p xs rest)

priority_in-entries : (id p : ℕ) (xs : List ℕ) (rest : List Plain) → priority_in id (entries p xs ++ rest) ≡ (if has_node id xs then Some p else priority_in id rest)
priority_in-entries id p [] rest = refl
priority_in-entries id p (x ∷ xs) rest = grind (arith, nat_tests, priority_in-entries id p xs rest)

without-entries : (id p : ℕ) (xs : List ℕ) (rest : List Plain) → without id (entries p xs ++ rest) ≡ entries p (without_node id xs) ++ without id rest
without-entries id p [] rest = refl
without-entries id p (x ∷ xs) rest = grind (arith, nat_tests, without-entries id p xs rest)

-- a task at the end of a ring stands before those of the next
entries-more : (id p : ℕ) (xs : List ℕ) (rest : List Plain) → entries p (xs ++ id ∷ []) ++ rest ≡ entries p xs ++ entry p id ∷ rest
entries-more id p [] rest = refl
entries-more id p (x ∷ xs) rest = ap (λ l. entry p x ∷ l) (entries-more id p xs rest)

-- after those of a priority that isn't lower
behind-entries : (e : Plain) (p : ℕ) (xs : List ℕ) (rest : List Plain) → p ≤ e.priority → behind_equals e (entries p xs ++ rest) ≡ entries p xs ++ behind_equals e rest
behind-entries e p [] rest order = refl
behind-entries e p (x ∷ xs) rest order = grind (arith, nat_tests, order, behind-entries e p xs rest order)

-- before those of a lower priority
before-entries : (e : Plain) (p : ℕ) (xs : List ℕ) (rest : List Plain) → e.priority < p → behind_equals e rest ≡ e ∷ rest → behind_equals e (entries p xs ++ rest) ≡ e ∷ (entries p xs ++ rest)
before-entries e p [] rest order first = first
before-entries e p (x ∷ xs) rest order first = grind (arith, nat_tests, order)

find-other : (q p : ℕ) (xs : List ℕ) (rest : List Plain) → (p == q) ≡ false → find (λ x. x.priority == q) (entries p xs ++ rest) ≡ find (λ x. x.priority == q) rest
find-other q p [] rest other = refl
find-other q p (x ∷ xs) rest other = grind (arith, nat_tests, other, find-other q p xs rest other)

before-joined : (rings : List (List ℕ)) (cpu p n : ℕ) (e : Plain) → e.priority < p → behind_equals e (joined rings cpu p n) ≡ e ∷ joined rings cpu p n
before-joined rings cpu p zero e order = refl
before-joined rings cpu p (suc n) e order =
    before-entries e p (ring_at rings (number_of cpu p)) (joined rings cpu (suc p) n) order (before-joined rings cpu (suc p) n e (omega (arith, order)))

find-above : (rings : List (List ℕ)) (cpu p n q : ℕ) → q < p → find (λ x. x.priority == q) (joined rings cpu p n) ≡ None
find-above rings cpu p zero q order = refl
find-above rings cpu p (suc n) q order =
    find-other q p (ring_at rings (number_of cpu p)) (joined rings cpu (suc p) n) (grind (arith, nat_tests, order)) ∙ find-above rings cpu (suc p) n q (omega (arith, order))

pub joined-same : (rings new : List (List ℕ)) (cpu p n : ℕ) → ((q : ℕ) → p ≤ q → q < p + n → ring_at new (number_of cpu q) ≡ ring_at rings (number_of cpu q)) →
    joined new cpu p n ≡ joined rings cpu p n
joined-same rings new cpu p zero same = refl
joined-same rings new cpu p (suc n) same =
    ap (λ xs. entries p xs ++ joined new cpu (suc p) n) (same p (omega arith) (omega arith))
    ∙ ap (λ l. entries p (ring_at rings (number_of cpu p)) ++ l) (joined-same rings new cpu (suc p) n (λ q from below. same q (omega (arith, from)) (omega (arith, below))))

-- A task enters.

entered-by : (here : Bool) (rings new : List (List ℕ)) (cpu p n q id : ℕ) → (p == q) ≡ here → p ≤ q → q < p + suc n →
    ((r : ℕ) → r < p + suc n → ring_at new (number_of cpu r) ≡ (if r == q then ring_at rings (number_of cpu r) ++ id ∷ [] else ring_at rings (number_of cpu r))) →
    (suc p ≤ q → joined new cpu (suc p) n ≡ behind_equals (entry q id) (joined rings cpu (suc p) n)) →
    joined new cpu p (suc n) ≡ behind_equals (entry q id) (joined rings cpu p (suc n))
entered-by true rings new cpu p n q id test from below change again =
    let is : p ≡ q = grind (arith, nat_tests, test) in
    let ring : ring_at new (number_of cpu p) ≡ ring_at rings (number_of cpu p) ++ id ∷ [] = grind (arith, nat_tests, test, change p (omega arith)) in
    let rest : joined new cpu (suc p) n ≡ joined rings cpu (suc p) n =
    joined-same rings new cpu (suc p) n (λ r above under.
    let other : (r == q) ≡ false = grind (arith, nat_tests, is, above) in
    grind (arith, nat_tests, other, change r (omega (arith, under)))) in
    let xs : List ℕ = ring_at rings (number_of cpu p) in
    let tail : List Plain = joined rings cpu (suc p) n in
    let first : behind_equals (entry q id) (joined rings cpu (suc p) n) ≡ entry q id ∷ joined rings cpu (suc p) n = before-joined rings cpu (suc p) n (entry q id) (omega (arith, is)) in
    ap (λ l. entries p l ++ joined new cpu (suc p) n) ring ∙ ap (λ l. entries p (xs ++ id ∷ []) ++ l) rest ∙ entries-more id p xs tail
    ∙ ap (λ r. entries p xs ++ entry r id ∷ tail) is ∙ ap (λ l. entries p xs ++ l) (sym first) ∙ sym (behind-entries (entry q id) p xs tail (omega (arith, is)))
entered-by false rings new cpu p n q id test from below change again =
    let order : suc p ≤ q = grind (arith, nat_tests, test, from) in
    let ring : ring_at new (number_of cpu p) ≡ ring_at rings (number_of cpu p) = grind (arith, nat_tests, test, change p (omega arith)) in
    ap (λ l. entries p l ++ joined new cpu (suc p) n) ring ∙ ap (λ l. entries p (ring_at rings (number_of cpu p)) ++ l) (again order)
    ∙ sym (behind-entries (entry q id) p (ring_at rings (number_of cpu p)) (joined rings cpu (suc p) n) (omega (arith, from)))

joined-entered : (rings new : List (List ℕ)) (cpu p n q id : ℕ) → p ≤ q → q < p + n →
    ((r : ℕ) → r < p + n → ring_at new (number_of cpu r) ≡ (if r == q then ring_at rings (number_of cpu r) ++ id ∷ [] else ring_at rings (number_of cpu r))) →
    joined new cpu p n ≡ behind_equals (entry q id) (joined rings cpu p n)
joined-entered rings new cpu p zero q id from below change = let wrong : ⊥ = omega (arith, from, below) in absurd wrong
joined-entered rings new cpu p (suc n) q id from below change =
    entered-by (p == q) rings new cpu p n q id refl from below change
    (λ order. joined-entered rings new cpu (suc p) n q id order (omega (arith, below)) (λ r under. change r (omega (arith, under))))

-- A task leaves.

joined-left : (rings new : List (List ℕ)) (cpu p n id : ℕ) → ((r : ℕ) → r < p + n → ring_at new (number_of cpu r) ≡ without_node id (ring_at rings (number_of cpu r))) →
    joined new cpu p n ≡ without id (joined rings cpu p n)
joined-left rings new cpu p zero id change = refl
joined-left rings new cpu p (suc n) id change =
    ap (λ l. entries p l ++ joined new cpu (suc p) n) (change p (omega arith))
    ∙ ap (λ l. entries p (without_node id (ring_at rings (number_of cpu p))) ++ l) (joined-left rings new cpu (suc p) n id (λ r under. change r (omega (arith, under))))
    ∙ sym (without-entries id p (ring_at rings (number_of cpu p)) (joined rings cpu (suc p) n))

-- Who stands in the list.

joined-has-by : (here : Bool) (rings : List (List ℕ)) (cpu p n q id : ℕ) → (p == q) ≡ here → p ≤ q → has_node id (ring_at rings (number_of cpu p)) ≡ false →
    (suc p ≤ q → has_node id (ring_at rings (number_of cpu q)) ≡ false) → has_node id (ring_at rings (number_of cpu q)) ≡ false
joined-has-by true rings cpu p n q id test from none again =
    let is : p ≡ q = grind (arith, nat_tests, test) in subst (λ r. has_node id (ring_at rings (number_of cpu r)) ≡ false) is none
joined-has-by false rings cpu p n q id test from none again = again (grind (arith, nat_tests, test, from))

pub joined-has : (rings : List (List ℕ)) (cpu p n q id : ℕ) → p ≤ q → q < p + n → has id (joined rings cpu p n) ≡ false → has_node id (ring_at rings (number_of cpu q)) ≡ false
joined-has rings cpu p zero q id from below none = let wrong : ⊥ = omega (arith, from, below) in absurd wrong
joined-has rings cpu p (suc n) q id from below none = joined-has-by (p == q) rings cpu p n q id refl from
    (grind (arith, nat_tests, none, has-entries id p (ring_at rings (number_of cpu p)) (joined rings cpu (suc p) n)))
    (λ order. joined-has rings cpu (suc p) n q id order (omega (arith, below)) (grind (arith, nat_tests, none, has-entries id p (ring_at rings (number_of cpu p)) (joined rings cpu (suc p) n))))

joined-none : (rings : List (List ℕ)) (cpu p n id : ℕ) → ((q : ℕ) → p ≤ q → has_node id (ring_at rings (number_of cpu q)) ≡ false) → has id (joined rings cpu p n) ≡ false
joined-none rings cpu p zero id none = refl
joined-none rings cpu p (suc n) id none =
    grind (arith, nat_tests, has-entries id p (ring_at rings (number_of cpu p)) (joined rings cpu (suc p) n), none p (omega arith), joined-none rings cpu (suc p) n id (λ q from. none q (omega (arith, from))))

joined-priority-by : (here : Bool) (rings : List (List ℕ)) (cpu p n q id : ℕ) → has_node id (ring_at rings (number_of cpu p)) ≡ here →
    (if has_node id (ring_at rings (number_of cpu p)) then Some p else priority_in id (joined rings cpu (suc p) n)) ≡ Some q →
    (priority_in id (joined rings cpu (suc p) n) ≡ Some q → has_node id (ring_at rings (number_of cpu q)) ≡ true) → has_node id (ring_at rings (number_of cpu q)) ≡ true
joined-priority-by true rings cpu p n q id test there again =
    let is : p ≡ q = grind (arith, nat_tests, test, there) in subst (λ r. has_node id (ring_at rings (number_of cpu r)) ≡ true) is test
joined-priority-by false rings cpu p n q id test there again = again (grind (arith, nat_tests, test, there))

pub joined-priority : (rings : List (List ℕ)) (cpu p n q id : ℕ) → priority_in id (joined rings cpu p n) ≡ Some q → has_node id (ring_at rings (number_of cpu q)) ≡ true
joined-priority rings cpu p zero q id there = let wrong : ⊥ = cc in absurd wrong
joined-priority rings cpu p (suc n) q id there =
    joined-priority-by (has_node id (ring_at rings (number_of cpu p))) rings cpu p n q id refl
    (sym (priority_in-entries id p (ring_at rings (number_of cpu p)) (joined rings cpu (suc p) n)) ∙ there) (λ rest. joined-priority rings cpu (suc p) n q id rest)

apart-entries : (p : ℕ) (xs : List ℕ) (rest : List Plain) → NodesApart xs → ((id : ℕ) → has_node id xs ≡ true → has id rest ≡ false) → AreApart rest → AreApart (entries p xs ++ rest)
apart-entries p [] rest nodes elsewhere apart = apart
apart-entries p (x ∷ xs) rest nodes elsewhere apart =
    (nodes.0, grind (arith, nat_tests, has-entries x p xs rest, nodes.1, elsewhere x), apart-entries p xs rest nodes.2 (λ id there. elsewhere id (grind (arith, nat_tests, there))) apart)

elsewhere-by : (here : Bool) (rings : List (List ℕ)) (cpu p q id : ℕ) → has_node id (ring_at rings (number_of cpu q)) ≡ here → IsApart rings →
    has_node id (ring_at rings (number_of cpu p)) ≡ true → suc p ≤ q → here ≡ false
elsewhere-by true rings cpu p q id test apart there from =
    let wrong : ⊥ = omega (arith, from, apart.alone id (number_of cpu p) (number_of cpu q) there test) in absurd wrong
elsewhere-by false rings cpu p q id test apart there from = refl

pub joined-apart : (rings : List (List ℕ)) (cpu p n : ℕ) → IsApart rings → AreApart (joined rings cpu p n)
joined-apart rings cpu p zero apart = tt
joined-apart rings cpu p (suc n) apart =
    apart-entries p (ring_at rings (number_of cpu p)) (joined rings cpu (suc p) n) (apart.each (number_of cpu p))
    (λ id there. joined-none rings cpu (suc p) n id (λ q from. elsewhere-by (has_node id (ring_at rings (number_of cpu q))) rings cpu p q id refl apart there from))
    (joined-apart rings cpu (suc p) n apart)

-- The first of a priority, and of all.

find-by : (here : Bool) (rings : List (List ℕ)) (cpu p n q : ℕ) → (p == q) ≡ here → p ≤ q → (xs : List ℕ) → ring_at rings (number_of cpu p) ≡ xs →
    (suc p ≤ q → find (λ x. x.priority == q) (joined rings cpu (suc p) n) ≡ option_map (entry q) (head_of (ring_at rings (number_of cpu q)))) →
    find (λ x. x.priority == q) (entries p xs ++ joined rings cpu (suc p) n) ≡ option_map (entry q) (head_of (ring_at rings (number_of cpu q)))
find-by true rings cpu p n q test from [] ring again =
    let is : p ≡ q = grind (arith, nat_tests, test) in
    find-above rings cpu (suc p) n q (omega (arith, is)) ∙ ap (λ l. option_map (entry q) (head_of l)) (sym ring ∙ ap (λ r. ring_at rings (number_of cpu r)) is)
find-by true rings cpu p n q test from (x ∷ xs) ring again =
    let is : p ≡ q = grind (arith, nat_tests, test) in
    let found : find (λ y. y.priority == q) (entries p (x ∷ xs) ++ joined rings cpu (suc p) n) ≡ Some (entry p x) = rw test refl in
    found ∙ ap (λ r. Some (entry r x)) is ∙ ap (λ l. option_map (entry q) (head_of l)) (sym ring ∙ ap (λ r. ring_at rings (number_of cpu r)) is)
find-by false rings cpu p n q test from xs ring again =
    find-other q p xs (joined rings cpu (suc p) n) test ∙ again (grind (arith, nat_tests, test, from))

unmarked : (xs : List ℕ) → mark_of xs ≡ 0 → xs ≡ []
unmarked [] none = refl
unmarked (x ∷ xs) none = let wrong : ⊥ = omega (arith, none) in absurd wrong

joined-find : (rings : List (List ℕ)) (cpu p n q : ℕ) → p ≤ q → q < p + n → find (λ x. x.priority == q) (joined rings cpu p n) ≡ option_map (entry q) (head_of (ring_at rings (number_of cpu q)))
joined-find rings cpu p zero q from below = let wrong : ⊥ = omega (arith, from, below) in absurd wrong
joined-find rings cpu p (suc n) q from below =
    find-by (p == q) rings cpu p n q refl from (ring_at rings (number_of cpu p)) refl (λ order. joined-find rings cpu (suc p) n q order (omega (arith, below)))

pub joined-empty : (rings : List (List ℕ)) (cpu p n : ℕ) → ((q : ℕ) → q < p + n → mark_of (ring_at rings (number_of cpu q)) ≡ 0) → joined rings cpu p n ≡ []
joined-empty rings cpu p zero none = refl
joined-empty rings cpu p (suc n) none =
    ap (λ l. entries p l ++ joined rings cpu (suc p) n) (unmarked (ring_at rings (number_of cpu p)) (none p (omega arith)))
    ∙ joined-empty rings cpu (suc p) n (λ q under. none q (omega (arith, under)))

first-by : (here : Bool) (rings : List (List ℕ)) (cpu p n q : ℕ) → (p == q) ≡ here → p ≤ q → (xs : List ℕ) → ring_at rings (number_of cpu p) ≡ xs →
    mark_of (ring_at rings (number_of cpu q)) ≡ 1 → ((r : ℕ) → r < q → mark_of (ring_at rings (number_of cpu r)) ≡ 0) →
    (suc p ≤ q → first_id (joined rings cpu (suc p) n) ≡ head_of (ring_at rings (number_of cpu q))) →
    first_id (entries p xs ++ joined rings cpu (suc p) n) ≡ head_of (ring_at rings (number_of cpu q))
first-by true rings cpu p n q test from [] ring some none again =
    let is : p ≡ q = grind (arith, nat_tests, test) in
    let zero_is : 0 ≡ 1 = ap mark_of (sym ring) ∙ ap (λ r. mark_of (ring_at rings (number_of cpu r))) is ∙ some in
    let wrong : ⊥ = omega (arith, zero_is) in absurd wrong
first-by true rings cpu p n q test from (x ∷ xs) ring some none again =
    let is : p ≡ q = grind (arith, nat_tests, test) in
    ap head_of (sym ring ∙ ap (λ r. ring_at rings (number_of cpu r)) is)
first-by false rings cpu p n q test from xs ring some none again =
    let order : suc p ≤ q = grind (arith, nat_tests, test, from) in
    let empty : xs ≡ [] = sym ring ∙ unmarked (ring_at rings (number_of cpu p)) (none p (omega (arith, order))) in
    ap (λ l. first_id (entries p l ++ joined rings cpu (suc p) n)) empty ∙ again order

pub joined-first : (rings : List (List ℕ)) (cpu p n q : ℕ) → p ≤ q → q < p + n → mark_of (ring_at rings (number_of cpu q)) ≡ 1 → ((r : ℕ) → r < q → mark_of (ring_at rings (number_of cpu r)) ≡ 0) →
    first_id (joined rings cpu p n) ≡ head_of (ring_at rings (number_of cpu q))
joined-first rings cpu p zero q from below some none = let wrong : ⊥ = omega (arith, from, below) in absurd wrong
joined-first rings cpu p (suc n) q from below some none =
    first-by (p == q) rings cpu p n q refl from (ring_at rings (number_of cpu p)) refl some none (λ order. joined-first rings cpu (suc p) n q order (omega (arith, below)) some none)

-- The lists of all processors.

pub lists-length : (rings : List (List ℕ)) → length (lists_of rings) ≡ 9
unfolding lists_of
lists-length rings = length-map-range_with_len (ready_of rings) 0 9

pub lists-at : (rings : List (List ℕ)) (cpu : ℕ) → cpu < 9 → slice_index_or (lists_of rings) cpu [] ≡ ready_of rings cpu
unfolding lists_of
lists-at rings cpu listed = get_or-map-range_with_len (ready_of rings) 0 9 cpu cpu [] listed (omega arith)

lists-by : (here : Bool) (rings new : List (List ℕ)) (cpu c : ℕ) (xs : List Plain) → (c == cpu) ≡ here → cpu < 9 → c < 9 → ready_of new cpu ≡ xs → ((c == cpu) ≡ false → ready_of new c ≡ ready_of rings c) →
    ready_of new c ≡ slice_index_or (slice_set (lists_of rings) cpu xs) c []
lists-by true rings new cpu c xs test listed within own others =
    let is : c ≡ cpu = grind (arith, nat_tests, test) in
    ap (ready_of new) is ∙ own ∙ sym (get_or-set_at (lists_of rings) cpu c xs [] is (omega (arith, listed, lists-length rings)))
lists-by false rings new cpu c xs test listed within own others =
    others test ∙ sym (lists-at rings c within) ∙ sym (get_or-set_other (lists_of rings) cpu c xs [] (λ is. grind (arith, nat_tests, test, is)))

-- the list of one processor is another, and the others are as they were
pub lists-changed : (rings new : List (List ℕ)) (cpu : ℕ) (xs : List Plain) → cpu < 9 → ready_of new cpu ≡ xs → ((c : ℕ) → (c == cpu) ≡ false → ready_of new c ≡ ready_of rings c) →
    lists_of new ≡ slice_set (lists_of rings) cpu xs
lists-changed rings new cpu xs listed own others =
    ext_get_or [] (lists_of new) (slice_set (lists_of rings) cpu xs) (lists-length new ∙ sym (length-set (lists_of rings) cpu xs ∙ lists-length rings)) (λ c within.
    let small : c < 9 = omega (arith, within, lists-length new) in
    lists-at new c small ∙ lists-by (c == cpu) rings new cpu c xs refl listed small own (others c))

pub set-ring : (rings : List (List ℕ)) (r s : ℕ) (xs : List ℕ) → r < length rings → ring_at (slice_set rings r xs) s ≡ (if r == s then xs else ring_at rings s)
set-ring rings r s xs small = grind (arith, nat_tests, get_or-set_at rings r s xs [], get_or-set_other rings r s xs [])

pub number-small : (cpu p : ℕ) → cpu < 9 → p < 256 → number_of cpu p < 2304
number-small cpu p listed small = omega (arith, listed, small)

-- a ring of another processor is another
number-differs : (cpu p c q : ℕ) → (c == cpu) ≡ false → p < 256 → q < 256 → (number_of cpu p == number_of c q) ≡ false
number-differs cpu p c q other small within = grind (arith, nat_tests, other, small, within)

number-same : (cpu p q : ℕ) → (number_of cpu p == number_of cpu q) ≡ (q == p)
number-same cpu p q = grind (arith, nat_tests)

others-stay : (rings : List (List ℕ)) (cpu p c : ℕ) (xs : List ℕ) → length rings ≡ 2304 → cpu < 9 → p < 256 → (c == cpu) ≡ false → ready_of (slice_set rings (number_of cpu p) xs) c ≡ ready_of rings c
unfolding ready_of
others-stay rings cpu p c xs count listed small other =
    joined-same rings (slice_set rings (number_of cpu p) xs) c 0 256 (λ q from below.
    grind (arith, nat_tests, set-ring rings (number_of cpu p) (number_of c q) xs (omega (arith, number-small cpu p listed small, count)), number-differs cpu p c q other small (omega (arith, below))))

ring-changed : (rings : List (List ℕ)) (cpu p q : ℕ) (xs : List ℕ) → length rings ≡ 2304 → cpu < 9 → p < 256 → ring_at (slice_set rings (number_of cpu p) xs) (number_of cpu q) ≡ (if q == p then xs else ring_at rings (number_of cpu q))
ring-changed rings cpu p q xs count listed small =
    grind (arith, nat_tests, set-ring rings (number_of cpu p) (number_of cpu q) xs (omega (arith, number-small cpu p listed small, count)), number-same cpu p q)

entered-ring : (own : Bool) (rings : List (List ℕ)) (cpu p r id : ℕ) → (r == p) ≡ own → length rings ≡ 2304 → cpu < 9 → p < 256 →
    ring_at (slice_set rings (number_of cpu p) (ring_at rings (number_of cpu p) ++ id ∷ [])) (number_of cpu r) ≡ (if own then ring_at rings (number_of cpu r) ++ id ∷ [] else ring_at rings (number_of cpu r))
entered-ring true rings cpu p r id test count listed small =
    let is : r ≡ p = grind (arith, nat_tests, test) in
    grind (arith, nat_tests, test, ring-changed rings cpu p r (ring_at rings (number_of cpu p) ++ id ∷ []) count listed small) ∙ ap (λ s. ring_at rings (number_of cpu s) ++ id ∷ []) (sym is)
entered-ring false rings cpu p r id test count listed small =
    grind (arith, nat_tests, test, ring-changed rings cpu p r (ring_at rings (number_of cpu p) ++ id ∷ []) count listed small)

-- a task enters
ready-entered : (rings : List (List ℕ)) (cpu p id : ℕ) → length rings ≡ 2304 → cpu < 9 → p < 256 →
    ready_of (slice_set rings (number_of cpu p) (ring_at rings (number_of cpu p) ++ id ∷ [])) cpu ≡ behind_equals (entry p id) (ready_of rings cpu)
unfolding ready_of
ready-entered rings cpu p id count listed small =
    joined-entered rings (slice_set rings (number_of cpu p) (ring_at rings (number_of cpu p) ++ id ∷ [])) cpu 0 256 p id (omega arith) (omega (arith, small))
    (λ r below. entered-ring (r == p) rings cpu p r id refl count listed small)

pub lists-entered : (rings : List (List ℕ)) (cpu p id : ℕ) → length rings ≡ 2304 → cpu < 9 → p < 256 →
    lists_of (slice_set rings (number_of cpu p) (ring_at rings (number_of cpu p) ++ id ∷ [])) ≡ slice_set (lists_of rings) cpu (behind_equals (entry p id) (slice_index_or (lists_of rings) cpu []))
lists-entered rings cpu p id count listed small =
    lists-changed rings (slice_set rings (number_of cpu p) (ring_at rings (number_of cpu p) ++ id ∷ [])) cpu (behind_equals (entry p id) (slice_index_or (lists_of rings) cpu [])) listed
    (ready-entered rings cpu p id count listed small ∙ ap (behind_equals (entry p id)) (sym (lists-at rings cpu listed)))
    (λ c other. others-stay rings cpu p c (ring_at rings (number_of cpu p) ++ id ∷ []) count listed small other)

without_node-absent : (id : ℕ) (xs : List ℕ) → has_node id xs ≡ false → without_node id xs ≡ xs
without_node-absent id [] none = refl
without_node-absent id (x ∷ xs) none = grind (arith, nat_tests, none, without_node-absent id xs)

-- who is in a ring is in no other
only-there : (here : Bool) (rings : List (List ℕ)) (cpu p r id : ℕ) → has_node id (ring_at rings (number_of cpu r)) ≡ here → (r == p) ≡ false → IsApart rings →
    has_node id (ring_at rings (number_of cpu p)) ≡ true → here ≡ false
only-there true rings cpu p r id test other apart there =
    let same : number_of cpu r ≡ number_of cpu p = apart.alone id (number_of cpu r) (number_of cpu p) test there in
    let is : r ≡ p = omega (arith, same) in
    let wrong : ⊥ = grind (arith, nat_tests, other, is) in absurd wrong
only-there false rings cpu p r id test other apart there = refl

left-ring : (own : Bool) (rings : List (List ℕ)) (cpu p r id : ℕ) → (r == p) ≡ own → length rings ≡ 2304 → cpu < 9 → p < 256 → IsApart rings → has_node id (ring_at rings (number_of cpu p)) ≡ true →
    ring_at (slice_set rings (number_of cpu p) (without_node id (ring_at rings (number_of cpu p)))) (number_of cpu r) ≡ without_node id (ring_at rings (number_of cpu r))
left-ring true rings cpu p r id test count listed small apart there =
    let is : r ≡ p = grind (arith, nat_tests, test) in
    let now : ring_at (slice_set rings (number_of cpu p) (without_node id (ring_at rings (number_of cpu p)))) (number_of cpu r) ≡ without_node id (ring_at rings (number_of cpu p)) =
    grind (arith, nat_tests, test, ring-changed rings cpu p r (without_node id (ring_at rings (number_of cpu p))) count listed small) in
    now ∙ ap (λ s. without_node id (ring_at rings (number_of cpu s))) (sym is)
left-ring false rings cpu p r id test count listed small apart there =
    let now : ring_at (slice_set rings (number_of cpu p) (without_node id (ring_at rings (number_of cpu p)))) (number_of cpu r) ≡ ring_at rings (number_of cpu r) =
    grind (arith, nat_tests, test, ring-changed rings cpu p r (without_node id (ring_at rings (number_of cpu p))) count listed small) in
    now ∙ sym (without_node-absent id (ring_at rings (number_of cpu r)) (only-there (has_node id (ring_at rings (number_of cpu r))) rings cpu p r id refl test apart there))

-- a task leaves
ready-left : (rings : List (List ℕ)) (cpu p id : ℕ) → length rings ≡ 2304 → cpu < 9 → p < 256 → IsApart rings → has_node id (ring_at rings (number_of cpu p)) ≡ true →
    ready_of (slice_set rings (number_of cpu p) (without_node id (ring_at rings (number_of cpu p)))) cpu ≡ without id (ready_of rings cpu)
unfolding ready_of
ready-left rings cpu p id count listed small apart there =
    joined-left rings (slice_set rings (number_of cpu p) (without_node id (ring_at rings (number_of cpu p)))) cpu 0 256 id
    (λ r below. left-ring (r == p) rings cpu p r id refl count listed small apart there)

pub lists-left : (rings : List (List ℕ)) (cpu p id : ℕ) → length rings ≡ 2304 → cpu < 9 → p < 256 → IsApart rings → has_node id (ring_at rings (number_of cpu p)) ≡ true →
    lists_of (slice_set rings (number_of cpu p) (without_node id (ring_at rings (number_of cpu p)))) ≡ slice_set (lists_of rings) cpu (without id (slice_index_or (lists_of rings) cpu []))
lists-left rings cpu p id count listed small apart there =
    lists-changed rings (slice_set rings (number_of cpu p) (without_node id (ring_at rings (number_of cpu p)))) cpu (without id (slice_index_or (lists_of rings) cpu [])) listed
    (ready-left rings cpu p id count listed small apart there ∙ ap (without id) (sym (lists-at rings cpu listed)))
    (λ c other. others-stay rings cpu p c (without_node id (ring_at rings (number_of cpu p))) count listed small other)

-- a ring is written twice
set-twice : (rings : List (List ℕ)) (i : ℕ) (xs ys : List ℕ) → i < length rings → slice_set (slice_set rings i xs) i ys ≡ slice_set rings i ys
set-twice rings i xs ys small =
    ext_get_or [] (slice_set (slice_set rings i xs) i ys) (slice_set rings i ys) (length-set (slice_set rings i xs) i ys ∙ length-set rings i xs ∙ sym (length-set rings i ys)) (λ j within.
    grind (arith, nat_tests, set-ring (slice_set rings i xs) i j ys (omega (arith, small, length-set rings i xs)), set-ring rings i j xs small, set-ring rings i j ys small))

without-head : (x : ℕ) (xs : List ℕ) → NodesApart (x ∷ xs) → without_node x (x ∷ xs) ≡ xs
without-head x xs apart = grind (arith, nat_tests, apart.1, without_node-absent x xs)

turned-by : (rings : List (List ℕ)) (cpu p : ℕ) (xs : List ℕ) → ring_at rings (number_of cpu p) ≡ xs → length rings ≡ 2304 → cpu < 9 → p < 256 → IsApart rings →
    joined (slice_set rings (number_of cpu p) (turned (ring_at rings (number_of cpu p)))) cpu 0 256 ≡ moved_behind (option_map (entry p) (head_of (ring_at rings (number_of cpu p)))) (joined rings cpu 0 256)
turned-by rings cpu p [] ring count listed small apart =
    let same : slice_set rings (number_of cpu p) (turned (ring_at rings (number_of cpu p))) ≡ rings =
    ap (slice_set rings (number_of cpu p)) (ap turned ring ∙ sym ring) ∙ set-get_or rings (number_of cpu p) [] in
    ap (λ l. joined l cpu 0 256) same ∙ ap (λ l. moved_behind (option_map (entry p) (head_of l)) (joined rings cpu 0 256)) (sym ring)
turned-by rings cpu p (x ∷ xs) ring count listed small apart =
    let at : ℕ = number_of cpu p in
    let between : List (List ℕ) = slice_set rings (number_of cpu p) (without_node x (ring_at rings (number_of cpu p))) in
    let within : number_of cpu p < length rings = omega (arith, number-small cpu p listed small, count) in
    let there : has_node x (ring_at rings (number_of cpu p)) ≡ true = ap (has_node x) ring ∙ grind (arith, nat_tests) in
    let rest : without_node x (ring_at rings (number_of cpu p)) ≡ xs = ap (without_node x) ring ∙ without-head x xs (subst NodesApart ring (apart.each (number_of cpu p))) in
    let ring_between : ring_at between (number_of cpu p) ≡ xs =
    get_or-set_at rings (number_of cpu p) (number_of cpu p) (without_node x (ring_at rings (number_of cpu p))) [] refl within ∙ rest in
    let last : turned (ring_at rings (number_of cpu p)) ≡ ring_at between (number_of cpu p) ++ x ∷ [] = ap turned ring ∙ ap (λ l. l ++ x ∷ []) (sym ring_between) in
    let new : slice_set rings (number_of cpu p) (turned (ring_at rings (number_of cpu p))) ≡ slice_set between (number_of cpu p) (ring_at between (number_of cpu p) ++ x ∷ []) =
    ap (slice_set rings (number_of cpu p)) last ∙ sym (set-twice rings (number_of cpu p) (without_node x (ring_at rings (number_of cpu p))) (ring_at between (number_of cpu p) ++ x ∷ []) within) in
    let long : length between ≡ 2304 = length-set rings (number_of cpu p) (without_node x (ring_at rings (number_of cpu p))) ∙ count in
    let gone : joined between cpu 0 256 ≡ without x (joined rings cpu 0 256) =
    joined-left rings between cpu 0 256 x (λ r below. left-ring (r == p) rings cpu p r x refl count listed small apart there) in
    let back : joined (slice_set between (number_of cpu p) (ring_at between (number_of cpu p) ++ x ∷ [])) cpu 0 256 ≡ behind_equals (entry p x) (joined between cpu 0 256) =
    joined-entered between (slice_set between (number_of cpu p) (ring_at between (number_of cpu p) ++ x ∷ [])) cpu 0 256 p x (omega arith) (omega (arith, small))
    (λ r below. entered-ring (r == p) between cpu p r x refl long listed small) in
    ap (λ l. joined l cpu 0 256) new ∙ back ∙ ap (behind_equals (entry p x)) gone ∙ ap (λ l. moved_behind (option_map (entry p) (head_of l)) (joined rings cpu 0 256)) (sym ring)

-- the first of a priority goes after its equals
ready-turned : (rings : List (List ℕ)) (cpu p : ℕ) → length rings ≡ 2304 → cpu < 9 → p < 256 → IsApart rings →
    ready_of (slice_set rings (number_of cpu p) (turned (ring_at rings (number_of cpu p)))) cpu ≡ rotated p (ready_of rings cpu)
unfolding ready_of
ready-turned rings cpu p count listed small apart =
    turned-by rings cpu p (ring_at rings (number_of cpu p)) refl count listed small apart
    ∙ ap (λ found. moved_behind found (joined rings cpu 0 256)) (sym (joined-find rings cpu 0 256 p (omega arith) (omega (arith, small))))

pub lists-turned : (rings : List (List ℕ)) (cpu p : ℕ) → length rings ≡ 2304 → cpu < 9 → p < 256 → IsApart rings →
    lists_of (slice_set rings (number_of cpu p) (turned (ring_at rings (number_of cpu p)))) ≡ slice_set (lists_of rings) cpu (rotated p (slice_index_or (lists_of rings) cpu []))
lists-turned rings cpu p count listed small apart =
    lists-changed rings (slice_set rings (number_of cpu p) (turned (ring_at rings (number_of cpu p)))) cpu (rotated p (slice_index_or (lists_of rings) cpu [])) listed
    (ready-turned rings cpu p count listed small apart ∙ ap (rotated p) (sym (lists-at rings cpu listed)))
    (λ c other. others-stay rings cpu p c (turned (ring_at rings (number_of cpu p))) count listed small other)
