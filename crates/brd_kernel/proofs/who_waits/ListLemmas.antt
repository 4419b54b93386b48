-- What comes and goes in a list of waiters: with which priority each task stands in it then, and that none stands in it
-- twice.
use Rattle.std.proofs.Common.{◌≡◌, ◌<◌, ℕ, zero, suc, List, [], ◌∷◌, ◌++◌, refl, sym, ap, subst, ◌∙◌, arith}
use Rattle.std.specs.Prelude.{Bool, true, false, ◌==◌, ◌&&◌, ◌||◌, if◌then◌else◌, find, Option, None, Some, is_some, slice_index_or, slice_set}
use Rattle.std.specs.Option.{option_map}
use Rattle.std.proofs.lemmas.Bool.{true≢false, false≢true}
use Rattle.std.proofs.lemmas.Bool.Decides.{nat_tests}
use Rattle.brd_queue.specs.declared.entry.QueueEntry.{QueueEntry}
use Rattle.brd_queue.specs.declared.entry.QueueOrder.{QueueOrder}
use Rattle.brd_queue.specs.declared.entry.QueueOrder.TheVariants.{Arrival, Priority}
use Rattle.brd_queue.specs.Queue.{has, priority_in, without, placed, moved_behind, with_priority, renumbered, reordered, AreApart}
use Rattle.brd_queue.proofs.QueueLemmas.{has-without_own, apart-without, apart-entered, apart-renumbered}
use Rattle.brd_queue.proofs.PriorityLemmas.{priority_in-without, priority_in-behind_equals, has-priority_in}
use Rattle.brd_objects.specs.declared.want.Want.{Want}
use Rattle.brd_objects.specs.Waiters.{satisfies}
use Rattle.brd_objects.specs.Flags.{released_of, kept_of}
use Rattle.brd_kernel.specs.Waiting.{plain}

-- a task is one of those
abbrev pub among : ℕ → List ℕ → Bool
among id [] = false
among id (other ∷ others) = (other == id) || among id others

-- what holds either way
pub either : {A : Type 0} → (P : A → Type 0) (test : Bool) (x y : A) → P x → P y → P (if test then x else y)
either P true x y one other = one
either P false x y one other = other

pub if-lift : {A B : Type 0} → (f : A → B) (test : Bool) (one other : A) → f (if test then one else other) ≡ (if test then f one else f other)
if-lift f true one other = refl
if-lift f false one other = refl

none-by : (found : Option ℕ) → is_some found ≡ false → found ≡ None
none-by None is = refl
none-by (Some n) is = absurd (true≢false is)

-- who doesn't stand in a list has no priority there
pub priority_in-absent : {W : Type 0} → (id : ℕ) (xs : List (QueueEntry W)) → has id xs ≡ false → priority_in id xs ≡ None
priority_in-absent id xs none = none-by (priority_in id xs) (sym (has-priority_in id xs) ∙ none)

pub same-number : (m n : ℕ) → (m == n) ≡ true → m ≡ n
same-number m n is = grind (arith, nat_tests, is)

-- The first leaves.

first-by : {W : Type 0} → (same : Bool) (id : ℕ) (x : QueueEntry W) (xs : List (QueueEntry W)) → (x.id == id) ≡ same → has x.id xs ≡ false →
    priority_in id xs ≡ (if same then None else (if same then Some x.priority else priority_in id xs))
first-by true id x xs test none = priority_in-absent id xs (ap (λ n. has n xs) (sym (same-number x.id id test)) ∙ none)
first-by false id x xs test none = refl

pub priority_in-first : {W : Type 0} → (id : ℕ) (x : QueueEntry W) (xs : List (QueueEntry W)) → AreApart (x ∷ xs) →
    priority_in id xs ≡ (if x.id == id then None else priority_in id (x ∷ xs))
priority_in-first id x xs apart = first-by (x.id == id) id x xs refl apart.1

-- Whatever each wants.

pub has-plain : {W : Type 0} → (id : ℕ) (xs : List (QueueEntry W)) → has id (plain xs) ≡ has id xs
has-plain id [] = refl
has-plain id (x ∷ xs) = ap (λ t. (x.id == id) || t) (has-plain id xs)

pub priority_in-plain : {W : Type 0} → (id : ℕ) (xs : List (QueueEntry W)) → priority_in id (plain xs) ≡ priority_in id xs
priority_in-plain id [] = refl
priority_in-plain id (x ∷ xs) = ap (λ p. if x.id == id then Some x.priority else p) (priority_in-plain id xs)

pub apart-plain : {W : Type 0} → (xs : List (QueueEntry W)) → AreApart xs → AreApart (plain xs)
apart-plain [] apart = tt
apart-plain (x ∷ xs) apart = (apart.0, has-plain x.id xs ∙ apart.1, apart-plain xs apart.2)

pub apart-wanting : {W : Type 0} → (xs : List (QueueEntry W)) → AreApart (plain xs) → AreApart xs
apart-wanting [] apart = tt
apart-wanting (x ∷ xs) apart = (apart.0, sym (has-plain x.id xs) ∙ apart.1, apart-wanting xs apart.2)

-- One comes.

priority_in-append : {W : Type 0} → (id : ℕ) (e : QueueEntry W) (xs : List (QueueEntry W)) → has e.id xs ≡ false →
    priority_in id (xs ++ e ∷ []) ≡ (if e.id == id then Some e.priority else priority_in id xs)
priority_in-append id e [] new = refl
priority_in-append id e (x ∷ xs) new = grind (arith, nat_tests, new, priority_in-append id e xs)

without-by : {W : Type 0} → (same : Bool) (id : ℕ) (e : QueueEntry W) (xs : List (QueueEntry W)) → (e.id == id) ≡ same →
    (if same then Some e.priority else priority_in id (without e.id xs)) ≡ (if same then Some e.priority else priority_in id xs)
without-by true id e xs test = refl
without-by false id e xs test = priority_in-without id e.id xs ∙ ap (λ t. if t then None else priority_in id xs) test

pub priority_in-placed : {W : Type 0} → (order : QueueOrder) (id : ℕ) (e : QueueEntry W) (xs : List (QueueEntry W)) →
    priority_in id (placed order e xs) ≡ (if e.id == id then Some e.priority else priority_in id xs)
priority_in-placed Arrival id e xs = priority_in-append id e (without e.id xs) (has-without_own e.id xs) ∙ without-by (e.id == id) id e xs refl
priority_in-placed Priority id e xs =
    priority_in-behind_equals id e (without e.id xs) (has-without_own e.id xs) ∙ without-by (e.id == id) id e xs refl

pub apart-placed : {W : Type 0} → (order : QueueOrder) (e : QueueEntry W) (xs : List (QueueEntry W)) → e.id < 256 → AreApart xs → AreApart (placed order e xs)
apart-placed order e xs small apart = apart-entered order e (without e.id xs) small (has-without_own e.id xs) (apart-without e.id xs apart)

-- One is given another priority.

priority_in-renumbered : {W : Type 0} → (at id p : ℕ) (xs : List (QueueEntry W)) →
    priority_in at (renumbered id p xs) ≡ (if (id == at) && has id xs then Some p else priority_in at xs)
priority_in-renumbered at id p [] = grind (arith, nat_tests)
priority_in-renumbered at id p (x ∷ xs) = grind (arith, nat_tests, priority_in-renumbered at id p xs)

-- who is found stands in the list, and where nobody is found it doesn't
record IsFound {W : Type 0} (id : ℕ) (xs : List (QueueEntry W)) (found : Option (QueueEntry W)) : Type 0 where
  there : has id xs ≡ is_some found
  own : (e : QueueEntry W) → found ≡ Some e → e.id ≡ id

found-by : {W : Type 0} → (same : Bool) (id : ℕ) (x : QueueEntry W) (xs : List (QueueEntry W)) → (x.id == id) ≡ same →
    IsFound id xs (find (λ y. y.id == id) xs) →
    ((if same then true else has id xs) ≡ is_some (if same then Some x else find (λ y. y.id == id) xs))
    × ((e : QueueEntry W) → (if same then Some x else find (λ y. y.id == id) xs) ≡ Some e → e.id ≡ id)
found-by true id x xs test rest = (refl, λ e is. let same : x ≡ e = cc in ap (λ y. y.id) (sym same) ∙ same-number x.id id test)
found-by false id x xs test rest = (rest.there, rest.own)

or-if : (one other : Bool) → one || other ≡ (if one then true else other)
or-if true other = refl
or-if false other = refl

found-in : {W : Type 0} → (id : ℕ) (xs : List (QueueEntry W)) → IsFound id xs (find (λ y. y.id == id) xs)
found-in id [] = record { there = refl; own = λ e is. let wrong : ⊥ = cc in absurd wrong }
found-in id (x ∷ xs) =
    let both = found-by (x.id == id) id x xs refl (found-in id xs) in
    record { there = or-if (x.id == id) (has id xs) ∙ both.0; own = both.1 }

moved-by : {W : Type 0} → (at id p : ℕ) (xs : List (QueueEntry W)) (found : Option (QueueEntry W)) → IsFound id xs found →
    priority_in at (moved_behind (option_map (with_priority p) found) xs) ≡ (if (id == at) && has id xs then Some p else priority_in at xs)
moved-by at id p xs None found = grind (arith, nat_tests, found.there)
moved-by at id p xs (Some e) found =
    priority_in-placed Priority at (with_priority p e) xs
    ∙ grind (arith, nat_tests, found.there, found.own e refl)

pub priority_in-reordered : {W : Type 0} → (order : QueueOrder) (at id p : ℕ) (xs : List (QueueEntry W)) →
    priority_in at (reordered order id p xs) ≡ (if (id == at) && has id xs then Some p else priority_in at xs)
priority_in-reordered Arrival at id p xs = priority_in-renumbered at id p xs
priority_in-reordered Priority at id p xs = moved-by at id p xs (find (λ y. y.id == id) xs) (found-in id xs)

small-there : {W : Type 0} → (id : ℕ) (xs : List (QueueEntry W)) → AreApart xs → has id xs ≡ true → id < 256
small-there id [] apart there = absurd (false≢true there)
small-there id (x ∷ xs) apart there = grind (arith, nat_tests, there, apart.0, small-there id xs apart.2)

apart-moved : {W : Type 0} → (id p : ℕ) (xs : List (QueueEntry W)) (found : Option (QueueEntry W)) → IsFound id xs found → AreApart xs →
    AreApart (moved_behind (option_map (with_priority p) found) xs)
apart-moved id p xs None found apart = apart
apart-moved id p xs (Some e) found apart =
    apart-placed Priority (with_priority p e) xs (subst (λ n. n < 256) (sym (found.own e refl)) (small-there id xs apart found.there)) apart

pub apart-reordered : {W : Type 0} → (order : QueueOrder) (id p : ℕ) (xs : List (QueueEntry W)) → AreApart xs → AreApart (reordered order id p xs)
apart-reordered Arrival id p xs apart = apart-renumbered id p xs apart
apart-reordered Priority id p xs apart = apart-moved id p xs (find (λ y. y.id == id) xs) (found-in id xs) apart

-- Those leave whom a pattern satisfies.

pub released-there : (clears : Bool) (p id : ℕ) (ws : List (QueueEntry Want)) → has id ws ≡ false → among id (released_of clears p ws) ≡ false
released-there clears p id [] none = refl
released-there clears p id (w ∷ ws) none = grind (arith, nat_tests, none, released-there clears p id ws)

has-kept : (clears : Bool) (p id : ℕ) (ws : List (QueueEntry Want)) → has id ws ≡ false → has id (kept_of clears p ws) ≡ false
has-kept clears p id [] none = refl
has-kept clears p id (w ∷ ws) none = grind (arith, nat_tests, none, has-kept clears p id ws)

kept-apart-by : (holds clears : Bool) (w : QueueEntry Want) (ws kept : List (QueueEntry Want)) → AreApart (w ∷ ws) → AreApart kept → has w.id kept ≡ false →
    AreApart (if holds then (if clears then ws else kept) else w ∷ kept)
kept-apart-by true true w ws kept apart rest new = apart.2
kept-apart-by true false w ws kept apart rest new = rest
kept-apart-by false clears w ws kept apart rest new = (apart.0, new, rest)

pub apart-kept : (clears : Bool) (p : ℕ) (ws : List (QueueEntry Want)) → AreApart ws → AreApart (kept_of clears p ws)
apart-kept clears p [] apart = tt
apart-kept clears p (w ∷ ws) apart =
    kept-apart-by (satisfies p w.wanted) clears w ws (kept_of clears p ws) apart (apart-kept clears p ws apart.2) (has-kept clears p w.id ws apart.1)

-- the parts of a list after its first: who is released of them, who is kept, and how all stand
kept-by : (holds clears same : Bool) (id : ℕ) (w : QueueEntry Want) (ws kept : List (QueueEntry Want)) (released : List ℕ) → (w.id == id) ≡ same →
    has w.id ws ≡ false →
    (has id ws ≡ false → among id released ≡ false) → priority_in id kept ≡ (if among id released then None else priority_in id ws) →
    priority_in id (if holds then (if clears then ws else kept) else w ∷ kept)
    ≡ (if among id (if holds then w.id ∷ (if clears then [] else released) else released) then None else priority_in id (w ∷ ws))
kept-by true true true id w ws kept released test new none rest =
    grind (arith, nat_tests, test, priority_in-absent id ws (ap (λ n. has n ws) (sym (same-number w.id id test)) ∙ new))
kept-by true true false id w ws kept released test new none rest = grind (arith, nat_tests, test)
kept-by true false true id w ws kept released test new none rest =
    grind (arith, nat_tests, test, rest, priority_in-absent id ws (ap (λ n. has n ws) (sym (same-number w.id id test)) ∙ new))
kept-by true false false id w ws kept released test new none rest = grind (arith, nat_tests, test, rest)
kept-by false clears true id w ws kept released test new none rest =
    grind (arith, nat_tests, test, none (ap (λ n. has n ws) (sym (same-number w.id id test)) ∙ new))
kept-by false clears false id w ws kept released test new none rest = grind (arith, nat_tests, test, rest)

pub priority_in-kept : (clears : Bool) (p id : ℕ) (ws : List (QueueEntry Want)) → AreApart ws →
    priority_in id (kept_of clears p ws) ≡ (if among id (released_of clears p ws) then None else priority_in id ws)
priority_in-kept clears p id [] apart = refl
priority_in-kept clears p id (w ∷ ws) apart =
    kept-by (satisfies p w.wanted) clears (w.id == id) id w ws (kept_of clears p ws) (released_of clears p ws) refl apart.1
    (released-there clears p id ws)
    (priority_in-kept clears p id ws apart.2)

-- Tables and rows, in which one place is changed.

if-next : {A : Type 0} → (m n : ℕ) (x y : A) → (if suc m == suc n then x else y) ≡ (if m == n then x else y)
if-next m n x y = grind (arith, nat_tests)

if-first : {A : Type 0} → (n : ℕ) (x y : A) → y ≡ (if 0 == suc n then x else y)
if-first n x y = grind (arith, nat_tests)

if-later : {A : Type 0} → (n : ℕ) (x y : A) → y ≡ (if suc n == 0 then x else y)
if-later n x y = grind (arith, nat_tests)

-- one that is there is written anew
pub written-at : {A : Type 0} → (xs : List (Option A)) (id at : ℕ) (x : A) (y : Option A) → slice_index_or xs id None ≡ Some x →
    slice_index_or (slice_set xs id y) at None ≡ (if id == at then y else slice_index_or xs at None)
written-at [] id at x y is = let wrong : ⊥ = cc in absurd wrong
written-at (z ∷ zs) zero zero x y is = refl
written-at (z ∷ zs) zero (suc at) x y is = if-first at y (slice_index_or zs at None)
written-at (z ∷ zs) (suc id) zero x y is = if-later id y z
written-at (z ∷ zs) (suc id) (suc at) x y is = written-at zs id at x y is ∙ sym (if-next id at y (slice_index_or zs at None))

pub if-same : {A : Type 0} → (test : Bool) (x : A) → (if test then x else x) ≡ x
if-same true x = refl
if-same false x = refl

pub cleared-at : {A : Type 0} → (xs : List (Option A)) (id at : ℕ) →
    slice_index_or (slice_set xs id None) at None ≡ (if id == at then None else slice_index_or xs at None)
cleared-at [] id at = sym (if-same (id == at) None)
cleared-at (z ∷ zs) zero zero = refl
cleared-at (z ∷ zs) zero (suc at) = if-first at None (slice_index_or zs at None)
cleared-at (z ∷ zs) (suc id) zero = if-later id None z
cleared-at (z ∷ zs) (suc id) (suc at) = cleared-at zs id at ∙ sym (if-next id at None (slice_index_or zs at None))
