-- What each call makes of the rings, over heads and links.
use Rattle.std.proofs.Common.{◌≡◌, ◌<◌, ◌≤◌, ℕ, zero, suc, ◌+◌, List, [], ◌∷◌, ◌++◌, length, map, replicate, refl, sym, ap, subst, ◌∙◌, true≢false, arith}
use Rattle.std.specs.Prelude.{Bool, true, false, ◌==◌, ◌||◌, ◌&&◌, not, if◌then◌else◌, nat_lt, slice_set, slice_index_or, Option, None, Some}
use Rattle.std.proofs.lemmas.Bool.Decides.{nat_tests}
use Rattle.std.proofs.lemmas.Grind.{get_or-set_at}
use Rattle.std.proofs.lemmas.List.{get_or-set_other, get_or-map, get_or-replicate, get_or_default, length-set, length-map, length-replicate, ext_get_or, set-get_or}
use Rattle.std.proofs.Math.ListN.{get_or-eq_default}
use Rattle.brd_rings.specs.declared.link.Link.{Link}
use Rattle.brd_rings.specs.declared.link.Ring.{Ring}
use Rattle.brd_rings.specs.declared.link.Ring.TheVariants.{Empty, From}
use Rattle.brd_rings.specs.Rings.{ring_at, has, without, turned, head_of, AreApart, IsApart}
use Rattle.brd_rings.specs.Layout.{loose, next_at, previous_at, linked_before, unlinked, head_after, ring_of, rings_of, IsNext, Passes, IsRound, stored, IsLinked}
use Rattle.brd_rings.proofs.NodeLemmas.{has-append, has-without, has-turned, apart-append, apart-without, apart-turned, small-among}
use Rattle.brd_rings.proofs.LinkLemmas.{kept-round, round-turned, entered-round, left-round, last-there, ring_of-linked, next-before, previous-before, next-unlinked, previous-unlinked, long-before, long-unlinked}

pub set-ring : (rings : List (List ℕ)) (r s : ℕ) (xs : List ℕ) → r < length rings → ring_at (slice_set rings r xs) s ≡ (if r == s then xs else ring_at rings s)
set-ring rings r s xs small = grind (arith, nat_tests, get_or-set_at rings r s xs [], get_or-set_other rings r s xs [])

set-head : (heads : List Ring) (r s : ℕ) (head : Ring) → r < length heads → slice_index_or (slice_set heads r head) s Empty ≡ (if r == s then head else slice_index_or heads s Empty)
set-head heads r s head small = grind (arith, nat_tests, get_or-set_at heads r s head Empty, get_or-set_other heads r s head Empty)

-- following the links from the heads gives the rings
pub rings_of-linked : (heads : List Ring) (links : List Link) (rings : List (List ℕ)) → IsLinked heads links rings → length rings ≡ length heads → rings_of heads links ≡ rings
rings_of-linked heads links rings linked long =
    ext_get_or [] (map (ring_of links) heads) rings (length-map heads (ring_of links) ∙ sym long) (λ i small.
    get_or-map (ring_of links) heads i Empty [] (omega (arith, small, length-map heads (ring_of links)))
    ∙ ap (ring_of links) (linked.headed i) ∙ ring_of-linked links (ring_at rings i) (linked.round i) (linked.apart.each i))

-- nodes of different rings differ
differ : (rings : List (List ℕ)) (r s i j : ℕ) → IsApart rings → has i (ring_at rings r) ≡ true → has j (ring_at rings s) ≡ true → (r == s) ≡ false → (i == j) ≡ false
differ rings r s i j apart here there other = grind (arith, nat_tests, apart.alone i r s, here, there, other)

-- A ring is another, and the links of the other rings' nodes are as they were.
pub record IsChange (heads : List Ring) (links : List Link) (rings : List (List ℕ)) (r : ℕ) (xs : List ℕ) (new : List Link) : Type 0 where
  within : r < length rings
  long : length new ≡ 256
  round : IsRound new xs
  apart : AreApart xs
  nexts : (i s : ℕ) → (r == s) ≡ false → has i (ring_at rings s) ≡ true → next_at new i ≡ next_at links i
  previouses : (i s : ℕ) → (r == s) ≡ false → has i (ring_at rings s) ≡ true → previous_at new i ≡ previous_at links i
  others : (i s : ℕ) → (r == s) ≡ false → has i xs ≡ true → has i (ring_at rings s) ≡ false
  free : (i : ℕ) → has i xs ≡ false → ((s : ℕ) → (r == s) ≡ false → has i (ring_at rings s) ≡ false) → (next_at new i ≡ 0) × (previous_at new i ≡ 0)

round-by : (same : Bool) (heads : List Ring) (links : List Link) (rings : List (List ℕ)) (r : ℕ) (xs : List ℕ) (new : List Link) (s : ℕ) → (r == s) ≡ same →
    IsLinked heads links rings → IsChange heads links rings r xs new → IsRound new (ring_at (slice_set rings r xs) s)
round-by true heads links rings r xs new s test was change =
    let is : xs ≡ ring_at (slice_set rings r xs) s = grind (arith, nat_tests, test, set-ring rings r s xs change.within) in
    subst (IsRound new) is change.round
round-by false heads links rings r xs new s test was change =
    let is : ring_at rings s ≡ ring_at (slice_set rings r xs) s = grind (arith, nat_tests, test, set-ring rings r s xs change.within) in
    subst (IsRound new) is (kept-round links new (ring_at rings s) (λ i there. change.nexts i s test there) (λ i there. change.previouses i s test there) (was.round s))

each-by : (same : Bool) (heads : List Ring) (links : List Link) (rings : List (List ℕ)) (r : ℕ) (xs : List ℕ) (new : List Link) (s : ℕ) → (r == s) ≡ same →
    IsLinked heads links rings → IsChange heads links rings r xs new → AreApart (ring_at (slice_set rings r xs) s)
each-by true heads links rings r xs new s test was change =
    let is : xs ≡ ring_at (slice_set rings r xs) s = grind (arith, nat_tests, test, set-ring rings r s xs change.within) in
    subst AreApart is change.apart
each-by false heads links rings r xs new s test was change =
    let is : ring_at rings s ≡ ring_at (slice_set rings r xs) s = grind (arith, nat_tests, test, set-ring rings r s xs change.within) in
    subst AreApart is (was.apart.each s)

pub changed : (heads : List Ring) (links : List Link) (rings : List (List ℕ)) (r : ℕ) (xs : List ℕ) (new : List Link) → length rings ≡ length heads →
    IsLinked heads links rings → IsChange heads links rings r xs new → IsLinked (slice_set heads r (stored xs)) new (slice_set rings r xs)
changed heads links rings r xs new long was change = record {
  long = change.long;
  headed = λ s. grind (arith, nat_tests, set-head heads r s (stored xs), set-ring rings r s xs, change.within, long, was.headed s);
  round = λ s. round-by (r == s) heads links rings r xs new s refl was change;
  apart = record {
    each = λ s. each-by (r == s) heads links rings r xs new s refl was change;
    alone = λ i s t here there. grind (arith, nat_tests, set-ring rings r s xs change.within, set-ring rings r t xs change.within, here, there, was.apart.alone i s t, change.others i s, change.others i t);
  };
  free = λ i out. change.free i (grind (arith, nat_tests, out r, set-ring rings r r xs change.within))
      (λ s other. grind (arith, nat_tests, out s, other, set-ring rings r s xs change.within));
}

-- who is in none of the others and not in this one is in none
in_none : (rings : List (List ℕ)) (r i : ℕ) → has i (ring_at rings r) ≡ false → ((s : ℕ) → (r == s) ≡ false → has i (ring_at rings s) ≡ false) → (s : ℕ) → has i (ring_at rings s) ≡ false
in_none rings r i here elsewhere s = grind (arith, nat_tests, here, elsewhere s)

-- A node enters.

entered-alone : (heads : List Ring) (links : List Link) (rings : List (List ℕ)) (r e : ℕ) → IsLinked heads links rings → r < length rings → e < 256 →
    ((s : ℕ) → has e (ring_at rings s) ≡ false) → ring_at rings r ≡ [] → IsChange heads links rings r (e ∷ []) (slice_set links e (record { next = e; previous = e }))
entered-alone heads links rings r e was within small new empty =
    let nexts : (i : ℕ) → next_at (slice_set links e (record { next = e; previous = e })) i ≡ (if e == i then e else next_at links i) =
    λ i. grind (arith, nat_tests, small, was.long, get_or-set_at links e i (record { next = e; previous = e }) loose, get_or-set_other links e i (record { next = e; previous = e }) loose) in
    let previouses : (i : ℕ) → previous_at (slice_set links e (record { next = e; previous = e })) i ≡ (if e == i then e else previous_at links i) =
    λ i. grind (arith, nat_tests, small, was.long, get_or-set_at links e i (record { next = e; previous = e }) loose, get_or-set_other links e i (record { next = e; previous = e }) loose) in
    record {
      within = within;
      long = length-set links e (record { next = e; previous = e }) ∙ was.long;
      round = (grind (arith, nat_tests, nexts e), grind (arith, nat_tests, previouses e));
      apart = (small, refl, tt);
      nexts = λ i s other there. grind (arith, nat_tests, nexts i, new s, there);
      previouses = λ i s other there. grind (arith, nat_tests, previouses i, new s, there);
      others = λ i s other here. grind (arith, nat_tests, here, new s);
      free = λ i out elsewhere.
          let none = was.free i (in_none rings r i (ap (has i) empty) elsewhere) in
          (grind (arith, nat_tests, nexts i, out, none.0), grind (arith, nat_tests, previouses i, out, none.1));
    }

entered-behind : (heads : List Ring) (links : List Link) (rings : List (List ℕ)) (r e h : ℕ) (t : List ℕ) → IsLinked heads links rings → r < length rings → e < 256 →
    ((s : ℕ) → has e (ring_at rings s) ≡ false) → ring_at rings r ≡ h ∷ t → IsChange heads links rings r (ring_at rings r ++ e ∷ []) (linked_before h e links)
entered-behind heads links rings r e h t was within small new is =
    let lies : AreApart (h ∷ t) = subst AreApart is (was.apart.each r) in
    let round : IsRound links (h ∷ t) = subst (IsRound links) is (was.round r) in
    let last : has (previous_at links h) (h ∷ t) ≡ true = last-there links h h t round in
    let last_here : has (previous_at links h) (ring_at rings r) ≡ true = ap (has (previous_at links h)) is ∙ last in
    let head_here : has h (ring_at rings r) ≡ true = ap (has h) is ∙ grind (arith, nat_tests) in
    let small_last : previous_at links h < length links = omega (arith, small-among (previous_at links h) (h ∷ t) lies last, was.long) in
    let small_head : h < length links = omega (arith, lies.0, was.long) in
    let small_node : e < length links = omega (arith, small, was.long) in
    let nexts : (i : ℕ) → next_at (linked_before h e links) i ≡ (if e == i then h else (if previous_at links h == i then e else next_at links i)) =
    λ i. next-before links h e i small_last small_head small_node in
    let previouses : (i : ℕ) → previous_at (linked_before h e links) i ≡ (if e == i then previous_at links h else (if h == i then e else previous_at links i)) =
    λ i. previous-before links h e i small_last small_head small_node in
    let out : has e (h ∷ t) ≡ false = ap (has e) (sym is) ∙ new r in
    record {
      within = within;
      long = long-before links h e ∙ was.long;
      round = subst (λ l. IsRound (linked_before h e links) (l ++ e ∷ [])) (sym is) (entered-round links (linked_before h e links) e h t nexts previouses out lies round);
      apart = apart-append e (ring_at rings r) small (new r) (was.apart.each r);
      nexts = λ i s other there. grind (arith, nat_tests, nexts i, new s, there, differ rings r s (previous_at links h) i was.apart last_here there other);
      previouses = λ i s other there. grind (arith, nat_tests, previouses i, new s, there, differ rings r s h i was.apart head_here there other);
      others = λ i s other here. grind (arith, nat_tests, here, new s, has-append i e (ring_at rings r), was.apart.alone i r s, other);
      free = λ i gone elsewhere.
          let here : has i (ring_at rings r) ≡ false = grind (arith, nat_tests, gone, has-append i e (ring_at rings r)) in
          let none = was.free i (in_none rings r i here elsewhere) in
          let own : (e == i) ≡ false = grind (arith, nat_tests, gone, has-append i e (ring_at rings r)) in
          (grind (arith, nat_tests, nexts i, own, here, last_here, none.0), grind (arith, nat_tests, previouses i, own, here, head_here, none.1));
    }

-- Heads and links hold these rings, and following the links gives them.
pub record Holds (heads : List Ring) (links : List Link) (rings : List (List ℕ)) : Type 0 where
  pub linked : IsLinked heads links (rings_of heads links)
  pub is : rings_of heads links ≡ rings

holds-of : (heads : List Ring) (links : List Link) (rings : List (List ℕ)) → IsLinked heads links rings → length rings ≡ length heads → Holds heads links rings
holds-of heads links rings linked long =
    let is : rings_of heads links ≡ rings = rings_of-linked heads links rings linked long in
    record { linked = subst (IsLinked heads links) (sym is) linked; is = is }

linked-of : (heads : List Ring) (links : List Link) (rings : List (List ℕ)) → Holds heads links rings → IsLinked heads links rings
linked-of heads links rings held = subst (IsLinked heads links) held.is held.linked

long-of : (heads : List Ring) (links : List Link) (rings : List (List ℕ)) → Holds heads links rings → length rings ≡ length heads
long-of heads links rings held = ap length (sym held.is) ∙ length-map heads (ring_of links)

holds-changed : (heads : List Ring) (links : List Link) (rings : List (List ℕ)) (r : ℕ) (xs : List ℕ) (new : List Link) → Holds heads links rings →
    IsChange heads links rings r xs new → Holds (slice_set heads r (stored xs)) new (slice_set rings r xs)
holds-changed heads links rings r xs new held change =
    let long : length rings ≡ length heads = long-of heads links rings held in
    holds-of (slice_set heads r (stored xs)) new (slice_set rings r xs) (changed heads links rings r xs new long (linked-of heads links rings held) change)
    (length-set rings r xs ∙ long ∙ sym (length-set heads r (stored xs)))

stored-empty : (xs : List ℕ) → stored xs ≡ Empty → xs ≡ []
stored-empty [] is = refl
stored-empty (x ∷ xs) is = let wrong : ⊥ = cc in absurd wrong

stored-from : (xs : List ℕ) (h : ℕ) (Q : List ℕ → Type 0) → stored xs ≡ From h → ((t : List ℕ) → xs ≡ h ∷ t → Q xs) → Q xs
stored-from [] h Q is go = let wrong : ⊥ = cc in absurd wrong
stored-from (x ∷ xs) h Q is go = let same : x ≡ h = cc in go xs (ap (λ n. n ∷ xs) same)

pub enters-alone : (heads : List Ring) (links : List Link) (rings : List (List ℕ)) (r e : ℕ) → Holds heads links rings → r < length rings → e < 256 →
    ((s : ℕ) → has e (ring_at rings s) ≡ false) → slice_index_or heads r Empty ≡ Empty →
    Holds (slice_set heads r (From e)) (slice_set links e (record { next = e; previous = e })) (slice_set rings r (ring_at rings r ++ e ∷ []))
enters-alone heads links rings r e held within small new head =
    let was : IsLinked heads links rings = linked-of heads links rings held in
    let empty : ring_at rings r ≡ [] = stored-empty (ring_at rings r) (sym (was.headed r) ∙ head) in
    subst (λ l. Holds (slice_set heads r (From e)) (slice_set links e (record { next = e; previous = e })) (slice_set rings r (l ++ e ∷ []))) (sym empty)
    (holds-changed heads links rings r (e ∷ []) (slice_set links e (record { next = e; previous = e })) held (entered-alone heads links rings r e was within small new empty))

-- the head of a ring that has one stays
stored-behind : (h e : ℕ) (t xs : List ℕ) → xs ≡ h ∷ t → stored (xs ++ e ∷ []) ≡ From h
stored-behind h e t xs is = ap (λ l. stored (l ++ e ∷ [])) is

pub enters-behind : (heads : List Ring) (links : List Link) (rings : List (List ℕ)) (r e h : ℕ) → Holds heads links rings → r < length rings → e < 256 →
    ((s : ℕ) → has e (ring_at rings s) ≡ false) → slice_index_or heads r Empty ≡ From h →
    Holds heads (linked_before h e links) (slice_set rings r (ring_at rings r ++ e ∷ []))
enters-behind heads links rings r e h held within small new head =
    let was : IsLinked heads links rings = linked-of heads links rings held in
    stored-from (ring_at rings r) h (λ xs. Holds heads (linked_before h e links) (slice_set rings r (ring_at rings r ++ e ∷ []))) (sym (was.headed r) ∙ head)
    (λ t is.
    let made = holds-changed heads links rings r (ring_at rings r ++ e ∷ []) (linked_before h e links) held (entered-behind heads links rings r e h t was within small new is) in
    let same : slice_set heads r (stored (ring_at rings r ++ e ∷ [])) ≡ heads =
    ap (slice_set heads r) (stored-behind h e t (ring_at rings r) is ∙ sym head) ∙ set-get_or heads r Empty in
    subst (λ hs. Holds hs (linked_before h e links) (slice_set rings r (ring_at rings r ++ e ∷ []))) same made)

-- A node leaves.

there-by : (small : Bool) (rings : List (List ℕ)) (r x : ℕ) → nat_lt r (length rings) ≡ small → has x (ring_at rings r) ≡ true → r < length rings
there-by true rings r x test there = grind (arith, nat_tests, test)
there-by false rings r x test there =
    let past : length rings ≤ r = grind (arith, nat_tests, test) in
    absurd (true≢false (sym there ∙ ap (has x) (get_or-eq_default rings [] past)))

-- whose ring has it is in a ring that is there
pub there-within : (rings : List (List ℕ)) (r x : ℕ) → has x (ring_at rings r) ≡ true → r < length rings
there-within rings r x there = there-by (nat_lt r (length rings)) rings r x refl there

next-there : (links : List Link) (x y h : ℕ) (t : List ℕ) → Passes links y t h → has x (y ∷ t) ≡ true → (has (next_at links x) t || (next_at links x == h)) ≡ true
next-there links x y h [] way there = grind (arith, nat_tests, way.0, there)
next-there links x y h (z ∷ zs) way there = grind (arith, nat_tests, way.0.0, there, next-there links x z h zs way.1)

previous-there : (links : List Link) (x y h : ℕ) (t : List ℕ) → Passes links y t h → has x t ≡ true → has (previous_at links x) (y ∷ t) ≡ true
previous-there links x y h [] way there = absurd (true≢false (sym there))
previous-there links x y h (z ∷ zs) way there = grind (arith, nat_tests, way.0.1, there, previous-there links x z h zs way.1)

free-left : (own : Bool) (heads : List Ring) (links : List Link) (rings : List (List ℕ)) (r x i : ℕ) → (x == i) ≡ own → IsLinked heads links rings →
    ((i : ℕ) → next_at (unlinked x links) i ≡ (if x == i then 0 else (if previous_at links x == i then next_at links x else next_at links i))) →
    ((i : ℕ) → previous_at (unlinked x links) i ≡ (if x == i then 0 else (if next_at links x == i then previous_at links x else previous_at links i))) →
    has i (without x (ring_at rings r)) ≡ false → ((s : ℕ) → (r == s) ≡ false → has i (ring_at rings s) ≡ false) →
    has (next_at links x) (ring_at rings r) ≡ true → has (previous_at links x) (ring_at rings r) ≡ true →
    (next_at (unlinked x links) i ≡ 0) × (previous_at (unlinked x links) i ≡ 0)
free-left true heads links rings r x i test was nexts previouses gone elsewhere next_here previous_here =
    (grind (arith, nat_tests, nexts i, test), grind (arith, nat_tests, previouses i, test))
free-left false heads links rings r x i test was nexts previouses gone elsewhere next_here previous_here =
    let here : has i (ring_at rings r) ≡ false = grind (arith, nat_tests, gone, test, has-without i x (ring_at rings r)) in
    let none = was.free i (in_none rings r i here elsewhere) in
    (grind (arith, nat_tests, nexts i, test, here, previous_here, none.0), grind (arith, nat_tests, previouses i, test, here, next_here, none.1))

left-by : (heads : List Ring) (links : List Link) (rings : List (List ℕ)) (r x h : ℕ) (t : List ℕ) → IsLinked heads links rings → has x (ring_at rings r) ≡ true → ring_at rings r ≡ h ∷ t →
    IsChange heads links rings r (without x (ring_at rings r)) (unlinked x links) × (stored (without x (ring_at rings r)) ≡ head_after (From h) x (next_at links x))
left-by heads links rings r x h t was there is =
    let lies : AreApart (h ∷ t) = subst AreApart is (was.apart.each r) in
    let round : IsRound links (h ∷ t) = subst (IsRound links) is (was.round r) in
    let here : has x (h ∷ t) ≡ true = ap (has x) (sym is) ∙ there in
    let next : has (next_at links x) (h ∷ t) ≡ true = grind (arith, nat_tests, next-there links x h h t round here) in
    let previous : has (previous_at links x) (h ∷ t) ≡ true = grind (arith, nat_tests, previous-there links x h h t round, last-there links h h t round, here) in
    let next_here : has (next_at links x) (ring_at rings r) ≡ true = ap (has (next_at links x)) is ∙ next in
    let previous_here : has (previous_at links x) (ring_at rings r) ≡ true = ap (has (previous_at links x)) is ∙ previous in
    let small_last : previous_at links x < length links = omega (arith, small-among (previous_at links x) (h ∷ t) lies previous, was.long) in
    let small_next : next_at links x < length links = omega (arith, small-among (next_at links x) (h ∷ t) lies next, was.long) in
    let small_node : x < length links = omega (arith, small-among x (h ∷ t) lies here, was.long) in
    let nexts : (i : ℕ) → next_at (unlinked x links) i ≡ (if x == i then 0 else (if previous_at links x == i then next_at links x else next_at links i)) =
    λ i. next-unlinked links x i small_last small_next small_node in
    let previouses : (i : ℕ) → previous_at (unlinked x links) i ≡ (if x == i then 0 else (if next_at links x == i then previous_at links x else previous_at links i)) =
    λ i. previous-unlinked links x i small_last small_next small_node in
    let left = left-round (h == x) links (unlinked x links) x h t refl nexts previouses here lies round in (
      record {
        within = there-within rings r x there;
        long = long-unlinked links x ∙ was.long;
        round = subst (λ l. IsRound (unlinked x links) (without x l)) (sym is) left.0;
        apart = apart-without x (ring_at rings r) (was.apart.each r);
        nexts = λ i s other in_other. grind (arith, nat_tests, nexts i, differ rings r s x i was.apart there in_other other, differ rings r s (previous_at links x) i was.apart previous_here in_other other);
        previouses = λ i s other in_other. grind (arith, nat_tests, previouses i, differ rings r s x i was.apart there in_other other, differ rings r s (next_at links x) i was.apart next_here in_other other);
        others = λ i s other in_new. grind (arith, nat_tests, in_new, has-without i x (ring_at rings r), was.apart.alone i r s, other);
        free = λ i gone elsewhere. free-left (x == i) heads links rings r x i refl was nexts previouses gone elsewhere next_here previous_here;
      },
      ap (λ l. stored (without x l)) is ∙ left.1,
    )

head-by : (xs : List ℕ) (x : ℕ) (Q : List ℕ → Type 0) → has x xs ≡ true → ((h : ℕ) (t : List ℕ) → xs ≡ h ∷ t → Q xs) → Q xs
head-by [] x Q there go = absurd (true≢false (sym there))
head-by (h ∷ t) x Q there go = go h t refl

pub leaves : (heads : List Ring) (links : List Link) (rings : List (List ℕ)) (r x : ℕ) → Holds heads links rings → has x (ring_at rings r) ≡ true →
    Holds (slice_set heads r (head_after (slice_index_or heads r Empty) x (next_at links x))) (unlinked x links) (slice_set rings r (without x (ring_at rings r)))
leaves heads links rings r x held there =
    let was : IsLinked heads links rings = linked-of heads links rings held in
    head-by (ring_at rings r) x
    (λ xs. Holds (slice_set heads r (head_after (slice_index_or heads r Empty) x (next_at links x))) (unlinked x links) (slice_set rings r (without x (ring_at rings r))))
    there
    (λ h t is.
    let left = left-by heads links rings r x h t was there is in
    let head : slice_index_or heads r Empty ≡ From h = was.headed r ∙ ap stored is in
    let same : stored (without x (ring_at rings r)) ≡ head_after (slice_index_or heads r Empty) x (next_at links x) = left.1 ∙ ap (λ it. head_after it x (next_at links x)) (sym head) in
    subst (λ it. Holds (slice_set heads r it) (unlinked x links) (slice_set rings r (without x (ring_at rings r)))) same
    (holds-changed heads links rings r (without x (ring_at rings r)) (unlinked x links) held left.0))

-- The head goes to the end.

turned-by : (heads : List Ring) (links : List Link) (rings : List (List ℕ)) (r : ℕ) → IsLinked heads links rings → r < length rings → IsChange heads links rings r (turned (ring_at rings r)) links
turned-by heads links rings r was within = record {
  within = within;
  long = was.long;
  round = round-turned links (ring_at rings r) (was.round r);
  apart = apart-turned (ring_at rings r) (was.apart.each r);
  nexts = λ i s other there. refl;
  previouses = λ i s other there. refl;
  others = λ i s other here. grind (arith, nat_tests, here, has-turned i (ring_at rings r), was.apart.alone i r s, other);
  free = λ i gone elsewhere. was.free i (in_none rings r i (sym (has-turned i (ring_at rings r)) ∙ gone) elsewhere);
}

stored-turned : (links : List Link) (h : ℕ) (t : List ℕ) → IsRound links (h ∷ t) → stored (turned (h ∷ t)) ≡ From (next_at links h)
stored-turned links h [] round = ap From (sym round.0)
stored-turned links h (z ∷ zs) round = ap From (sym round.0.0)

pub turns : (heads : List Ring) (links : List Link) (rings : List (List ℕ)) (r h : ℕ) → Holds heads links rings → r < length rings → slice_index_or heads r Empty ≡ From h →
    Holds (slice_set heads r (From (next_at links h))) links (slice_set rings r (turned (ring_at rings r)))
turns heads links rings r h held within head =
    let was : IsLinked heads links rings = linked-of heads links rings held in
    stored-from (ring_at rings r) h (λ xs. Holds (slice_set heads r (From (next_at links h))) links (slice_set rings r (turned (ring_at rings r)))) (sym (was.headed r) ∙ head)
    (λ t is.
    let same : stored (turned (ring_at rings r)) ≡ From (next_at links h) =
    ap (λ l. stored (turned l)) is ∙ stored-turned links h t (subst (IsRound links) is (was.round r)) in
    subst (λ it. Holds (slice_set heads r it) links (slice_set rings r (turned (ring_at rings r)))) same
    (holds-changed heads links rings r (turned (ring_at rings r)) links held (turned-by heads links rings r was within)))

-- what a read of the heads gave
pub read-head : (heads : List Ring) (links : List Link) (rings : List (List ℕ)) (r : ℕ) (head is : Ring) → Holds heads links rings → r < length rings → head ≡ slice_index_or heads r head → head ≡ is →
    slice_index_or heads r Empty ≡ is
read-head heads links rings r head is held within read case =
    sym (read ∙ get_or_default heads r head Empty (omega (arith, within, long-of heads links rings held))) ∙ case

pub within-heads : (heads : List Ring) (links : List Link) (rings : List (List ℕ)) (r : ℕ) → Holds heads links rings → r < length rings → r < length heads
within-heads heads links rings r held within = omega (arith, within, long-of heads links rings held)

-- what a read of the links gave
read-link : (heads : List Ring) (links : List Link) (rings : List (List ℕ)) (x : ℕ) (link : Link) → Holds heads links rings → x < 256 → link ≡ slice_index_or links x link →
    link ≡ slice_index_or links x loose
read-link heads links rings x link held small read = read ∙ get_or_default links x link loose (omega (arith, small, held.linked.long))

pub leaves-as : (heads : List Ring) (links : List Link) (rings : List (List ℕ)) (r x : ℕ) (head result : Ring) (link : Link) (new : List Link) → Holds heads links rings → has x (ring_at rings r) ≡ true → x < 256 →
    head ≡ slice_index_or heads r head → link ≡ slice_index_or links x link → result ≡ head_after head x link.next → new ≡ unlinked x links →
    Holds (slice_set heads r result) new (slice_set rings r (without x (ring_at rings r)))
leaves-as heads links rings r x head result link new held there small at_head at_link result_is new_is =
    let within : r < length heads = within-heads heads links rings r held (there-within rings r x there) in
    let head_is : head ≡ slice_index_or heads r Empty = at_head ∙ get_or_default heads r head Empty within in
    let next_is : link.next ≡ next_at links x = ap (λ l. l.next) (read-link heads links rings x link held small at_link) in
    let is : head_after (slice_index_or heads r Empty) x (next_at links x) ≡ result = sym (result_is ∙ ap (λ it. head_after it x link.next) head_is ∙ ap (head_after (slice_index_or heads r Empty) x) next_is) in
    subst (λ it. Holds (slice_set heads r it) new (slice_set rings r (without x (ring_at rings r)))) is
    (subst (λ l. Holds (slice_set heads r (head_after (slice_index_or heads r Empty) x (next_at links x))) l (slice_set rings r (without x (ring_at rings r)))) (sym new_is)
    (leaves heads links rings r x held there))

pub turns-as : (heads : List Ring) (links : List Link) (rings : List (List ℕ)) (r h : ℕ) (head : Ring) (link : Link) → Holds heads links rings → r < length rings →
    head ≡ slice_index_or heads r head → head ≡ From h → link ≡ slice_index_or links h link →
    Holds (slice_set heads r (From link.next)) links (slice_set rings r (turned (ring_at rings r)))
turns-as heads links rings r h head link held within at_head case at_link =
    let was : IsLinked heads links rings = linked-of heads links rings held in
    let stands : slice_index_or heads r Empty ≡ From h = read-head heads links rings r head (From h) held within at_head case in
    let small : h < 256 = stored-from (ring_at rings r) h (λ xs. h < 256) (sym (was.headed r) ∙ stands) (λ t is. (subst AreApart is (was.apart.each r)).0) in
    let next_is : next_at links h ≡ link.next = sym (ap (λ l. l.next) (read-link heads links rings h link held small at_link)) in
    subst (λ n. Holds (slice_set heads r (From n)) links (slice_set rings r (turned (ring_at rings r)))) next_is
    (turns heads links rings r h held within stands)

-- Equal rings are held equally.

out-first : (rest : List (List ℕ)) (xs : List ℕ) (i r : ℕ) → has i xs ≡ false → ((s : ℕ) → has i (ring_at rest s) ≡ false) → has i (ring_at (xs ∷ rest) r) ≡ false
out-first rest xs i zero test out = test
out-first rest xs i (suc r) test out = out r

anywhere-by : (here : Bool) (rest : List (List ℕ)) (xs : List ℕ) (i : ℕ) (Q : Type 0) → has i xs ≡ here → ((r : ℕ) → has i (ring_at (xs ∷ rest) r) ≡ true → Q) →
    (((r : ℕ) → has i (ring_at (xs ∷ rest) r) ≡ false) → Q) → ((((r : ℕ) → has i (ring_at rest r) ≡ true → Q)) → (((r : ℕ) → has i (ring_at rest r) ≡ false) → Q) → Q) → Q
anywhere-by true rest xs i Q test some none again = some 0 test
anywhere-by false rest xs i Q test some none again = again (λ r there. some (suc r) there) (λ out. none (λ r. out-first rest xs i r test out))

anywhere : (rings : List (List ℕ)) (i : ℕ) (Q : Type 0) → ((r : ℕ) → has i (ring_at rings r) ≡ true → Q) → (((r : ℕ) → has i (ring_at rings r) ≡ false) → Q) → Q
anywhere [] i Q some none = none (λ r. ap (has i) (get_or-eq_default [] [] {n = r} (omega arith)))
anywhere (xs ∷ rest) i Q some none = anywhere-by (has i xs) rest xs i Q refl some none (λ s n. anywhere rest i Q s n)

way-agrees : (one other : List Link) (i y h : ℕ) (t : List ℕ) → Passes one y t h → Passes other y t h →
    (has i (y ∷ t) ≡ true → next_at one i ≡ next_at other i) × ((has i t || (i == h)) ≡ true → previous_at one i ≡ previous_at other i)
way-agrees one other i y h [] way same = (λ there. grind (arith, nat_tests, there, way.0, same.0), λ there. grind (arith, nat_tests, there, way.1, same.1))
way-agrees one other i y h (z ∷ zs) way same =
    let rest = way-agrees one other i z h zs way.1 same.1 in
    (λ there. grind (arith, nat_tests, there, way.0.0, same.0.0, rest.0), λ there. grind (arith, nat_tests, there, way.0.1, same.0.1, rest.1))

round-agrees : (one other : List Link) (i : ℕ) (xs : List ℕ) → IsRound one xs → IsRound other xs → has i xs ≡ true → (next_at one i ≡ next_at other i) × (previous_at one i ≡ previous_at other i)
round-agrees one other i [] round same there = absurd (true≢false (sym there))
round-agrees one other i (x ∷ xs) round same there =
    let agree = way-agrees one other i x x xs round same in
    (agree.0 there, agree.1 (grind (arith, nat_tests, there)))

build : ℕ → ℕ → Link
build next previous = record { next = next; previous = previous }

link-of : (one other : Link) → one.next ≡ other.next → one.previous ≡ other.previous → one ≡ other
unfolding build
link-of one other next previous = ap (λ n. build n one.previous) next ∙ ap (build other.next) previous

link-agrees : (heads others : List Ring) (one other : List Link) (rings : List (List ℕ)) (i : ℕ) → IsLinked heads one rings → IsLinked others other rings →
    slice_index_or one i loose ≡ slice_index_or other i loose
link-agrees heads others one other rings i was same =
    anywhere rings i (slice_index_or one i loose ≡ slice_index_or other i loose)
    (λ r there.
    let agree = round-agrees one other i (ring_at rings r) (was.round r) (same.round r) there in
    link-of (slice_index_or one i loose) (slice_index_or other i loose) agree.0 agree.1)
    (λ out. link-of (slice_index_or one i loose) (slice_index_or other i loose) ((was.free i out).0 ∙ sym (same.free i out).0) ((was.free i out).1 ∙ sym (same.free i out).1))

pub heads-agree : (heads others : List Ring) (one other : List Link) (rings : List (List ℕ)) → Holds heads one rings → Holds others other rings → heads ≡ others
heads-agree heads others one other rings held same =
    ext_get_or Empty heads others (sym (long-of heads one rings held) ∙ long-of others other rings same)
    (λ i small. (linked-of heads one rings held).headed i ∙ sym ((linked-of others other rings same).headed i))

pub links-agree : (heads others : List Ring) (one other : List Link) (rings : List (List ℕ)) → Holds heads one rings → Holds others other rings → one ≡ other
links-agree heads others one other rings held same =
    let a : IsLinked heads one rings = linked-of heads one rings held in
    let b : IsLinked others other rings = linked-of others other rings same in
    ext_get_or loose one other (a.long ∙ sym b.long) (λ i small. link-agrees heads others one other rings i a b)

-- At the making.

empty-at-by : {A : Type 0} → (small : Bool) (n at : ℕ) (x : A) → nat_lt at n ≡ small → slice_index_or (replicate n x) at x ≡ x
empty-at-by true n at x test = get_or-replicate n at x x (grind (arith, nat_tests, test))
empty-at-by false n at x test = get_or-eq_default (replicate n x) x (grind (arith, nat_tests, test, length-replicate n x))

empty-at : {A : Type 0} → (n at : ℕ) (x : A) → slice_index_or (replicate n x) at x ≡ x
empty-at n at x = empty-at-by (nat_lt at n) n at x refl

linked-new : (count : ℕ) → IsLinked (replicate count Empty) (replicate 256 loose) (replicate count [])
linked-new count = record {
  long = length-replicate 256 loose;
  headed = λ r. empty-at count r Empty ∙ ap stored (sym (empty-at count r []));
  round = λ r. subst (IsRound (replicate 256 loose)) (sym (empty-at count r [])) tt;
  apart = record {
    each = λ r. subst AreApart (sym (empty-at count r [])) tt;
    alone = λ i r s here there. absurd (true≢false (sym here ∙ ap (has i) (empty-at count r [])));
  };
  free = λ i out. (ap (λ l. l.next) (empty-at 256 i loose), ap (λ l. l.previous) (empty-at 256 i loose));
}

pub holds-new : (count : ℕ) → Holds (replicate count Empty) (replicate 256 loose) (replicate count [])
holds-new count = holds-of (replicate count Empty) (replicate 256 loose) (replicate count []) (linked-new count) (length-replicate count [] ∙ sym (length-replicate count Empty))

pub holds-new-as : (count : ℕ) (heads : List Ring) (links : List Link) → heads ≡ replicate count Empty → links ≡ replicate 256 loose → Holds heads links (replicate count [])
holds-new-as count heads links heads_are links_are =
    subst (λ hs. Holds hs links (replicate count [])) (sym heads_are) (subst (λ ls. Holds (replicate count Empty) ls (replicate count [])) (sym links_are) (holds-new count))

-- equal heads and links are seen as equal rings
pub seen-same : (heads others : List Ring) (one other : List Link) (rings those : List (List ℕ)) → Holds heads one rings → Holds others other those → heads ≡ others → one ≡ other → rings ≡ those
seen-same heads others one other rings those held same heads_same links_same =
    sym held.is ∙ ap (λ hs. rings_of hs one) heads_same ∙ ap (rings_of others) links_same ∙ same.is
