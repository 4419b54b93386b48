-- What a write to the links keeps of a ring, and what following them gives.
use Rattle.std.proofs.Common.{◌≡◌, ◌<◌, ◌≤◌, ℕ, zero, suc, List, [], ◌∷◌, ◌++◌, length, refl, sym, ap, subst, ◌∙◌, true≢false, arith}
use Rattle.std.specs.Prelude.{Bool, true, false, ◌==◌, ◌||◌, ◌&&◌, not, if◌then◌else◌, slice_set, slice_index_or}
use Rattle.std.proofs.lemmas.Bool.Decides.{nat_tests}
use Rattle.std.proofs.lemmas.Grind.{get_or-set_at}
use Rattle.std.proofs.lemmas.List.{get_or-set_other, length-set}
use Rattle.brd_rings.specs.declared.link.Link.{Link}
use Rattle.brd_rings.specs.declared.link.Ring.{Ring}
use Rattle.brd_rings.specs.declared.link.Ring.TheVariants.{Empty, From}
use Rattle.brd_rings.specs.Rings.{has, without, turned, AreApart}
use Rattle.brd_rings.specs.Layout.{loose, next_at, previous_at, with_next, with_previous, linked_before, unlinked, head_after, followed, ring_of, IsNext, Passes, IsRound, stored}
use Rattle.brd_rings.proofs.NodeLemmas.{has-append, has-without, without-absent, without-last, apart-append, few}

-- What stands in the links after a write.

set-next : (links : List Link) (i j : ℕ) (link : Link) → i < length links → next_at (slice_set links i link) j ≡ (if i == j then link.next else next_at links j)
set-next links i j link small = grind (arith, nat_tests, get_or-set_at links i j link loose, get_or-set_other links i j link loose)

set-previous : (links : List Link) (i j : ℕ) (link : Link) → i < length links → previous_at (slice_set links i link) j ≡ (if i == j then link.previous else previous_at links j)
set-previous links i j link small = grind (arith, nat_tests, get_or-set_at links i j link loose, get_or-set_other links i j link loose)

pub next-with_next : (links : List Link) (i next j : ℕ) → i < length links → next_at (with_next i next links) j ≡ (if i == j then next else next_at links j)
next-with_next links i next j small = set-next links i j (record { next = next; previous = previous_at links i }) small

pub previous-with_next : (links : List Link) (i next j : ℕ) → i < length links → previous_at (with_next i next links) j ≡ previous_at links j
previous-with_next links i next j small = grind (arith, nat_tests, set-previous links i j (record { next = next; previous = previous_at links i }) small)

pub next-with_previous : (links : List Link) (i previous j : ℕ) → i < length links → next_at (with_previous i previous links) j ≡ next_at links j
next-with_previous links i previous j small = grind (arith, nat_tests, set-next links i j (record { next = next_at links i; previous = previous }) small)

pub previous-with_previous : (links : List Link) (i previous j : ℕ) → i < length links → previous_at (with_previous i previous links) j ≡ (if i == j then previous else previous_at links j)
previous-with_previous links i previous j small = set-previous links i j (record { next = next_at links i; previous = previous }) small

long-with_next : (links : List Link) (i next : ℕ) → length (with_next i next links) ≡ length links
long-with_next links i next = length-set links i (record { next = next; previous = previous_at links i })

long-with_previous : (links : List Link) (i previous : ℕ) → length (with_previous i previous links) ≡ length links
long-with_previous links i previous = length-set links i (record { next = next_at links i; previous = previous })

-- a node's link is written after those of its two neighbours
next-written : (links : List Link) (last next head previous node : ℕ) (link : Link) (j : ℕ) → last < length links → head < length links → node < length links →
    next_at (slice_set (with_previous head previous (with_next last next links)) node link) j ≡ (if node == j then link.next else (if last == j then next else next_at links j))
next-written links last next head previous node link j small_last small_head small =
    let one : List Link = with_next last next links in
    let long : length one ≡ length links = long-with_next links last next in
    let longer : length (with_previous head previous one) ≡ length links = long-with_previous one head previous ∙ long in
    grind (
      arith,
      nat_tests,
      set-next (with_previous head previous one) node j link (omega (arith, longer, small)),
      next-with_previous one head previous j (omega (arith, long, small_head)),
      next-with_next links last next j small_last,
    )

previous-written : (links : List Link) (last next head previous node : ℕ) (link : Link) (j : ℕ) → last < length links → head < length links → node < length links →
    previous_at (slice_set (with_previous head previous (with_next last next links)) node link) j ≡ (if node == j then link.previous else (if head == j then previous else previous_at links j))
previous-written links last next head previous node link j small_last small_head small =
    let one : List Link = with_next last next links in
    let long : length one ≡ length links = long-with_next links last next in
    let longer : length (with_previous head previous one) ≡ length links = long-with_previous one head previous ∙ long in
    grind (
      arith,
      nat_tests,
      set-previous (with_previous head previous one) node j link (omega (arith, longer, small)),
      previous-with_previous one head previous j (omega (arith, long, small_head)),
      previous-with_next links last next j small_last,
    )

pub long-before : (links : List Link) (head node : ℕ) → length (linked_before head node links) ≡ length links
long-before links head node =
    let one : List Link = with_next (previous_at links head) node links in
    length-set (with_previous head node one) node (record { next = head; previous = previous_at links head }) ∙ long-with_previous one head node ∙ long-with_next links (previous_at links head) node

pub long-unlinked : (links : List Link) (node : ℕ) → length (unlinked node links) ≡ length links
long-unlinked links node =
    let one : List Link = with_next (previous_at links node) (next_at links node) links in
    length-set (with_previous (next_at links node) (previous_at links node) one) node loose ∙ long-with_previous one (next_at links node) (previous_at links node)
    ∙ long-with_next links (previous_at links node) (next_at links node)

pub next-before : (links : List Link) (head node j : ℕ) → previous_at links head < length links → head < length links → node < length links →
    next_at (linked_before head node links) j ≡ (if node == j then head else (if previous_at links head == j then node else next_at links j))
next-before links head node j small_last small_head small =
    next-written links (previous_at links head) node head node node (record { next = head; previous = previous_at links head }) j small_last small_head small

pub previous-before : (links : List Link) (head node j : ℕ) → previous_at links head < length links → head < length links → node < length links →
    previous_at (linked_before head node links) j ≡ (if node == j then previous_at links head else (if head == j then node else previous_at links j))
previous-before links head node j small_last small_head small =
    previous-written links (previous_at links head) node head node node (record { next = head; previous = previous_at links head }) j small_last small_head small

pub next-unlinked : (links : List Link) (node j : ℕ) → previous_at links node < length links → next_at links node < length links → node < length links →
    next_at (unlinked node links) j ≡ (if node == j then 0 else (if previous_at links node == j then next_at links node else next_at links j))
next-unlinked links node j small_last small_next small =
    next-written links (previous_at links node) (next_at links node) (next_at links node) (previous_at links node) node loose j small_last small_next small

pub previous-unlinked : (links : List Link) (node j : ℕ) → previous_at links node < length links → next_at links node < length links → node < length links →
    previous_at (unlinked node links) j ≡ (if node == j then 0 else (if next_at links node == j then previous_at links node else previous_at links j))
previous-unlinked links node j small_last small_next small =
    previous-written links (previous_at links node) (next_at links node) (next_at links node) (previous_at links node) node loose j small_last small_next small

-- Ways through the links.

has-self : (x : ℕ) (xs : List ℕ) → has x (x ∷ xs) ≡ true
has-self x xs = grind (arith, nat_tests)

has-more : (k x : ℕ) (xs : List ℕ) → has k xs ≡ true → has k (x ∷ xs) ≡ true
has-more k x xs there = grind (arith, nat_tests, there)

-- a way on which no node was written
pub kept : (links new : List Link) (y h : ℕ) (t : List ℕ) → ((i : ℕ) → has i (y ∷ t) ≡ true → next_at new i ≡ next_at links i) →
    ((i : ℕ) → has i t ≡ true → previous_at new i ≡ previous_at links i) → previous_at new h ≡ previous_at links h → Passes links y t h → Passes new y t h
kept links new y h [] nexts previouses end way = (nexts y (has-self y []) ∙ way.0, end ∙ way.1)
kept links new y h (z ∷ zs) nexts previouses end way = (
  (nexts y (has-self y (z ∷ zs)) ∙ way.0.0, previouses z (has-self z zs) ∙ way.0.1),
  kept links new z h zs (λ i there. nexts i (has-more i y (z ∷ zs) there)) (λ i there. previouses i (has-more i z zs there)) end way.1,
)

pub kept-round : (links new : List Link) (xs : List ℕ) → ((i : ℕ) → has i xs ≡ true → next_at new i ≡ next_at links i) →
    ((i : ℕ) → has i xs ≡ true → previous_at new i ≡ previous_at links i) → IsRound links xs → IsRound new xs
kept-round links new [] nexts previouses round = tt
kept-round links new (x ∷ xs) nexts previouses round =
    kept links new x x xs nexts (λ i there. previouses i (has-more i x xs there)) (previouses x (has-self x xs)) round

-- one step more
more : (links : List Link) (y x h : ℕ) (t : List ℕ) → Passes links y t x → IsNext links x h → Passes links y (t ++ x ∷ []) h
more links y x h [] way step = (way, step)
more links y x h (z ∷ zs) way step = (way.0, more links z x h zs way.1 step)

pub round-turned : (links : List Link) (xs : List ℕ) → IsRound links xs → IsRound links (turned xs)
round-turned links [] round = tt
round-turned links (x ∷ []) round = round
round-turned links (x ∷ z ∷ zs) round = more links z x z zs round.1 round.0

-- a node comes in before the end of a way
entered-way : (links new : List Link) (e h y : ℕ) (t : List ℕ) →
    ((i : ℕ) → next_at new i ≡ (if e == i then h else (if previous_at links h == i then e else next_at links i))) →
    ((i : ℕ) → previous_at new i ≡ (if e == i then previous_at links h else (if h == i then e else previous_at links i))) →
    has e (y ∷ t) ≡ false → (e == h) ≡ false → has h t ≡ false → AreApart (y ∷ t) → Passes links y t h →
    Passes new y (t ++ e ∷ []) h × (has (previous_at links h) (y ∷ t) ≡ true)
entered-way links new e h y [] nexts previouses other_y other_h fresh apart way =
    let next_y : next_at new y ≡ e = grind (arith, nat_tests, nexts y, other_y, way.1) in
    let previous_e : previous_at new e ≡ y = grind (arith, nat_tests, previouses e, way.1) in
    let next_e : next_at new e ≡ h = grind (arith, nat_tests, nexts e) in
    let previous_h : previous_at new h ≡ e = grind (arith, nat_tests, previouses h, other_h) in
    (((next_y, previous_e), (next_e, previous_h)), grind (arith, nat_tests, way.1))
entered-way links new e h y (z ∷ zs) nexts previouses other_y other_h fresh apart way =
    let rest : Passes new z (zs ++ e ∷ []) h × (has (previous_at links h) (z ∷ zs) ≡ true) =
    entered-way links new e h z zs nexts previouses (grind (arith, nat_tests, other_y)) other_h (grind (arith, nat_tests, fresh)) apart.2 way.1 in
    let other_last : (previous_at links h == y) ≡ false = grind (arith, nat_tests, rest.1, apart.1) in
    let next_y : next_at new y ≡ z = grind (arith, nat_tests, nexts y, other_y, other_last, way.0.0) in
    let previous_z : previous_at new z ≡ y = grind (arith, nat_tests, previouses z, other_y, fresh, way.0.1) in
    (((next_y, previous_z), rest.0), has-more (previous_at links h) y (z ∷ zs) rest.1)

-- the way from a node that leaves on is the way from the node before it
after-way : (links new : List Link) (x h y : ℕ) (t : List ℕ) →
    ((i : ℕ) → next_at new i ≡ (if x == i then 0 else (if previous_at links x == i then next_at links x else next_at links i))) →
    ((i : ℕ) → previous_at new i ≡ (if x == i then 0 else (if next_at links x == i then previous_at links x else previous_at links i))) →
    (x == y) ≡ false → (x == h) ≡ false → has x t ≡ false → has h t ≡ false → AreApart (y ∷ t) → previous_at links x ≡ y → Passes links x t h →
    Passes new y t h × ((has (next_at links x) t || (next_at links x == h)) ≡ true)
after-way links new x h y [] nexts previouses other_y other_h out fresh apart last way =
    let next_y : next_at new y ≡ h = grind (arith, nat_tests, nexts y, other_y, last, way.0) in
    let previous_h : previous_at new h ≡ y = grind (arith, nat_tests, previouses h, other_h, last, way.0) in
    ((next_y, previous_h), grind (arith, nat_tests, way.0))
after-way links new x h y (w ∷ ws) nexts previouses other_y other_h out fresh apart last way =
    let next_y : next_at new y ≡ w = grind (arith, nat_tests, nexts y, other_y, last, way.0.0) in
    let previous_w : previous_at new w ≡ y = grind (arith, nat_tests, previouses w, out, last, way.0.0) in
    let rest : Passes new w ws h = kept links new w h ws
    (λ i there. grind (arith, nat_tests, nexts i, out, there, last, apart.1))
    (λ i there. grind (arith, nat_tests, previouses i, out, there, way.0.0, apart.2.1))
    (grind (arith, nat_tests, previouses h, other_h, way.0.0, fresh)) way.1 in
    (((next_y, previous_w), rest), grind (arith, nat_tests, way.0.0))

left-way : (same : Bool) (links new : List Link) (x h y z : ℕ) (zs : List ℕ) → (z == x) ≡ same →
    ((i : ℕ) → next_at new i ≡ (if x == i then 0 else (if previous_at links x == i then next_at links x else next_at links i))) →
    ((i : ℕ) → previous_at new i ≡ (if x == i then 0 else (if next_at links x == i then previous_at links x else previous_at links i))) →
    has x (z ∷ zs) ≡ true → has h (z ∷ zs) ≡ false → (x == h) ≡ false → AreApart (y ∷ z ∷ zs) → Passes links y (z ∷ zs) h →
    Passes new y (without x (z ∷ zs)) h × (has (previous_at links x) (y ∷ z ∷ zs) ≡ true) × ((has (next_at links x) (z ∷ zs) || (next_at links x == h)) ≡ true)
left-way true links new x h y z zs test nexts previouses there fresh other_h apart way =
    let same : z ≡ x = grind (arith, nat_tests, test) in
    let out : has x zs ≡ false = grind (arith, nat_tests, same, apart.2.1) in
    let is : zs ≡ without x (z ∷ zs) = grind (arith, nat_tests, test, without-absent x zs out) in
    let rest = after-way links new x h y zs nexts previouses (grind (arith, nat_tests, same, apart.1)) other_h out (grind (arith, nat_tests, fresh))
    (apart.0, grind (arith, nat_tests, apart.1), apart.2.2) (ap (previous_at links) (sym same) ∙ way.0.1) (subst (λ n. Passes links n zs h) same way.1) in
    (subst (λ l. Passes new y l h) is rest.0, grind (arith, nat_tests, same, way.0.1), grind (arith, nat_tests, rest.1))
left-way false links new x h y z [] test nexts previouses there fresh other_h apart way =
    let wrong : false ≡ true = grind (arith, nat_tests, test, there) in absurd (true≢false (sym wrong))
left-way false links new x h y z (w ∷ ws) test nexts previouses there fresh other_h apart way =
    let rest = left-way (w == x) links new x h z w ws refl nexts previouses (grind (arith, nat_tests, test, there)) (grind (arith, nat_tests, fresh)) other_h apart.2 way.1 in
    let is : z ∷ without x (w ∷ ws) ≡ without x (z ∷ w ∷ ws) = grind (arith, nat_tests, test) in
    let other : (x == y) ≡ false = grind (arith, nat_tests, there, test, apart.1) in
    let next_y : next_at new y ≡ z = grind (arith, nat_tests, nexts y, other, rest.1, apart.1, way.0.0) in
    let previous_z : previous_at new z ≡ y = grind (arith, nat_tests, previouses z, test, rest.2, fresh, apart.2.1, way.0.1) in
    (subst (λ l. Passes new y l h) is ((next_y, previous_z), rest.0), grind (arith, nat_tests, rest.1), grind (arith, nat_tests, rest.2))

-- the last of a way leaves that ends where it begins
left-last : (links new : List Link) (x z : ℕ) (zs : List ℕ) →
    ((i : ℕ) → next_at new i ≡ (if x == i then 0 else (if previous_at links x == i then next_at links x else next_at links i))) →
    ((i : ℕ) → previous_at new i ≡ (if x == i then 0 else (if next_at links x == i then previous_at links x else previous_at links i))) →
    has x zs ≡ false → (z == x) ≡ false → AreApart (z ∷ zs ++ x ∷ []) → Passes links z (zs ++ x ∷ []) z → Passes new z zs z
left-last links new x z [] nexts previouses out first apart way =
    let way_left = left-way true links new x z z x [] (grind (arith, nat_tests)) nexts previouses (has-self x []) (grind (arith, nat_tests, first)) (grind (arith, nat_tests, first)) apart way in
    subst (λ l. Passes new z l z) (without-last x [] out) way_left.0
left-last links new x z (w ∷ ws) nexts previouses out first apart way =
    let way_left = left-way (w == x) links new x z z w (ws ++ x ∷ []) refl nexts previouses (grind (arith, nat_tests, has-append x x (w ∷ ws))) apart.1 (grind (arith, nat_tests, first)) apart way in
    subst (λ l. Passes new z l z) (without-last x (w ∷ ws) out) way_left.0

-- Rings.

pub entered-round : (links new : List Link) (e h : ℕ) (t : List ℕ) →
    ((i : ℕ) → next_at new i ≡ (if e == i then h else (if previous_at links h == i then e else next_at links i))) →
    ((i : ℕ) → previous_at new i ≡ (if e == i then previous_at links h else (if h == i then e else previous_at links i))) →
    has e (h ∷ t) ≡ false → AreApart (h ∷ t) → IsRound links (h ∷ t) → IsRound new (h ∷ t ++ e ∷ [])
entered-round links new e h t nexts previouses out apart round =
    (entered-way links new e h h t nexts previouses out (grind (arith, nat_tests, out)) apart.1 apart round).0

-- the last of a ring is in it
pub last-there : (links : List Link) (y h : ℕ) (t : List ℕ) → Passes links y t h → has (previous_at links h) (y ∷ t) ≡ true
last-there links y h [] way = grind (arith, nat_tests, way.1)
last-there links y h (z ∷ zs) way = has-more (previous_at links h) y (z ∷ zs) (last-there links z h zs way.1)

pub left-round : (same : Bool) (links new : List Link) (x h : ℕ) (t : List ℕ) → (h == x) ≡ same →
    ((i : ℕ) → next_at new i ≡ (if x == i then 0 else (if previous_at links x == i then next_at links x else next_at links i))) →
    ((i : ℕ) → previous_at new i ≡ (if x == i then 0 else (if next_at links x == i then previous_at links x else previous_at links i))) →
    has x (h ∷ t) ≡ true → AreApart (h ∷ t) → IsRound links (h ∷ t) →
    IsRound new (without x (h ∷ t)) × (stored (without x (h ∷ t)) ≡ head_after (From h) x (next_at links x))
left-round true links new x h [] test nexts previouses there apart round =
    let is : [] ≡ without x (h ∷ []) = grind (arith, nat_tests, test) in
    (subst (IsRound new) is tt, grind (arith, nat_tests, test, round.0))
left-round true links new x h (z ∷ zs) test nexts previouses there apart round =
    let same : h ≡ x = grind (arith, nat_tests, test) in
    let out : has x (z ∷ zs) ≡ false = grind (arith, nat_tests, same, apart.1) in
    let is : z ∷ zs ≡ without x (h ∷ z ∷ zs) = grind (arith, nat_tests, test, without-absent x (z ∷ zs) out) in
    let turn : Passes links z (zs ++ x ∷ []) z = subst (λ n. Passes links z (zs ++ n ∷ []) z) same (more links z h z zs round.1 round.0) in
    let first : (z == x) ≡ false = grind (arith, nat_tests, out) in
    let rest : has x zs ≡ false = grind (arith, nat_tests, out) in
    let small : x < 256 = subst (λ n. n < 256) same apart.0 in
    let lies : AreApart (z ∷ zs ++ x ∷ []) = apart-append x (z ∷ zs) small out apart.2 in
    let way = left-last links new x z zs nexts previouses rest first lies turn in
    (subst (IsRound new) is way, grind (arith, nat_tests, test, first, same, round.0.0, is))
left-round false links new x h [] test nexts previouses there apart round =
    let wrong : false ≡ true = grind (arith, nat_tests, test, there) in absurd (true≢false (sym wrong))
left-round false links new x h (z ∷ zs) test nexts previouses there apart round =
    let is : h ∷ without x (z ∷ zs) ≡ without x (h ∷ z ∷ zs) = grind (arith, nat_tests, test) in
    let way = left-way (z == x) links new x h h z zs refl nexts previouses (grind (arith, nat_tests, test, there)) apart.1 (grind (arith, nat_tests, test)) apart round in
    (subst (IsRound new) is way.0, grind (arith, nat_tests, test, is))

-- Following the links.

walked : (links : List Link) (h x : ℕ) (t : List ℕ) (most : ℕ) → length t < most → has h t ≡ false → Passes links x t h → followed links h most x ≡ x ∷ t
walked links h x t zero small fresh way = let wrong : ⊥ = omega (arith, small) in absurd wrong
walked links h x [] (suc most) small fresh way = grind (arith, nat_tests, way.0)
walked links h x (z ∷ zs) (suc most) small fresh way =
    let rest : followed links h most z ≡ z ∷ zs = walked links h z zs most (omega (arith, small)) (grind (arith, nat_tests, fresh)) way.1 in
    grind (arith, nat_tests, fresh, way.0.0, rest)

pub ring_of-linked : (links : List Link) (xs : List ℕ) → IsRound links xs → AreApart xs → ring_of links (stored xs) ≡ xs
unfolding ring_of
ring_of-linked links [] round apart = refl
ring_of-linked links (x ∷ xs) round apart = walked links x x xs 256 (omega (arith, few (x ∷ xs) apart)) apart.1 round
