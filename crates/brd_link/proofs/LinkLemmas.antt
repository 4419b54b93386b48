-- What each change of a set of links does to the pairs, whatever the list: no premise says that it is in order.
use Rattle.std.proofs.Common.{◌≡◌, ◌≢◌, ◌↔◌, ℕ, suc, ◌<◌, ◌≤◌, Bool, true, false, not, ◌&&◌, ◌||◌, ◌==◌, if◌then◌else◌, cond, nat_lt, IsTrue, Option, Some, None, List, [], ◌∷◌, ◌++◌, filter, refl, sym, ap, ◌∙◌, subst, arith, inl, inr}
use Rattle.std.proofs.lemmas.Bool.Decides.{nat_tests}
use Rattle.std.specs.List.{list_any}
use Rattle.std.proofs.lemmas.Bool.{cases_lt, eq-eqb, eqb-true, ne_eqb, lt-ltb, le-ltb}
use Rattle.brd_link.specs.LinkSet.{Link, IsLinkSet, AllFrom, outside_block, is_linked, linked_address, without, without_all, with_link, is_same_block, after_store}

pub is_linked-without : (links : List Link) (cpu q a : ℕ) → is_linked (without links cpu) q a ≡ (not (q == cpu) && is_linked links q a)
is_linked-without [] cpu q a = grind (arith, nat_tests)
is_linked-without (link ∷ links) cpu q a = grind (arith, nat_tests, is_linked-without links cpu q a)

pub is_linked-after_store : (links : List Link) (cpu address q a : ℕ) → is_linked (after_store links cpu address) q a ≡ ((q == cpu || not (is_same_block a address)) && is_linked links q a)
is_linked-after_store [] cpu address q a = grind (arith, nat_tests)
is_linked-after_store (link ∷ links) cpu address q a = grind (arith, nat_tests, is_linked-after_store links cpu address q a)

pub linked_address-without : (links : List Link) (cpu q : ℕ) → linked_address (without links cpu) q ≡ (if q == cpu then None else linked_address links q)
linked_address-without [] cpu q = grind (arith, nat_tests)
linked_address-without (link ∷ links) cpu q = grind (arith, nat_tests, linked_address-without links cpu q)

-- the links of several end, one by one
pub is_linked-without_all : (links : List Link) (cpus : List ℕ) (q a : ℕ) → is_linked (without_all links cpus) q a ≡ (not (list_any (λ cpu. q == cpu) cpus) && is_linked links q a)
is_linked-without_all links [] q a = refl
is_linked-without_all links (cpu ∷ cpus) q a =
    grind (arith, nat_tests, is_linked-without_all (without links cpu) cpus q a, is_linked-without links cpu q a)

pub linked_address-without_all : (links : List Link) (cpus : List ℕ) (q : ℕ) → linked_address (without_all links cpus) q ≡ (if list_any (λ cpu. q == cpu) cpus then None else linked_address links q)
linked_address-without_all links [] q = refl
linked_address-without_all links (cpu ∷ cpus) q =
    grind (arith, nat_tests, linked_address-without_all (without links cpu) cpus q, linked_address-without links cpu q)

list_any-join : (p : Link → Bool) (xs ys : List Link) → list_any p (xs ++ ys) ≡ (list_any p xs || list_any p ys)
list_any-join p [] ys = refl
list_any-join p (x ∷ xs) ys = grind (arith, nat_tests, list_any-join p xs ys)

is_linked_below : (links : List Link) (cpu q a : ℕ) → is_linked (filter (λ link. nat_lt link.processor cpu) links) q a ≡ (nat_lt q cpu && is_linked links q a)
is_linked_below [] cpu q a = grind (arith, nat_tests)
is_linked_below (link ∷ links) cpu q a = grind (arith, nat_tests, is_linked_below links cpu q a)

is_linked_above : (links : List Link) (cpu q a : ℕ) → is_linked (filter (λ link. nat_lt cpu link.processor) links) q a ≡ (nat_lt cpu q && is_linked links q a)
is_linked_above [] cpu q a = grind (arith, nat_tests)
is_linked_above (link ∷ links) cpu q a = grind (arith, nat_tests, is_linked_above links cpu q a)

pub is_linked-with_link : (links : List Link) (cpu address q a : ℕ) → is_linked (with_link links cpu address) q a ≡ (if q == cpu then address == a else is_linked links q a)
is_linked-with_link links cpu address q a =
    grind (arith, nat_tests, list_any-join (λ link. link.processor == q && link.address == a) (filter (λ link. nat_lt link.processor cpu) links) ((record { processor = cpu; address = address }) ∷ filter (λ link. nat_lt cpu link.processor) links), is_linked_below links cpu q a, is_linked_above links cpu q a)

-- the first, or else the second
abbrev option_or : Option ℕ → Option ℕ → Option ℕ
option_or None second = second
option_or (Some linked) second = Some linked

-- the first of two lists that has one
linked_address-join : (xs ys : List Link) (q : ℕ) → linked_address (xs ++ ys) q ≡ option_or (linked_address xs q) (linked_address ys q)
linked_address-join [] ys q = refl
linked_address-join (x ∷ xs) ys q = grind (arith, nat_tests, linked_address-join xs ys q)

linked_address_below : (links : List Link) (cpu q : ℕ) → linked_address (filter (λ link. nat_lt link.processor cpu) links) q ≡ (if nat_lt q cpu then linked_address links q else None)
linked_address_below [] cpu q = grind (arith, nat_tests)
linked_address_below (link ∷ links) cpu q = grind (arith, nat_tests, linked_address_below links cpu q)

linked_address_above : (links : List Link) (cpu q : ℕ) → linked_address (filter (λ link. nat_lt cpu link.processor) links) q ≡ (if nat_lt cpu q then linked_address links q else None)
linked_address_above [] cpu q = grind (arith, nat_tests)
linked_address_above (link ∷ links) cpu q = grind (arith, nat_tests, linked_address_above links cpu q)

pub linked_address-with_link : (links : List Link) (cpu address q : ℕ) → linked_address (with_link links cpu address) q ≡ (if q == cpu then Some address else linked_address links q)
linked_address-with_link links cpu address q =
    grind (arith, nat_tests, linked_address-join (filter (λ link. nat_lt link.processor cpu) links) ((record { processor = cpu; address = address }) ∷ filter (λ link. nat_lt cpu link.processor) links) q, linked_address_below links cpu q, linked_address_above links cpu q)

-- ---- at most one pair for a processor
pub linked_address_below_first : (links : List Link) (first q : ℕ) → AllFrom first links → q < first → linked_address links q ≡ None
linked_address_below_first [] first q is lt = refl
linked_address_below_first (link ∷ links) first q is lt =
    rw (ne_eqb link.processor q (λ e. omega arith)) (linked_address_below_first links (suc link.processor) q is.2 (omega arith))

pub linked_address-after_store : (links : List Link) (first cpu address q : ℕ) → AllFrom first links → linked_address (after_store links cpu address) q ≡ (if q == cpu then linked_address links q else outside_block address (linked_address links q))
linked_address-after_store [] first cpu address q is = grind (arith, nat_tests)
linked_address-after_store (link ∷ links) first cpu address q is =
    let rest = linked_address-after_store links (suc link.processor) cpu address q is.2 in
    let none = linked_address_below_first links (suc link.processor) q is.2 in
    grind (arith, nat_tests, rest, none)

is_linked_below_first : (links : List Link) (first q a : ℕ) → AllFrom first links → q < first → is_linked links q a ≡ false
is_linked_below_first [] first q a is lt = refl
is_linked_below_first (link ∷ links) first q a is lt =
    rw (ne_eqb link.processor q (λ e. omega arith)) (is_linked_below_first links (suc link.processor) q a is.2 (omega arith))

same_address : (a b : ℕ) → Some a ≡ Some b → a ≡ b
same_address a b e = cc

-- whether it is this address
abbrev is_address : ℕ → Option ℕ → Bool
is_address a None = false
is_address a (Some linked) = linked == a

is_linked-address : (links : List Link) (first q a : ℕ) → AllFrom first links → is_linked links q a ≡ is_address a (linked_address links q)
is_linked-address [] first q a is = refl
is_linked-address (link ∷ links) first q a is =
    let rest = is_linked-address links (suc link.processor) q a is.2 in
    let none = is_linked_below_first links (suc link.processor) q a is.2 in
    grind (arith, nat_tests, rest, none)

is_address_when : (place : Option ℕ) (a : ℕ) → IsTrue (is_address a place) ↔ (place ≡ Some a)
is_address_when None a = (λ e. absurd (cc), λ e. absurd (cc))
is_address_when (Some linked) a = (λ e. ap Some (eqb-true linked a e), λ e. eq-eqb linked a (same_address linked a e))

-- the pair is in the set exactly where the processor's link is to this address
pub is_linked-linked_address : (links : List Link) (first q a : ℕ) → AllFrom first links → IsTrue (is_linked links q a) ↔ (linked_address links q ≡ Some a)
is_linked-linked_address links first q a is =
    subst (λ b. IsTrue b ↔ (linked_address links q ≡ Some a)) (sym (is_linked-address links first q a is)) (is_address_when (linked_address links q) a)

-- ---- the changes keep the form
pub later : (links : List Link) (first lower : ℕ) → lower ≤ first → AllFrom first links → AllFrom lower links
later [] first lower le is = tt
later (link ∷ links) first lower le is = (omega arith, is.1, is.2)

pub AllFrom-filter : (p : Link → Bool) (links : List Link) (first : ℕ) → AllFrom first links → AllFrom first (filter p links)
AllFrom-filter p [] first is = tt
AllFrom-filter p (link ∷ links) first is =
    let rest = AllFrom-filter p links (suc link.processor) is.2 in
    elim (p link) as (λ b. AllFrom first (cond b (link ∷ filter p links) (filter p links))) [
      | true ↦ (is.0, is.1, rest)
      | false ↦ later (filter p links) (suc link.processor) first (omega arith) rest
    ]

pub AllFrom-without_all : (links : List Link) (cpus : List ℕ) (first : ℕ) → AllFrom first links → AllFrom first (without_all links cpus)
AllFrom-without_all links [] first is = is
AllFrom-without_all links (cpu ∷ cpus) first is =
    AllFrom-without_all (without links cpu) cpus first (AllFrom-filter (λ link. not (link.processor == cpu)) links first is)

none_above : (links : List Link) (first cpu : ℕ) → cpu < first → AllFrom first links → filter (λ link. nat_lt link.processor cpu) links ≡ []
none_above [] first cpu lt is = refl
none_above (link ∷ links) first cpu lt is =
    rw (le-ltb link.processor cpu (omega arith)) (none_above links (suc link.processor) cpu (omega arith) is.2)

all_later : (links : List Link) (first cpu : ℕ) → cpu < first → AllFrom first links → filter (λ link. nat_lt cpu link.processor) links ≡ links
all_later [] first cpu lt is = refl
all_later (link ∷ links) first cpu lt is =
    rw (lt-ltb cpu link.processor (omega arith)) (ap (λ ls. link ∷ ls) (all_later links (suc link.processor) cpu (omega arith) is.2))

AllFrom_above : (links : List Link) (first cpu : ℕ) → AllFrom first links → AllFrom (suc cpu) (filter (λ link. nat_lt cpu link.processor) links)
AllFrom_above [] first cpu is = tt
AllFrom_above (link ∷ links) first cpu is =
    elim (cases_lt cpu link.processor) [
      | inl lt ↦ rw (lt-ltb cpu link.processor lt) (omega arith, is.1, AllFrom-filter (λ link. nat_lt cpu link.processor) links (suc link.processor) is.2)
      | inr le ↦ rw (le-ltb cpu link.processor le) (AllFrom_above links (suc link.processor) cpu is.2)
    ]

AllFrom_joined : (links : List Link) (first cpu : ℕ) (rest : List Link) → first ≤ cpu → AllFrom first links → AllFrom cpu rest → AllFrom first (filter (λ link. nat_lt link.processor cpu) links ++ rest)
AllFrom_joined [] first cpu rest le is after = later rest cpu first le after
AllFrom_joined (link ∷ links) first cpu rest le is after =
    elim (cases_lt link.processor cpu) [
      | inl lt ↦ rw (lt-ltb link.processor cpu lt) (is.0, is.1, AllFrom_joined links (suc link.processor) cpu rest (omega arith) is.2 after)
      | inr ge ↦
          rw (le-ltb link.processor cpu ge, none_above links (suc link.processor) cpu (omega arith) is.2) (later rest cpu first le after)
    ]

pub AllFrom-with_link : (links : List Link) (first cpu address : ℕ) → first ≤ cpu → cpu ≤ 8 → AllFrom first links → AllFrom first (with_link links cpu address)
AllFrom-with_link links first cpu address from to is =
    AllFrom_joined links first cpu ((record { processor = cpu; address = address }) ∷ filter (λ link. nat_lt cpu link.processor) links) from is (omega arith, to, AllFrom_above links first cpu is)

-- ---- one list for each set
some_none : (linked : ℕ) → Some linked ≢ None
some_none linked e = absurd (cc)

linked_address_first : (link : Link) (links : List Link) → linked_address (link ∷ links) link.processor ≡ Some link.address
linked_address_first link links = rw (eq-eqb link.processor link.processor refl) refl

linked_address_later : (link : Link) (links : List Link) (q : ℕ) → link.processor < q → linked_address (link ∷ links) q ≡ linked_address links q
linked_address_later link links q lt = rw (ne_eqb link.processor q (λ e. omega arith)) refl

-- the first pair of a set is the first of another with the same links
no_earlier : (x : Link) (xs ys : List Link) (y : ℕ) → AllFrom y ys → ((q : ℕ) → linked_address (x ∷ xs) q ≡ linked_address ys q) → y ≤ x.processor
no_earlier x xs ys y is same =
    elim (cases_lt x.processor y) [
      | inl lt ↦ absurd (some_none x.address (sym (linked_address_first x xs) ∙ same x.processor ∙ linked_address_below_first ys y x.processor is lt))
      | inr le ↦ le
    ]

rest_same : (x y : Link) (xs ys : List Link) → x.processor ≡ y.processor → AllFrom (suc x.processor) xs → AllFrom (suc y.processor) ys → ((q : ℕ) → linked_address (x ∷ xs) q ≡ linked_address (y ∷ ys) q) → (q : ℕ) → linked_address xs q ≡ linked_address ys q
rest_same x y xs ys e is_xs is_ys same q =
    elim (cases_lt x.processor q) [
      | inl lt ↦ sym (linked_address_later x xs q lt) ∙ same q ∙ linked_address_later y ys q (omega arith)
      | inr le ↦ linked_address_below_first xs (suc x.processor) q is_xs (omega arith) ∙ sym (linked_address_below_first ys (suc y.processor) q is_ys (omega arith))
    ]

-- two sets that have the same link of each processor are the same
pub same_sets : (a b : List Link) (first other : ℕ) → AllFrom first a → AllFrom other b → ((q : ℕ) → linked_address a q ≡ linked_address b q) → a ≡ b
same_sets [] [] first other is_a is_b same = refl
same_sets [] (y ∷ ys) first other is_a is_b same =
    absurd (some_none y.address (sym (linked_address_first y ys) ∙ sym (same y.processor)))
same_sets (x ∷ xs) [] first other is_a is_b same =
    absurd (some_none x.address (sym (linked_address_first x xs) ∙ same x.processor))
same_sets (x ∷ xs) (y ∷ ys) first other is_a is_b same =
    let not_later = no_earlier x xs (y ∷ ys) y.processor (omega arith, is_b.1, is_b.2) same in
    let not_sooner = no_earlier y ys (x ∷ xs) x.processor (omega arith, is_a.1, is_a.2) (λ q. sym (same q)) in
    let e : x.processor ≡ y.processor = omega arith in
    let w : x.address ≡ y.address = same_address x.address y.address (sym (linked_address_first x xs) ∙ same x.processor ∙ ap (linked_address (y ∷ ys)) e ∙ linked_address_first y ys) in
    let rest : xs ≡ ys = same_sets xs ys (suc x.processor) (suc y.processor) is_a.2 is_b.2 (rest_same x y xs ys e is_a.2 is_b.2 same) in
    λ i. record { processor = e i; address = w i } ∷ rest i

-- ---- the state of each processor after a change
pub with_link_own : (old new : List Link) (cpu address : ℕ) → new ≡ with_link old cpu address → linked_address new cpu ≡ Some address
with_link_own old new cpu address e =
    ap (λ ls. linked_address ls cpu) e ∙ linked_address-with_link old cpu address cpu ∙ rw (eq-eqb cpu cpu refl) refl

pub with_link_others : (old new : List Link) (cpu address : ℕ) → new ≡ with_link old cpu address → (q : ℕ) → q ≢ cpu → linked_address new q ≡ linked_address old q
with_link_others old new cpu address e q other =
    ap (λ ls. linked_address ls q) e ∙ linked_address-with_link old cpu address q ∙ rw (ne_eqb q cpu other) refl

pub without_own : (old new : List Link) (cpu : ℕ) → new ≡ without old cpu → linked_address new cpu ≡ None
without_own old new cpu e =
    ap (λ ls. linked_address ls cpu) e ∙ linked_address-without old cpu cpu ∙ rw (eq-eqb cpu cpu refl) refl

pub without_others : (old new : List Link) (cpu : ℕ) → new ≡ without old cpu → (q : ℕ) → q ≢ cpu → linked_address new q ≡ linked_address old q
without_others old new cpu e q other =
    ap (λ ls. linked_address ls q) e ∙ linked_address-without old cpu q ∙ rw (ne_eqb q cpu other) refl

pub after_store_own : (old new : List Link) (cpu address : ℕ) → IsLinkSet old → new ≡ after_store old cpu address → linked_address new cpu ≡ linked_address old cpu
after_store_own old new cpu address is e =
    ap (λ ls. linked_address ls cpu) e ∙ linked_address-after_store old 1 cpu address cpu is ∙ rw (eq-eqb cpu cpu refl) refl

pub after_store_others : (old new : List Link) (cpu address : ℕ) → IsLinkSet old → new ≡ after_store old cpu address → (q : ℕ) → q ≢ cpu → linked_address new q ≡ outside_block address (linked_address old q)
after_store_others old new cpu address is e q other =
    ap (λ ls. linked_address ls q) e ∙ linked_address-after_store old 1 cpu address q is ∙ rw (ne_eqb q cpu other) refl

-- the pairs of a processor are those of its state
pub pairs_of_state : (links : List Link) (cpu : ℕ) (place : Option ℕ) → IsLinkSet links → place ≡ linked_address links cpu → (a : ℕ) → IsTrue (is_linked links cpu a) ↔ (place ≡ Some a)
pairs_of_state links cpu place is e a =
    subst (λ o. IsTrue (is_linked links cpu a) ↔ (o ≡ Some a)) (sym e) (is_linked-linked_address links 1 cpu a is)
