-- What a change of the addresses and the mask is for the pairs.
use Rattle.std.proofs.Common.{◌≡◌, ◌≢◌, ℕ, zero, suc, ◌+◌, ◌-◌, ◌*◌, ◌/◌, ◌%◌, ◌^◌, ◌<◌, ◌≤◌, Bool, true, false, not, ◌&&◌, ◌||◌, ◌==◌, if◌then◌else◌, cond, nat_lt, Option, Some, None, List, [], ◌∷◌, ◌++◌, length, get_or, filter, refl, sym, subst, ap, ap₂, ◌∙◌, set, w8, le_refl, lit≤, arith, inl, inr}
use Rattle.std.proofs.lemmas.Bool.Decides.{nat_tests}
use Rattle.std.proofs.lemmas.List.{length-set, get_or-set_same, get_or-set_other}
use Rattle.std.proofs.lemmas.Bool.{cases_eq, eq-eqb, ne_eqb, lt-ltb, le-ltb}
use Rattle.std.proofs.lemmas.Nat.{or_lt}
use Rattle.std.proofs.lemmas.Nat.Bits.{shr_and_one, bit_at_set_same, bit_at_set_other, bit_at_clear_same, bit_at_clear_other, bit_at-lt}
use Rattle.std.specs.Int.{bit_at, bit_not}
use lib.Bits.{bit_and, bit_or}
use Rattle.brd_link.specs.LinkSet.{Link, IsLinkSet, AllFrom, linked_address, without, with_link, is_same_block, after_store}
use Rattle.brd_lanes.specs.Scan.{is_in_block, is_broken_at}
use Rattle.brd_link.proofs.LinkLemmas.{later}
use Rattle.brd_link.specs.Layout.{some_from, places, pairs_from, links_of, IsLayout}
use Rattle.brd_link.proofs.Pairs.{address_at, processors, before, pairs, agree, links_of-pairs, linked_address-links_of}

-- what is kept of an address by a test of it
abbrev pub kept : (ℕ → Bool) → Option ℕ → Option ℕ
kept test None = None
kept test (Some linked) = if test linked then Some linked else None

kept_none : (place : Option ℕ) → kept (λ w. false) place ≡ None
kept_none None = refl
kept_none (Some linked) = refl

kept_all : (place : Option ℕ) → kept (λ w. true) place ≡ place
kept_all None = refl
kept_all (Some linked) = refl

filter-before : (p : Link → Bool) (cpu : ℕ) (linked : Option ℕ) (rest : List Link) → filter p (before cpu linked rest) ≡ before cpu (kept (λ w. p (record { processor = cpu; address = w })) linked) (filter p rest)
filter-before p cpu None rest = refl
filter-before p cpu (Some linked) rest =
    elim (p (record { processor = cpu; address = linked })) as (λ b. cond b (record { processor = cpu; address = linked } ∷ filter p rest) (filter p rest) ≡ before cpu (cond b (Some linked) None) (filter p rest)) [ true ↦ refl | false ↦ refl ]

pub filter-pairs : (p : Link → Bool) (f : ℕ → Option ℕ) (cpus : List ℕ) → filter p (pairs f cpus) ≡ pairs (λ cpu. kept (λ w. p (record { processor = cpu; address = w })) (f cpu)) cpus
filter-pairs p f [] = refl
filter-pairs p f (cpu ∷ cpus) =
    filter-before p cpu (f cpu) (pairs f cpus) ∙ ap (before cpu (kept (λ w. p (record { processor = cpu; address = w })) (f cpu))) (filter-pairs p f cpus)

filter-before_by : (t : ℕ → Bool) (cpu : ℕ) (linked : Option ℕ) (rest : List Link) → filter (λ link. t link.processor) (before cpu linked rest) ≡ (if t cpu then before cpu linked (filter (λ link. t link.processor) rest) else filter (λ link. t link.processor) rest)
filter-before_by t cpu None rest =
    elim (t cpu) as (λ b. filter (λ link. t link.processor) rest ≡ cond b (filter (λ link. t link.processor) rest) (filter (λ link. t link.processor) rest)) [ true ↦ refl | false ↦ refl ]
filter-before_by t cpu (Some linked) rest = refl

-- the pair of `cpu`, where the others are as before
abbrev pub changed : (ℕ → Option ℕ) → ℕ → Option ℕ → ℕ → Option ℕ
changed f cpu linked q = if q == cpu then linked else f q

changed_before : (f : ℕ → Option ℕ) (cpu : ℕ) (linked : Option ℕ) (first count : ℕ) → cpu < first → pairs (changed f cpu linked) (some_from first count) ≡ pairs f (some_from first count)
changed_before f cpu linked first zero lt = refl
changed_before f cpu linked first (suc count) lt =
    rw (ne_eqb first cpu (λ e. omega arith)) (ap (before first (f first)) (changed_before f cpu linked (suc first) count (omega arith)))

none_below : (f : ℕ → Option ℕ) (cpu first count : ℕ) → cpu ≤ first → filter (λ link. nat_lt link.processor cpu) (pairs f (some_from first count)) ≡ []
none_below f cpu first zero le = refl
none_below f cpu first (suc count) le =
    filter-before_by (λ q. nat_lt q cpu) first (f first) (pairs f (some_from (suc first) count)) ∙ rw (le-ltb first cpu le) (none_below f cpu (suc first) count (omega arith))

all_above : (f : ℕ → Option ℕ) (cpu first count : ℕ) → cpu < first → filter (λ link. nat_lt cpu link.processor) (pairs f (some_from first count)) ≡ pairs f (some_from first count)
all_above f cpu first zero lt = refl
all_above f cpu first (suc count) lt =
    filter-before_by (λ q. nat_lt cpu q) first (f first) (pairs f (some_from (suc first) count)) ∙ rw (lt-ltb cpu first lt) (ap (before first (f first)) (all_above f cpu (suc first) count (omega arith)))

before-append : (cpu : ℕ) (linked : Option ℕ) (xs ys : List Link) → before cpu linked xs ++ ys ≡ before cpu linked (xs ++ ys)
before-append cpu None xs ys = refl
before-append cpu (Some w) xs ys = refl

pub with_link-pairs : (f : ℕ → Option ℕ) (cpu address first count : ℕ) → first ≤ cpu → cpu < first + count → with_link (pairs f (some_from first count)) cpu address ≡ pairs (changed f cpu (Some address)) (some_from first count)
with_link-pairs f cpu address first zero le lt = absurd (omega arith)
with_link-pairs f cpu address first (suc count) le lt =
    let rest = pairs f (some_from (suc first) count) in
    let pair : Link = record { processor = cpu; address = address } in
    let joined = λ (xs ys : List Link). xs ++ pair ∷ ys in
    let low = filter-before_by (λ q. nat_lt q cpu) first (f first) rest in
    let high = filter-before_by (λ q. nat_lt cpu q) first (f first) rest in
    elim (cases_eq first cpu) [
      | inl same ↦
          let at_first : pairs (changed f cpu (Some address)) (some_from first (suc count)) ≡ pair ∷ rest =
          rw (eq-eqb first cpu same) (λ i. record { processor = same i; address = address } ∷ changed_before f cpu (Some address) (suc first) count (omega arith) i) in
          ap₂ joined (none_below f cpu first (suc count) (omega arith)) (high ∙ rw (le-ltb cpu first (omega arith)) (all_above f cpu (suc first) count (omega arith))) ∙ sym at_first
      | inr other ↦
          let lower : first < cpu = omega arith in
          let at_first : pairs (changed f cpu (Some address)) (some_from first (suc count)) ≡ before first (f first) (pairs (changed f cpu (Some address)) (some_from (suc first) count)) =
          rw (ne_eqb first cpu other) refl in
          ap₂ joined (low ∙ rw (lt-ltb first cpu lower) refl) (high ∙ rw (le-ltb cpu first (omega arith)) refl)
          ∙ before-append first (f first) (filter (λ link. nat_lt link.processor cpu) rest) (pair ∷ filter (λ link. nat_lt cpu link.processor) rest)
          ∙ ap (before first (f first)) (with_link-pairs f cpu address (suc first) count (omega arith) (omega arith))
          ∙ sym at_first
    ]

-- ---- one processor's place
within8 : (cpu : ℕ) → 1 ≤ cpu → cpu ≤ 8 → cpu - 1 < 8
within8 cpu from to = omega arith

other_place : (q cpu : ℕ) → 1 ≤ q → 1 ≤ cpu → q ≢ cpu → q - 1 ≢ cpu - 1
other_place q cpu a b apart e = apart (omega arith)

pub links_of-set : (addresses : List ℕ) (mask cpu address : ℕ) → length addresses ≡ 8 → 1 ≤ cpu → cpu ≤ 8
    → links_of (set addresses (cpu - 1) address) (bit_or mask (1 * 2 ^ (cpu - 1) % 2 ^ 8)) ≡ with_link (links_of addresses mask) cpu address
links_of-set addresses mask cpu address eight from to =
    links_of-pairs (set addresses (cpu - 1) address) (bit_or mask (1 * 2 ^ (cpu - 1) % 2 ^ 8)) (length-set addresses (cpu - 1) address ∙ eight)
    ∙ sym (ap (λ links. with_link links cpu address) (links_of-pairs addresses mask eight) ∙ with_link-pairs (address_at addresses mask) cpu address 1 8 from (omega arith)
    ∙ agree (changed (address_at addresses mask) cpu (Some address)) (address_at (set addresses (cpu - 1) address) (bit_or mask (1 * 2 ^ (cpu - 1) % 2 ^ 8))) 1 8 (λ q low high.
    elim (cases_eq q cpu) [
      | inl same ↦
          rw (eq-eqb q cpu same, same, bit_at_set_same w8 mask (cpu - 1) (within8 cpu from to), get_or-set_same addresses (cpu - 1) address 0 (omega arith)) refl
      | inr other ↦
          rw (ne_eqb q cpu other, bit_at_set_other w8 mask (cpu - 1) (within8 cpu from to) (q - 1) (other_place q cpu low from other), get_or-set_other addresses (cpu - 1) (q - 1) address 0 (other_place q cpu low from other)) refl
    ]))

pub links_of-end : (addresses : List ℕ) (mask cpu : ℕ) → length addresses ≡ 8 → 1 ≤ cpu → cpu ≤ 8
    → links_of (set addresses (cpu - 1) 0) (bit_and mask (bit_not w8 (1 * 2 ^ (cpu - 1) % 2 ^ 8))) ≡ without (links_of addresses mask) cpu
links_of-end addresses mask cpu eight from to =
    links_of-pairs (set addresses (cpu - 1) 0) (bit_and mask (bit_not w8 (1 * 2 ^ (cpu - 1) % 2 ^ 8))) (length-set addresses (cpu - 1) 0 ∙ eight)
    ∙ sym (ap (λ links. without links cpu) (links_of-pairs addresses mask eight) ∙ filter-pairs (λ link. not (link.processor == cpu)) (address_at addresses mask) processors
    ∙ agree (λ q. kept (λ w. not (q == cpu)) (address_at addresses mask q)) (address_at (set addresses (cpu - 1) 0) (bit_and mask (bit_not w8 (1 * 2 ^ (cpu - 1) % 2 ^ 8)))) 1 8 (λ q low high.
    elim (cases_eq q cpu) [
      | inl same ↦
          rw (eq-eqb q cpu same, same, bit_at_clear_same w8 mask (cpu - 1) (within8 cpu from to)) (kept_none (address_at addresses mask cpu))
      | inr other ↦
          rw (ne_eqb q cpu other, bit_at_clear_other w8 mask (cpu - 1) (within8 cpu from to) (q - 1) (omega arith) (other_place q cpu low from other), get_or-set_other addresses (cpu - 1) (q - 1) 0 0 (other_place q cpu low from other)) (kept_all (address_at addresses mask q))
    ]))

-- the addresses of those whose bit is set, and 0 in place of the others
pub record IsErased (addresses : List ℕ) (mask : ℕ) (new : List ℕ) : Type 0 where
  pub address : (j : ℕ) → j < 8 → get_or new j 0 ≡ (if bit_at mask j == 1 then get_or addresses j 0 else 0)

bit_or_zero : (bit linked : ℕ) → bit < 2 → (bit ≡ 0 → linked ≡ 0) → linked ≡ (if bit == 1 then linked else 0)
bit_or_zero zero linked lt zeroed = zeroed refl
bit_or_zero (suc zero) linked lt zeroed = refl
bit_or_zero (suc (suc bit)) linked lt zeroed = absurd (omega arith)

pub erased_already : (addresses : List ℕ) (mask : ℕ) → IsLayout addresses mask → IsErased addresses mask addresses
erased_already addresses mask is = record {
  address = λ j lt. bit_or_zero (bit_at mask j) (get_or addresses j 0) (bit_at-lt mask j) (is.unused j lt);
}

in_block : (block address linked : ℕ) → block ≡ address / 16 * 16 → is_in_block block linked ≡ is_same_block linked address
in_block block address linked e = grind (arith, nat_tests)

left_at : (test : ℕ → Bool) (old bit linked left : ℕ) → bit ≡ (if test linked then old else 0) → left ≡ (if bit == 1 then linked else 0)
    → kept test (if old == 1 then Some linked else None) ≡ (if bit == 1 then Some left else None)
left_at test old bit linked left a b = grind (arith, nat_tests)

same_place : (q cpu : ℕ) → 1 ≤ q → 1 ≤ cpu → (q - 1 == cpu - 1) ≡ (q == cpu)
same_place q cpu a b = grind (arith, nat_tests)

not_broken : (own same : Bool) (old : ℕ) → (if same && not own then 0 else old) ≡ (if own || not same then old else 0)
not_broken true true old = refl
not_broken true false old = refl
not_broken false true old = refl
not_broken false false old = refl

pub links_of-stored : (addresses : List ℕ) (mask cpu address : ℕ) (new : List ℕ) (left : ℕ) → length addresses ≡ 8 → length new ≡ 8 → 1 ≤ cpu → cpu ≤ 8
    → ((j : ℕ) → j < 8 → bit_at left j ≡ (if is_broken_at addresses (address / 16 * 16) (cpu - 1) j then 0 else bit_at mask j))
    → IsErased addresses left new
    → links_of new left ≡ after_store (links_of addresses mask) cpu address
links_of-stored addresses mask cpu address new left eight new_eight from to bits erased =
    links_of-pairs new left new_eight
    ∙ sym (ap (λ links. after_store links cpu address) (links_of-pairs addresses mask eight) ∙ filter-pairs (λ link. link.processor == cpu || not (is_same_block link.address address)) (address_at addresses mask) processors
    ∙ agree (λ q. kept (λ w. q == cpu || not (is_same_block w address)) (address_at addresses mask q)) (address_at new left) 1 8 (λ q low high.
    let j_lt : q - 1 < 8 = omega arith in
    let linked = get_or addresses (q - 1) 0 in
    let bit : bit_at left (q - 1) ≡ (if q == cpu || not (is_same_block linked address) then bit_at mask (q - 1) else 0) =
    bits (q - 1) j_lt ∙ rw (in_block (address / 16 * 16) address linked refl, same_place q cpu low from) (not_broken (q == cpu) (is_same_block linked address) (bit_at mask (q - 1))) in
    left_at (λ w. q == cpu || not (is_same_block w address)) (bit_at mask (q - 1)) (bit_at left (q - 1)) linked (get_or new (q - 1) 0) bit (erased.address (q - 1) j_lt)))

pub layout-set : (addresses : List ℕ) (mask cpu address : ℕ) → IsLayout addresses mask → 1 ≤ cpu → cpu ≤ 8
    → IsLayout (set addresses (cpu - 1) address) (bit_or mask (1 * 2 ^ (cpu - 1) % 2 ^ 8))
layout-set addresses mask cpu address is from to = record {
  eight = length-set addresses (cpu - 1) address ∙ is.eight;
  few = or_lt 8 mask (1 * 2 ^ (cpu - 1) % 2 ^ 8) is.few (omega arith);
  unused = λ j lt clear. elim (cases_eq j (cpu - 1)) [
    | inl same ↦ absurd (omega (arith, bit_at_set_same w8 mask (cpu - 1) (within8 cpu from to), ap (bit_at (bit_or mask (1 * 2 ^ (cpu - 1) % 2 ^ 8))) same))
    | inr other ↦ get_or-set_other addresses (cpu - 1) j address 0 other ∙ is.unused j lt (sym (bit_at_set_other w8 mask (cpu - 1) (within8 cpu from to) j other) ∙ clear)
  ];
}

pub layout-end : (addresses : List ℕ) (mask cpu : ℕ) → IsLayout addresses mask → 1 ≤ cpu → cpu ≤ 8 → bit_and mask (bit_not w8 (1 * 2 ^ (cpu - 1) % 2 ^ 8)) < 2 ^ 8
    → IsLayout (set addresses (cpu - 1) 0) (bit_and mask (bit_not w8 (1 * 2 ^ (cpu - 1) % 2 ^ 8)))
layout-end addresses mask cpu is from to few = record {
  eight = length-set addresses (cpu - 1) 0 ∙ is.eight;
  few = few;
  unused = λ j lt clear. elim (cases_eq j (cpu - 1)) [
    | inl same ↦ rw same (get_or-set_same addresses (cpu - 1) 0 0 (omega (arith, is.eight)))
    | inr other ↦ get_or-set_other addresses (cpu - 1) j 0 0 other ∙ is.unused j lt (sym (bit_at_clear_other w8 mask (cpu - 1) (within8 cpu from to) j lt other) ∙ clear)
  ];
}

AllFrom-before : (cpu : ℕ) (linked : Option ℕ) (rest : List Link) → cpu ≤ 8 → AllFrom (suc cpu) rest → AllFrom cpu (before cpu linked rest)
AllFrom-before cpu None rest le is = later rest (suc cpu) cpu (omega arith) is
AllFrom-before cpu (Some linked) rest le is = (le_refl cpu, le, is)

AllFrom-pairs : (f : ℕ → Option ℕ) (first count : ℕ) → first + count ≤ 9 → AllFrom first (pairs f (some_from first count))
AllFrom-pairs f first zero le = tt
AllFrom-pairs f first (suc count) le =
    AllFrom-before first (f first) (pairs f (some_from (suc first) count)) (omega arith) (AllFrom-pairs f (suc first) count (omega arith))

pub is_link_set : (addresses : List ℕ) (mask : ℕ) → length addresses ≡ 8 → IsLinkSet (links_of addresses mask)
is_link_set addresses mask eight =
    subst IsLinkSet (sym (links_of-pairs addresses mask eight)) (AllFrom-pairs (address_at addresses mask) 1 8 (lit≤ tt))

-- what `state` reads
pub none_at : (addresses : List ℕ) (mask cpu : ℕ) → length addresses ≡ 8 → 1 ≤ cpu → cpu ≤ 8 → bit_and (mask / 2 ^ (cpu - 1)) 1 ≡ 0 → linked_address (links_of addresses mask) cpu ≡ None
none_at addresses mask cpu eight from to clear =
    let bit : bit_at mask (cpu - 1) ≡ 0 = sym (shr_and_one mask (cpu - 1)) ∙ clear in
    linked_address-links_of addresses mask cpu eight from to ∙ rw bit refl

pub some_at : (addresses : List ℕ) (mask cpu : ℕ) → length addresses ≡ 8 → 1 ≤ cpu → cpu ≤ 8 → bit_and (mask / 2 ^ (cpu - 1)) 1 ≢ 0 → linked_address (links_of addresses mask) cpu ≡ Some (get_or addresses (cpu - 1) 0)
some_at addresses mask cpu eight from to is_set =
    let bit : bit_at mask (cpu - 1) ≡ 1 = omega (arith, shr_and_one mask (cpu - 1), bit_at-lt mask (cpu - 1)) in
    linked_address-links_of addresses mask cpu eight from to ∙ rw bit refl

-- a mask without a bit stands for no links
no_pairs : (cpu : ℕ) (addresses : List ℕ) → pairs_from cpu (places addresses 0) ≡ []
no_pairs cpu [] = refl
no_pairs cpu (address ∷ addresses) = no_pairs (suc cpu) addresses

pub no_links : (addresses : List ℕ) → links_of addresses 0 ≡ []
unfolding links_of
no_links addresses = no_pairs 1 addresses
