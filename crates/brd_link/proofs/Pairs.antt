-- The pairs of a layout, by what an index of the addresses and the same bit of the mask give.
use Rattle.std.proofs.Common.{◌≡◌, ℕ, zero, suc, ◌+◌, ◌-◌, ◌/◌, ◌<◌, ◌≤◌, ◌==◌, ◌&&◌, if◌then◌else◌, nat_lt, nat_le, Option, Some, None, is_some, List, [], ◌∷◌, length, get_or, refl, ap, ap₂, ◌∙◌, arith}
use Rattle.std.specs.List.{list_any}
use Rattle.std.proofs.lemmas.Bool.Decides.{nat_tests}
use Rattle.std.proofs.lemmas.Bool.{lt-ltb, le-leb}
use Rattle.std.proofs.lemmas.Nat.Bits.{bit_at_lowest, bit_at-suc}
use Rattle.std.specs.Int.{bit_at}
use Rattle.brd_link.specs.LinkSet.{Link, LinkSet, linked_address}
use Rattle.brd_link.specs.Layout.{some_from, places, pairs_from, links_of}
use Rattle.brd_link.specs.LayoutBack.{length-places}

abbrev pub processors : List ℕ
processors = some_from 1 8

-- processor j + 1 has a link where bit j of the mask is set, and then its address is at index j
abbrev pub address_at : List ℕ → ℕ → ℕ → Option ℕ
address_at addresses mask cpu = if bit_at mask (cpu - 1) == 1 then Some (get_or addresses (cpu - 1) 0) else None

-- the pair of a processor in front of those of later ones
abbrev pub before : ℕ → Option ℕ → LinkSet → LinkSet
before cpu None rest = rest
before cpu (Some linked) rest = record { processor = cpu; address = linked } ∷ rest

-- the pairs of these processors, in their order
abbrev pub pairs : (ℕ → Option ℕ) → List ℕ → LinkSet
pairs place [] = []
pairs place (cpu ∷ cpus) = before cpu (place cpu) (pairs place cpus)

-- two that agree on the processors give the same pairs
pub agree : (f g : ℕ → Option ℕ) (first count : ℕ) → ((cpu : ℕ) → first ≤ cpu → cpu < first + count → f cpu ≡ g cpu) → pairs f (some_from first count) ≡ pairs g (some_from first count)
agree f g first zero same = refl
agree f g first (suc count) same =
    ap₂ (before first) (same first (omega arith) (omega arith)) (agree f g (suc first) count (λ cpu from to. same cpu (omega arith) (omega arith)))

pairs_from-before : (cpu : ℕ) (place : Option ℕ) (own : List (Option ℕ)) → pairs_from cpu (place ∷ own) ≡ before cpu place (pairs_from (suc cpu) own)
pairs_from-before cpu None own = refl
pairs_from-before cpu (Some linked) own = refl

first_place : (place : Option ℕ) (own : List (Option ℕ)) (n : ℕ) → n ≡ 0 → place ≡ get_or (place ∷ own) n None
first_place place own n e = rw e refl

later_place : (place : Option ℕ) (own : List (Option ℕ)) (n m : ℕ) → n ≡ suc m → get_or own m None ≡ get_or (place ∷ own) n None
later_place place own n m e = rw e refl

pairs_from-pairs : (cpu : ℕ) (own : List (Option ℕ)) → pairs_from cpu own ≡ pairs (λ q. get_or own (q - cpu) None) (some_from cpu (length own))
pairs_from-pairs cpu [] = refl
pairs_from-pairs cpu (place ∷ own) =
    pairs_from-before cpu place own
    ∙ ap₂ (before cpu) (first_place place own (cpu - cpu) (omega arith))
    (pairs_from-pairs (suc cpu) own
    ∙ agree (λ q. get_or own (q - suc cpu) None) (λ q. get_or (place ∷ own) (q - cpu) None) (suc cpu) (length own) (λ q low high. later_place place own (q - cpu) (q - suc cpu) (omega arith)))

-- the place at an index
get_or-places : (addresses : List ℕ) (mask j : ℕ) → j < length addresses → get_or (places addresses mask) j None ≡ (if bit_at mask j == 1 then Some (get_or addresses j 0) else None)
get_or-places [] mask j lt = absurd (omega arith)
get_or-places (address ∷ addresses) mask zero lt = rw (bit_at_lowest mask) refl
get_or-places (address ∷ addresses) mask (suc j) lt = rw (bit_at-suc mask j) (get_or-places addresses (mask / 2) j (omega arith))

pub links_of-pairs : (addresses : List ℕ) (mask : ℕ) → length addresses ≡ 8 → links_of addresses mask ≡ pairs (address_at addresses mask) processors
unfolding links_of
links_of-pairs addresses mask eight =
    pairs_from-pairs 1 (places addresses mask)
    ∙ ap (λ count. pairs (λ q. get_or (places addresses mask) (q - 1) None) (some_from 1 count)) (length-places addresses mask ∙ eight)
    ∙ agree (λ q. get_or (places addresses mask) (q - 1) None) (address_at addresses mask) 1 8 (λ q low high. get_or-places addresses mask (q - 1) (omega arith))

linked_address-before : (cpu : ℕ) (place : Option ℕ) (rest : List Link) (q : ℕ) → linked_address (before cpu place rest) q ≡ (if cpu == q && is_some place then place else linked_address rest q)
linked_address-before cpu None rest q = grind (arith, nat_tests)
linked_address-before cpu (Some linked) rest q = grind (arith, nat_tests)

linked_address-pairs : (f : ℕ → Option ℕ) (cpus : List ℕ) (q : ℕ) → linked_address (pairs f cpus) q ≡ (if list_any (λ cpu. cpu == q) cpus then f q else None)
linked_address-pairs f [] q = refl
linked_address-pairs f (cpu ∷ cpus) q = grind (arith, nat_tests, linked_address-before cpu (f cpu) (pairs f cpus) q, linked_address-pairs f cpus q)

list_any-some_from : (q cpu count : ℕ) → list_any (λ other. other == q) (some_from cpu count) ≡ (nat_le cpu q && nat_lt q (cpu + count))
list_any-some_from q cpu zero = grind (arith, nat_tests)
list_any-some_from q cpu (suc count) = grind (arith, nat_tests, list_any-some_from q (suc cpu) count)

pub linked_address-links_of : (addresses : List ℕ) (mask cpu : ℕ) → length addresses ≡ 8 → 1 ≤ cpu → cpu ≤ 8 → linked_address (links_of addresses mask) cpu ≡ address_at addresses mask cpu
linked_address-links_of addresses mask cpu eight from to =
    ap (λ links. linked_address links cpu) (links_of-pairs addresses mask eight)
    ∙ linked_address-pairs (address_at addresses mask) processors cpu
    ∙ rw (list_any-some_from cpu 1 8, le-leb 1 cpu from, lt-ltb cpu 9 (omega arith)) refl
