-- Proofs: the eight addresses and the mask come back from the set that they stand for. They stand in specs/ since
-- `Links` is `Copy` with a `Model`, whose member `inverse_ok` has to be such a proof and can import nothing of proofs/.
use Rattle.std.proofs.Common.{◌≡◌, ℕ, zero, suc, ◌/◌, ◌%◌, ◌^◌, ◌<◌, ◌==◌, if◌then◌else◌, refl, sym, ap, ap₂, ◌∙◌}
use Rattle.std.proofs.Common.{pow-suc, arith}
use Rattle.std.proofs.Common.{Option, Some, None, unwrap_or, List, [], ◌∷◌, map, length, slice_index}
use Rattle.std.proofs.lemmas.Bool.{eq-eqb, ne_eqb}
use Rattle.std.proofs.lemmas.Nat.Bits.{bit_at_lowest, bit_at-suc}
use Rattle.std.specs.Int.{bit_at}
use Rattle.brd_link.specs.LinkSet.{Link, LinkSet, linked_address}
use Rattle.brd_link.specs.Layout.{places, pairs_from, links_of, some_from, places_of, mask_of, addresses_in, mask_in}
use Rattle.brd_link.specs.Layout.{IsLayout}

none_below : (k cpu : ℕ) (own : List (Option ℕ)) → k < cpu → linked_address (pairs_from cpu own) k ≡ None
none_below k cpu [] lt = refl
none_below k cpu (None ∷ own) lt = none_below k (suc cpu) own (omega arith)
none_below k cpu (Some address ∷ own) lt =
    rw (ne_eqb cpu k (λ e. omega arith)) (none_below k (suc cpu) own (omega arith))

behind : (link : Link) (links : LinkSet) (cpu count : ℕ) → link.processor < cpu →
    map (linked_address (link ∷ links)) (some_from cpu count) ≡ map (linked_address links) (some_from cpu count)
behind link links cpu zero lt = refl
behind link links cpu (suc count) lt =
    rw (ne_eqb link.processor cpu (λ e. omega arith))
    (ap (λ own. linked_address links cpu ∷ own) (behind link links (suc cpu) count (omega arith)))

places_back : (cpu : ℕ) (own : List (Option ℕ)) →
    map (linked_address (pairs_from cpu own)) (some_from cpu (length own)) ≡ own
places_back cpu [] = refl
places_back cpu (None ∷ own) = ap₂ ◌∷◌ (none_below cpu (suc cpu) own (omega arith)) (places_back (suc cpu) own)
places_back cpu (Some address ∷ own) =
    let link : Link = record { processor = cpu; address = address } in
    rw (eq-eqb cpu cpu refl)
    (ap (λ rest. Some address ∷ rest)
    (behind link (pairs_from (suc cpu) own) (suc cpu) (length own) (omega arith) ∙ places_back (suc cpu) own))

pub length-places : (addresses : List ℕ) (mask : ℕ) → length (places addresses mask) ≡ length addresses
length-places [] mask = refl
length-places (address ∷ addresses) mask = ap suc (length-places addresses (mask / 2))

places_of-links_of : (addresses : List ℕ) (mask : ℕ) → length addresses ≡ 8 →
    places_of (links_of addresses mask) ≡ places addresses mask
unfolding links_of
places_of-links_of addresses mask eight =
    ap (λ count. map (linked_address (pairs_from 1 (places addresses mask))) (some_from 1 count))
    (sym (length-places addresses mask ∙ eight))
    ∙ places_back 1 (places addresses mask)

mask_back : (addresses : List ℕ) (mask : ℕ) → mask < 2 ^ length addresses → mask_of (places addresses mask) ≡ mask
mask_back [] mask few = omega arith
mask_back (address ∷ addresses) mask few =
    let rest = mask_back addresses (mask / 2) (omega (arith, pow-suc 2 (length addresses))) in grind (arith, rest)

address_back : (address bit : ℕ) → (bit % 2 ≡ 0 → address ≡ 0) →
    unwrap_or (if bit % 2 == 1 then Some address else None) 0 ≡ address
address_back address bit unused = grind arith

addresses_back : (addresses : List ℕ) (mask : ℕ) →
    ((j : ℕ) → j < length addresses → bit_at mask j ≡ 0 → slice_index addresses j ≡ 0) →
    map (λ place. unwrap_or place 0) (places addresses mask) ≡ addresses
addresses_back [] mask unused = refl
addresses_back (address ∷ addresses) mask unused =
    ap₂ ◌∷◌ (address_back address mask (λ clear. unused 0 (omega arith) (bit_at_lowest mask ∙ clear)))
    (addresses_back addresses (mask / 2) (λ j lt clear. unused (suc j) (omega arith) (bit_at-suc mask j ∙ clear)))

pub addresses_in-links_of : (addresses : List ℕ) (mask : ℕ) → IsLayout addresses mask →
    addresses_in (links_of addresses mask) ≡ addresses
unfolding addresses_in
addresses_in-links_of addresses mask is =
    ap (map (λ place. unwrap_or place 0)) (places_of-links_of addresses mask is.eight)
    ∙ addresses_back addresses mask (λ j lt. is.unused j (omega (arith, is.eight)))

pub mask_in-links_of : (addresses : List ℕ) (mask : ℕ) → IsLayout addresses mask →
    mask_in (links_of addresses mask) ≡ mask
unfolding mask_in
mask_in-links_of addresses mask is =
    ap mask_of (places_of-links_of addresses mask is.eight) ∙ mask_back addresses mask (rw is.eight is.few)
