-- Equal addresses and masks, equal sets, and equal states of all processors.
use Rattle.std.proofs.Common.{◌≡◌, ◌↔◌, ℕ, Bool, true, false, ◌==◌, eqb, IsTrue, List, refl, sym, ap, ap₂, ◌∙◌}
use Rattle.std.specs.Cmp.Lexicographic.{pointwise, pointwise_decides, bytes_decides}
use Rattle.std.proofs.lemmas.Bool.{eq-eqb, eqb-true, and_parts, and_from}
use Rattle.brd_link.specs.LinkSet.{Link, IsLinkSet, linked_address, is_same_link}
use Rattle.brd_link.specs.Layout.{links_of, addresses_in, mask_in, IsLayout}
use Rattle.brd_link.specs.LayoutBack.{addresses_in-links_of, mask_in-links_of}
use Rattle.brd_link.proofs.LinkLemmas.{same_sets}

link_decides : (a b : Link) → (is_same_link a b ≡ true → a ≡ b) × (a ≡ b → is_same_link a b ≡ true)
link_decides a b = (
  λ same. let parts = and_parts (a.processor == b.processor) (a.address == b.address) same in
      λ i. record { processor = eqb-true a.processor b.processor parts.0 i; address = eqb-true a.address b.address parts.1 i },
  λ e. and_from (a.processor == b.processor) (a.address == b.address) (eq-eqb a.processor b.processor (ap (λ (l : Link). l.processor) e)) (eq-eqb a.address b.address (ap (λ (l : Link). l.address) e)),
)

same_bool : (a b : Bool) (P : Type 0) → IsTrue a ↔ P → IsTrue b ↔ P → a ≡ b
same_bool true b P p q = sym (q.1 (p.0 refl))
same_bool false true P p q = p.1 (q.0 refl)
same_bool false false P p q = refl

-- a test of equality is the comparison of the lists
pub as_pointwise : (r : Bool) (a b : List Link) → IsTrue r ↔ (a ≡ b) → r ≡ pointwise is_same_link a b
as_pointwise r a b told =
    same_bool r (pointwise is_same_link a b) (a ≡ b) told (pointwise_decides link_decides a b)

-- and of the state of each processor
pub as_states : (r : Bool) (a b : List Link) → IsLinkSet a → IsLinkSet b → IsTrue r ↔ (a ≡ b) → IsTrue r ↔ ((cpu : ℕ) → linked_address a cpu ≡ linked_address b cpu)
as_states r a b is_a is_b told =
    (λ yes cpu. ap (λ links. linked_address links cpu) (told.0 yes), λ same. told.1 (same_sets a b 1 1 is_a is_b same))

pub addresses_same : (addresses addresses' : List ℕ) (mask mask' : ℕ) → IsLayout addresses mask → IsLayout addresses' mask' → links_of addresses mask ≡ links_of addresses' mask' → addresses ≡ addresses'
addresses_same addresses addresses' mask mask' is is' e =
    sym (addresses_in-links_of addresses mask is) ∙ ap addresses_in e ∙ addresses_in-links_of addresses' mask' is'

pub mask_same : (addresses addresses' : List ℕ) (mask mask' : ℕ) → IsLayout addresses mask → IsLayout addresses' mask' → links_of addresses mask ≡ links_of addresses' mask' → mask ≡ mask'
mask_same addresses addresses' mask mask' is is' e =
    sym (mask_in-links_of addresses mask is) ∙ ap mask_in e ∙ mask_in-links_of addresses' mask' is'

-- the test of the addresses, where the masks are the same
pub by_addresses : (addresses addresses' : List ℕ) (mask mask' : ℕ) (a b : List Link) (r : Bool) → IsLayout addresses mask → IsLayout addresses' mask'
    → links_of addresses mask ≡ a → links_of addresses' mask' ≡ b → mask ≡ mask' → r ≡ pointwise eqb addresses addresses' → IsTrue r ↔ (a ≡ b)
by_addresses addresses addresses' mask mask' a b r is is' view view' masks told = (
  λ yes. sym view ∙ ap₂ links_of ((bytes_decides addresses addresses').0 (sym told ∙ yes)) masks ∙ view',
  λ e. told ∙ (bytes_decides addresses addresses').1 (addresses_same addresses addresses' mask mask' is is' (view ∙ e ∙ sym view')),
)

-- the test of the masks, where they differ
pub by_masks : (addresses addresses' : List ℕ) (mask mask' : ℕ) (a b : List Link) → IsLayout addresses mask → IsLayout addresses' mask'
    → links_of addresses mask ≡ a → links_of addresses' mask' ≡ b → ¬ (mask ≡ mask') → IsTrue (mask == mask') ↔ (a ≡ b)
by_masks addresses addresses' mask mask' a b is is' view view' differ = (
  λ yes. absurd (differ (eqb-true mask mask' yes)),
  λ e. absurd (differ (mask_same addresses addresses' mask mask' is is' (view ∙ e ∙ sym view'))),
)
