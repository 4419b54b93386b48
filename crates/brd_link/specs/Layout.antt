-- How eight addresses and a mask stand for a set of links, and back.
use Rattle.std.specs.Prelude.{◌≡◌, ℕ, zero, suc, ◌+◌, ◌*◌, ◌/◌, ◌%◌, ◌<◌, ◌^◌, ◌==◌, if◌then◌else◌}
use Rattle.std.specs.Prelude.{Option, Some, None, List, [], ◌∷◌, map, length, is_some, unwrap_or, slice_index}
use Rattle.std.specs.Int.{bit_at}
use Rattle.brd_link.specs.LinkSet.{LinkSet, linked_address}

-- the place of each processor in turn, the lowest bit of the mask being the first's: its address, where its bit is set
abbrev pub places : List ℕ → ℕ → List (Option ℕ)
places [] mask = []
places (address ∷ addresses) mask =
    (if mask % 2 == 1 then Some address else None) ∷ places addresses (mask / 2)

-- the pairs of these places, the first being that of processor `cpu`
abbrev pub pairs_from : ℕ → List (Option ℕ) → LinkSet
pairs_from cpu [] = []
pairs_from cpu (None ∷ places) = pairs_from (suc cpu) places
pairs_from cpu (Some address ∷ places) =
    record { processor = cpu; address = address } ∷ pairs_from (suc cpu) places

-- the set that the addresses and the mask stand for
unfoldable pub links_of : List ℕ → ℕ → LinkSet
links_of addresses mask = pairs_from 1 (places addresses mask)

-- this many processors, from this one on
abbrev pub some_from : ℕ → ℕ → List ℕ
some_from cpu zero = []
some_from cpu (suc count) = cpu ∷ some_from (suc cpu) count

-- the place of each processor: the address of its link, if it has one
abbrev pub places_of : LinkSet → List (Option ℕ)
places_of links = map (linked_address links) (some_from 1 8)

-- the mask of these places, the lowest bit being the first's
abbrev pub mask_of : List (Option ℕ) → ℕ
mask_of [] = 0
mask_of (place ∷ places) = (if is_some place then 1 else 0) + 2 * mask_of places

-- the eight addresses of a set, 0 for a processor without a link
unfoldable pub addresses_in : LinkSet → List ℕ
addresses_in links = map (λ place. unwrap_or place 0) (places_of links)

-- the mask of a set: bit j is set where processor j + 1 has a link
unfoldable pub mask_in : LinkSet → ℕ
mask_in links = mask_of (places_of links)

-- eight addresses and a mask of eight bits, the address of a processor without a link being 0
pub record IsLayout (addresses : List ℕ) (mask : ℕ) : Type 0 where
  pub eight : length addresses ≡ 8
  pub few : mask < 2 ^ 8
  pub unused : (j : ℕ) → j < 8 → bit_at mask j ≡ 0 → slice_index addresses j ≡ 0
