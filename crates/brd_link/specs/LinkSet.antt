-- The links of the processors: a finite set of pairs of a processor and an address, at most one pair for a processor.
-- A set stands as the list of its pairs by ascending processor, so two sets are equal exactly where their lists are.
use Rattle.std.specs.Prelude.{ℕ, suc, ◌/◌, ◌≤◌, Bool, not, ◌&&◌, ◌||◌, ◌==◌, if◌then◌else◌, nat_lt, Option, Some, None}
use Rattle.std.specs.Prelude.{List, [], ◌∷◌, ◌++◌, filter, find}
use Rattle.std.specs.List.{list_any}
use Rattle.std.specs.Option.{option_map}
use Rattle.std.specs.Ordering.{on, eq_of_both}

-- the processor has done an LL at the address, and its link still stands
pub record Link : Type 0 where
  pub processor : ℕ
  pub address : ℕ

abbrev pub LinkSet : Type 0
LinkSet = List Link

-- the processors of the pairs rise, from `first` at least to 8 at most
abbrev pub AllFrom : ℕ → LinkSet → Type 0
AllFrom first [] = Unit {0}
AllFrom first (link ∷ links) =
    (first ≤ link.processor) × (link.processor ≤ 8) × AllFrom (suc link.processor) links

-- one list for each set: at most one pair for each of the processors 1 to 8, in their order
abbrev pub IsLinkSet : LinkSet → Type 0
IsLinkSet links = AllFrom 1 links

-- the pair is in the set: the processor has a link, and it is to this address
abbrev pub is_linked : LinkSet → ℕ → ℕ → Bool
is_linked links cpu address =
    list_any (λ link. link.processor == cpu && link.address == address) links

-- the address of the processor's link, if it has one
abbrev pub linked_address : LinkSet → ℕ → Option ℕ
linked_address links cpu = option_map (λ link. link.address) (find (λ link. link.processor == cpu) links)

-- the processor's link ends: the pairs of the others
abbrev pub without : LinkSet → ℕ → LinkSet
without links cpu = filter (λ link. not (link.processor == cpu)) links

-- the links of these processors end
abbrev pub without_all : LinkSet → List ℕ → LinkSet
without_all links [] = links
without_all links (cpu ∷ cpus) = without_all (without links cpu) cpus

-- an LL: the pairs of the processors below, this pair, and those of the processors above
abbrev pub with_link : LinkSet → ℕ → ℕ → LinkSet
with_link links cpu address =
    filter (λ link. nat_lt link.processor cpu) links
    ++ (record { processor = cpu; address = address }) ∷ filter (λ link. nat_lt cpu link.processor) links

-- whether two addresses lie in one block of 16 bytes, aligned
abbrev pub is_same_block : ℕ → ℕ → Bool
is_same_block a b = a / 16 == b / 16

-- a store: its processor's own pair, and those of the others whose address lies outside the stored block
abbrev pub after_store : LinkSet → ℕ → ℕ → LinkSet
after_store links cpu address =
    filter (λ link. link.processor == cpu || not (is_same_block link.address address)) links

-- the address of a link, if a store to `address` by another leaves it
abbrev pub outside_block : ℕ → Option ℕ → Option ℕ
outside_block address None = None
outside_block address (Some linked) = if is_same_block linked address then None else Some linked

-- the same pair (in std's words, so that std proves that this is an equivalence)
abbrev pub is_same_link : Link → Link → Bool
is_same_link = eq_of_both (on (λ link. link.processor) ◌==◌) (on (λ link. link.address) ◌==◌)
