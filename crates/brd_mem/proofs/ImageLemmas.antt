-- A plain image is loadable: segments that ascend are apart, and names of which no later one is the same are distinct.
use Rattle.std.proofs.Common.{◌≢◌, ℕ, ◌+◌, ◌≤◌, List, [], ◌∷◌, length, inl, arith}
use Rattle.std.specs.List.{AllByRecursion}
use Rattle.brd_mem.specs.Image.{AreAscending, AreNamed, IsPlain, IsApart, AreApart, AreDistinct, IsLoadable}
use Rattle.brd_mem.specs.declared.image.Image.{Image}
use Rattle.brd_mem.specs.declared.image.Segment.{Segment}
use Rattle.brd_mem.specs.declared.image.Symbol.{Symbol}

ascending-filled : (low : ℕ) (segments : List Segment) → AreAscending low segments →
    AllByRecursion (λ segment. segment.bytes ≢ []) segments
ascending-filled low [] are = tt
ascending-filled low (segment ∷ others) are =
    (are.1, ascending-filled (segment.address + length segment.bytes) others are.3)

-- what ends where the others begin is apart from each of them
ends_before : (segment : Segment) (low : ℕ) (others : List Segment) → segment.address + length segment.bytes ≤ low →
    AreAscending low others → AllByRecursion (λ other. IsApart segment other) others
ends_before segment low [] ends are = tt
ends_before segment low (other ∷ others) ends are =
    let from : low ≤ other.address = are.0 in
    (inl (omega arith), ends_before segment (other.address + length other.bytes) others (omega arith) are.3)

ascending-apart : (low : ℕ) (segments : List Segment) → AreAscending low segments → AreApart segments
ascending-apart low [] are = tt
ascending-apart low (segment ∷ others) are =
    let end : ℕ = segment.address + length segment.bytes in
    (ends_before segment end others (omega arith) are.3, ascending-apart end others are.3)

named-distinct : (symbols : List Symbol) → AreNamed symbols → AreDistinct symbols
named-distinct [] are = tt
named-distinct (symbol ∷ others) are = (are.1, named-distinct others are.2)

pub loadable : (image : Image) → IsPlain image → IsLoadable image
loadable image plain = record {
  filled = ascending-filled _ image.segments plain.segments;
  apart = ascending-apart _ image.segments plain.segments;
  distinct = named-distinct image.symbols plain.symbols;
}
