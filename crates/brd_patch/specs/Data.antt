-- Data in memory: pieces, each of bytes from an address on, that take the place of what an object file loads there.
use Rattle.std.specs.Prelude.{◌≡◌, ℕ, ◌+◌, ◌-◌, ◌≤◌, max, nat_lt, if◌then◌else◌, List, [], ◌∷◌, ◌++◌, length, take}
use Rattle.std.specs.Prelude.{drop}
use Rattle.std.specs.Prelude.{flat_map, fold, Ok}
use Rattle.std.specs.List.{AllByRecursion}
use Rattle.brd_base.specs.Space.{top}
use Rattle.brd_mem.specs.Memory.{Memory, copied}
use Rattle.brd_mem.specs.declared.image.Image.{Image}
use Rattle.brd_mem.specs.declared.image.Segment.{Segment}
use Rattle.brd_elf.specs.Meaning.{meaning}

-- a memory with the bytes of these pieces at their addresses, those of the first put there first
abbrev pub with_data : Memory → List Segment → Memory
with_data memory pieces = fold (λ memory piece. copied memory piece.address piece.bytes) memory pieces

-- ---- images

-- where a piece ends
abbrev pub end_of : Segment → ℕ
end_of piece = piece.address + length piece.bytes

-- what a segment has before an address, and from an address on, each as a segment if there is something
abbrev pub before : ℕ → Segment → List Segment
before low segment =
    if nat_lt segment.address low
    then record { address = segment.address; bytes = take (low - segment.address) segment.bytes } ∷ []
    else []

abbrev pub behind : ℕ → Segment → List Segment
behind high segment =
    if nat_lt high (end_of segment)
    then record { address = max high segment.address; bytes = drop (high - segment.address) segment.bytes } ∷ []
    else []

-- what a segment has beside a piece
abbrev pub beside : Segment → Segment → List Segment
beside piece segment = before piece.address segment ++ behind (end_of piece) segment

-- segments without what lies where a piece does, and that piece after them
abbrev pub with_piece : List Segment → Segment → List Segment
with_piece segments piece = flat_map (beside piece) segments ++ piece ∷ []

-- segments with pieces in their places, one after the other
abbrev pub with_pieces : List Segment → List Segment → List Segment
with_pieces segments pieces = fold with_piece segments pieces

-- an image with pieces in their places: its entry, symbols and byte order stay
abbrev pub image_with : Image → List Segment → Image
image_with image pieces = record image { segments = with_pieces image.segments pieces }

-- pieces end no later than RAM may
abbrev pub AreWithin : List Segment → Type 0
AreWithin pieces = AllByRecursion (λ piece. end_of piece ≤ top) pieces

-- ---- object files

-- An object file has data beside another one: it means the image of that with the pieces in their places.
pub record HasData (file : List ℕ) (pieces : List Segment) (patched : List ℕ) : Type 0 where
  pub image : Image
  pub means : meaning file ≡ Ok image
  pub has : meaning patched ≡ Ok (image_with image pieces)
