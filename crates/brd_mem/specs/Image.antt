-- Images: what is loaded into memory before the board starts.
use Rattle.std.specs.Prelude.{◌≢◌, ℕ, ◌+◌, ◌-◌, ◌≤◌, ◌⊎◌, ◌&&◌, nat_le, nat_lt, if◌then◌else◌, List, [], ◌∷◌, length}
use Rattle.std.specs.Prelude.{flat_map, slice_get, Option, None, Some, bytes_eq}
use Rattle.std.specs.List.{AllByRecursion}
use Rattle.brd_word.specs.declared.order.Order.{Order}
use Rattle.brd_word.specs.Words.{bytes_of_word}
use Rattle.brd_base.specs.Space.{base, top}
use Rattle.brd_mem.specs.declared.image.Image.{Image}
use Rattle.brd_mem.specs.declared.image.Segment.{Segment}
use Rattle.brd_mem.specs.declared.image.Symbol.{Symbol}

-- Words lie from the first address of RAM on, each with the most significant byte first; no words make no segment.
abbrev pub segments_of_words : List ℕ → List Segment
segments_of_words [] = []
segments_of_words (word ∷ words) =
    record { address = base; bytes = flat_map (bytes_of_word Order.Big) (word ∷ words) } ∷ []

-- the image of words: it is big-endian, starts at the first of them, and names nothing
abbrev pub image_of_words : List ℕ → Image
image_of_words words = record { entry = base; segments = segments_of_words words; symbols = []; order = Order.Big }

-- From an address on, segments that have bytes follow one another, none over another, none past 0x80FFFFFF.
abbrev pub AreAscending : ℕ → List Segment → Type 0
AreAscending low [] = Unit {0}
AreAscending low (segment ∷ others) =
    (low ≤ segment.address) × (segment.bytes ≢ []) × (segment.address + length segment.bytes ≤ top)
    × AreAscending (segment.address + length segment.bytes) others

-- a name has bytes, and none of them is 0
abbrev pub IsName : List ℕ → Type 0
IsName name = (name ≢ []) × AllByRecursion (λ byte. byte ≢ 0) name

-- each symbol has a name, and no later one has the same
abbrev pub AreNamed : List Symbol → Type 0
AreNamed [] = Unit {0}
AreNamed (symbol ∷ others) =
    IsName symbol.name × AllByRecursion (λ other. other.name ≢ symbol.name) others × AreNamed others

-- an image that stands for a file, and that is read back from it as itself where it fits
pub record IsPlain (image : Image) : Type 0 where
  pub segments : AreAscending base image.segments
  pub symbols : AreNamed image.symbols

-- the byte at an address, where one of the segments has one
abbrev pub byte_in : List Segment → ℕ → Option ℕ
byte_in [] address = None
byte_in (segment ∷ others) address =
    if nat_le segment.address address && nat_lt address (segment.address + length segment.bytes)
    then slice_get segment.bytes (address - segment.address)
    else byte_in others address

-- the value of a name, where one of the symbols has it
abbrev pub symbol_value : List Symbol → List ℕ → Option ℕ
symbol_value [] name = None
symbol_value (symbol ∷ others) name = if bytes_eq name symbol.name then Some symbol.value else symbol_value others name

-- one ends before the other begins
abbrev pub IsApart : Segment → Segment → Type 0
IsApart segment other =
    (segment.address + length segment.bytes ≤ other.address) ⊎ (other.address + length other.bytes ≤ segment.address)

-- no address is in two of the segments
abbrev pub AreApart : List Segment → Type 0
AreApart [] = Unit {0}
AreApart (segment ∷ others) = AllByRecursion (λ other. IsApart segment other) others × AreApart others

-- no name stands twice
abbrev pub AreDistinct : List Symbol → Type 0
AreDistinct [] = Unit {0}
AreDistinct (symbol ∷ others) = AllByRecursion (λ other. other.name ≢ symbol.name) others × AreDistinct others

-- What a board asks of an image, in whatever order its segments are.
pub record IsLoadable (image : Image) : Type 0 where
  pub filled : AllByRecursion (λ segment. segment.bytes ≢ []) image.segments
  pub apart : AreApart image.segments
  pub distinct : AreDistinct image.symbols
