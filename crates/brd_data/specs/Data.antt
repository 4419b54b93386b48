-- Data of a request: texts that each say a place and a file, and the pieces of memory that they come to. `opened` says
-- what a call on files did, `remaining` what a file has left to read.
use Rattle.std.specs.Prelude.{◌≡◌, ℕ, Bool, if◌then◌else◌, nat_eq, List, [], ◌∷◌, ◌++◌, codes, Option, Some, IfSome}
use Rattle.std.specs.Prelude.{Result, Ok}
use Rattle.std.specs.List.{starts_with}
use Rattle.std.specs.declared.io.Error.{Error}
use Rattle.brd_text.specs.Numbers.{number_of}
use Rattle.brd_text.specs.Pieces.{AreParts}
use Rattle.brd_mem.specs.Image.{symbol_value}
use Rattle.brd_mem.specs.declared.image.Segment.{Segment}
use Rattle.brd_mem.specs.declared.image.Symbol.{Symbol}

-- a text is a place and the name of a file, with the first = between them
abbrev pub IsPart : List ℕ → List ℕ → List ℕ → Type 0
IsPart text place file = AreParts 61 text place (Some file)

-- the address of a place: a number where it begins with 0x, else the value of a symbol
abbrev pub address_of : List Symbol → List ℕ → Option ℕ
address_of symbols place =
    if starts_with nat_eq place (codes "0x") then number_of place else symbol_value symbols place

-- pieces, and after them the one of these bytes at an address, if there are any
abbrev pub with_bytes : List Segment → ℕ → List ℕ → List Segment
with_bytes pieces address [] = pieces
with_bytes pieces address (byte ∷ bytes) = pieces ++ record { address = address; bytes = byte ∷ bytes } ∷ []

-- The files of texts were opened and read, one after the other, and these are the pieces that they come to. A file
-- without a byte comes to none.
pub data AreRead {F R : Type 0} (opened : F → List ℕ → Result R Error → F → Type 0) (remaining : R → Option (List ℕ))
    (symbols : List Symbol) (old : F) : List (List ℕ) → List Segment → F → Type 0 where
  none_yet : AreRead opened remaining symbols old [] [] old
  one_more : {texts : List (List ℕ)} {pieces : List Segment} {between new : F} (text place file : List ℕ)
      (address : ℕ) (reader : R) (bytes : List ℕ) →
      AreRead opened remaining symbols old texts pieces between →
      IsPart text place file → address_of symbols place ≡ Some address →
      opened between file (Ok reader) new → IfSome (remaining reader) (λ left. bytes ≡ left) →
      AreRead opened remaining symbols old (texts ++ text ∷ []) (with_bytes pieces address bytes) new
