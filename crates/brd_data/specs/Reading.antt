-- Steps of reading data, of which only private contracts speak.
use Rattle.std.specs.Prelude.{◌≡◌, ℕ, List, Option, Some, IfSome, Result, Ok}
use Rattle.std.specs.declared.io.Error.{Error}
use Rattle.brd_mem.specs.declared.image.Segment.{Segment}
use Rattle.brd_mem.specs.declared.image.Symbol.{Symbol}
use Rattle.brd_data.specs.Data.{IsPart, address_of, with_bytes}

-- the file of this name was opened, and had these bytes
pub record IsFileRead {F R : Type 0} (opened : F → List ℕ → Result R Error → F → Type 0)
    (remaining : R → Option (List ℕ)) (old : F) (name bytes : List ℕ) (new : F) : Type 0 where
  pub reader : R
  pub opens : opened old name (Ok reader) new
  pub has : IfSome (remaining reader) (λ left. bytes ≡ left)

-- the file of a text was read, and its bytes make the last piece
pub record IsPiece {F R : Type 0} (opened : F → List ℕ → Result R Error → F → Type 0)
    (remaining : R → Option (List ℕ)) (symbols : List Symbol) (old : F) (text : List ℕ)
    (before after : List Segment) (new : F) : Type 0 where
  pub place : List ℕ
  pub file : List ℕ
  pub address : ℕ
  pub bytes : List ℕ
  pub is_part : IsPart text place file
  pub is_address : address_of symbols place ≡ Some address
  pub is_read : IsFileRead opened remaining old file bytes new
  pub is : after ≡ with_bytes before address bytes
