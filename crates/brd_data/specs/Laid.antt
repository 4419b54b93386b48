-- Files of which one has another text laid over it. `opened`, `created` and `closed` say what calls on the files
-- themselves did, `remaining` what one has left to read.
use Rattle.std.specs.Prelude.{◌≡◌, ℕ, List, drop, Option, None, Some, Result, Ok, Err}
use Rattle.std.specs.declared.io.Error.{Error}
use Rattle.brd_data.specs.declared.laid.Laid.{Laid}
use Rattle.brd_data.specs.declared.laid.LaidInput.{LaidInput}
use Rattle.brd_data.specs.declared.laid.LaidInput.TheVariants as input
use Rattle.brd_data.specs.declared.laid.Text.{Text}
use Rattle.brd_data.specs.declared.laid.TextReader.{TextReader}

-- what is left to read
abbrev pub left_of : {R : Type 0} → (R → Option (List ℕ)) → LaidInput R → Option (List ℕ)
left_of remaining (input.File reader) = remaining reader
left_of remaining (input.Text reader) = Some (drop reader.at reader.bytes.items)

-- a text is laid over the file of this name
abbrev pub IsOver : Option Text → List ℕ → Type 0
IsOver None name = ⊥
IsOver (Some text) name = text.name.items ≡ name

-- what is taken of the text that is laid over the file of this name: its bytes, and it lies there no more
abbrev pub IsTaken : {F : Type 0} → Laid F → List ℕ → Option (List ℕ) → Laid F → Type 0
IsTaken old name None new = (¬ IsOver old.laid name) × (new ≡ old)
IsTaken old name (Some bytes) new = (over : Text) × (old.laid ≡ Some over) × (over.name.items ≡ name)
    × (bytes ≡ over.bytes.items) × (new.files ≡ old.files) × (new.laid ≡ None)

-- Who opens the name of the file with the text first reads that, and the files aren't asked; any other is theirs.
pub data IsOpened {F R : Type 0} (opened : F → List ℕ → Result R Error → F → Type 0)
    (old : Laid F) (name : List ℕ) (result : Result (LaidInput R) Error) (new : Laid F) : Type 0 where
  text : {over : Text} {reader : TextReader} → old.laid ≡ Some over → over.name.items ≡ name →
      result ≡ Ok (input.Text reader) → reader.bytes.items ≡ over.bytes.items → reader.at ≡ 0 →
      new.files ≡ old.files → new.laid ≡ None →
      IsOpened opened old name result new
  file : {reader : R} → ¬ IsOver old.laid name → opened old.files name (Ok reader) new.files →
      result ≡ Ok (input.File reader) → new.laid ≡ old.laid →
      IsOpened opened old name result new
  refused : {error : Error} → ¬ IsOver old.laid name → opened old.files name (Err error) new.files →
      result ≡ Err error → new.laid ≡ old.laid →
      IsOpened opened old name result new

-- files are created and let go as without the text
pub record IsCreated {F W : Type 0} (created : F → List ℕ → Result W Error → F → Type 0)
    (old : Laid F) (name : List ℕ) (result : Result W Error) (new : Laid F) : Type 0 where
  pub is : created old.files name result new.files
  pub same : new.laid ≡ old.laid

pub record IsClosed {F W : Type 0} (closed : F → W → F → Type 0) (old : Laid F) (output : W) (new : Laid F) : Type 0
  where
    pub is : closed old.files output new.files
    pub same : new.laid ≡ old.laid
