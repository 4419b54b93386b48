-- A text that is laid over a file, and its first opening.
use Rattle.std.proofs.Common.{◌≡◌, ℕ, List, refl, ap, sym, subst, ◌∙◌, Result, Ok, Err}
use Rattle.std.specs.Prelude.{Option, None, Some, option_map}
use Rattle.std.specs.declared.io.Error.{Error}
use Rattle.brd_data.specs.Laid.{IsOpened, IsOver, IsTaken}
use Rattle.brd_data.specs.Laid.IsOpened.{text, file, refused}
use Rattle.brd_data.specs.declared.laid.Laid.{Laid}
use Rattle.brd_data.specs.declared.laid.LaidInput.{LaidInput}
use Rattle.brd_data.specs.declared.laid.LaidInput.TheVariants as input
use Rattle.brd_data.specs.declared.laid.Text.{Text}
use Rattle.brd_data.specs.declared.laid.TextReader.{TextReader}

module _ {F : Type 0} (old : Laid F) (name : List ℕ) where
  bytes_taken : (over : Text) (result : Option (List ℕ)) (new : Laid F) → old.laid ≡ Some over → over.name.items ≡ name →
      result ≡ Some over.bytes.items → new.files ≡ old.files → new.laid ≡ None → IsTaken old name result new
  bytes_taken over None new is named same files none = let wrong : ⊥ = cc in absurd wrong
  bytes_taken over (Some bytes) new is named same files none =
      let is_bytes : bytes ≡ over.bytes.items = cc in (over, is, named, is_bytes, files, none)

  pub taken_so : (result : Option (List ℕ)) (new : Laid F) → IsOver old.laid name →
      result ≡ option_map (λ (it : Text). it.bytes.items) old.laid → new.files ≡ old.files → new.laid ≡ None → IsTaken old name result new
  taken_so result new over same files none = go old.laid refl over same
    where
      go : (laid : Option Text) → old.laid ≡ laid → IsOver laid name → result ≡ option_map (λ (it : Text). it.bytes.items) laid →
          IsTaken old name result new
      go None is over same = absurd over
      go (Some it) is over same = bytes_taken it result new is over same files none

  pub opens_text : {R : Type 0} (opened : F → List ℕ → Result R Error → F → Type 0) (bytes : List ℕ) (reader : TextReader) (new : Laid F) →
      IsTaken old name (Some bytes) new → reader.bytes.items ≡ bytes → reader.at ≡ 0 → IsOpened opened old name (Ok (input.Text reader)) new
  opens_text opened bytes reader new (over, is, named, same, files, none) read at = text is named refl (read ∙ same) at files none

  pub opens_file : {R : Type 0} (opened : F → List ℕ → Result R Error → F → Type 0) (between : Laid F) (reader : R) (files : F) →
      IsTaken old name None between → opened between.files name (Ok reader) files →
      IsOpened opened old name (Ok (input.File reader)) (record { files = files; laid = between.laid })
  opens_file opened between reader files (misses, same) opens =
      file misses (subst (λ (it : Laid F). opened it.files name (Ok reader) files) same opens) refl (ap (λ (it : Laid F). it.laid) same)

  pub opens_none : {R : Type 0} (opened : F → List ℕ → Result R Error → F → Type 0) (between : Laid F) (error : Error) (files : F) →
      IsTaken old name None between → opened between.files name (Err error) files →
      IsOpened opened old name (Err error) (record { files = files; laid = between.laid })
  opens_none opened between error files (misses, same) opens =
      refused misses (subst (λ (it : Laid F). opened it.files name (Err error) files) same opens) refl (ap (λ (it : Laid F). it.laid) same)
