-- Which files a command over a board opens, and in which order. `opened` says what a call on files did: the files
-- before, a name, what the call gave, and the files after.
use Rattle.std.specs.Prelude.{◌≡◌, ℕ, List, Result, Ok, Err, IsErrAnd}
use Rattle.std.specs.declared.io.Error.{Error}
use Rattle.brd_inputs.specs.Faults.{IsOfOpen}
use Rattle.brd_inputs.specs.declared.fault.CommandFault.{CommandFault}
use Rattle.brd_inputs.specs.declared.inputs.Inputs.{Inputs}
use Rattle.brd_inputs.specs.declared.inputs.Pair.{Pair}

-- IMAGE is opened first, then CONFIG, unless IMAGE can't be. The fault has the name of the file that can't be opened,
-- unless memory ran out.
pub data OpensPair {F R : Type 0} (opened : F → List ℕ → Result R Error → F → Type 0)
    (old : F) (image config : List ℕ) (result : Result (Pair R) CommandFault) (new : F) : Type 0 where
  no_image : {error : Error} → opened old image (Err error) new → IsErrAnd result (IsOfOpen image error) →
      OpensPair opened old image config result new
  no_config : {between : F} {reader : R} {error : Error} →
      opened old image (Ok reader) between → opened between config (Err error) new →
      IsErrAnd result (IsOfOpen config error) →
      OpensPair opened old image config result new
  both : {between : F} {pair : Pair R} →
      opened old image (Ok pair.image) between → opened between config (Ok pair.config) new →
      result ≡ Ok pair →
      OpensPair opened old image config result new

-- IMAGE is opened first, then CONFIG, then a last file, JOURNAL or SCRIPT, up to the first that can't be. Its fault
-- has that file's name, unless memory ran out.
pub data OpensInputs {F R : Type 0} (opened : F → List ℕ → Result R Error → F → Type 0)
    (old : F) (image config last : List ℕ) (result : Result (Inputs R) CommandFault) (new : F) : Type 0 where
  no_image : {error : Error} → opened old image (Err error) new → IsErrAnd result (IsOfOpen image error) →
      OpensInputs opened old image config last result new
  no_config : {between : F} {reader : R} {error : Error} →
      opened old image (Ok reader) between → opened between config (Err error) new →
      IsErrAnd result (IsOfOpen config error) →
      OpensInputs opened old image config last result new
  no_last : {first second : F} {of_image of_config : R} {error : Error} →
      opened old image (Ok of_image) first → opened first config (Ok of_config) second →
      opened second last (Err error) new →
      IsErrAnd result (IsOfOpen last error) →
      OpensInputs opened old image config last result new
  all : {first second : F} {inputs : Inputs R} →
      opened old image (Ok inputs.image) first → opened first config (Ok inputs.config) second →
      opened second last (Ok inputs.last) new →
      result ≡ Ok inputs →
      OpensInputs opened old image config last result new
