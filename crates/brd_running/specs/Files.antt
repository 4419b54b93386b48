-- What the files of a command give it, and how `asm`, `run`, `race` and `debug` end on them. `opened` and
-- `created` say what a call on files did: the files before, a name, what the call gave, and the files after; `closed`
-- says what letting a written file go did. `remaining` says what a file has left to read, `contents` what a file holds
-- that is written; `before` and `after` are what standard output held before and after the command.
use Rattle.std.specs.Prelude.{◌≡◌, ℕ, List, Option, IfSome, Result, Ok, Err, IsErrAnd}
use Rattle.std.specs.declared.io.Error.{Error}
use Rattle.brd_running.specs.AsmCommand.{AsmEnds}
use Rattle.brd_inputs.specs.Faults.{IsOfOpen}
use Rattle.brd_inputs.specs.Opening.{OpensInputs}
use Rattle.brd_running.specs.Debugging.{DebugEnds}
use Rattle.brd_running.specs.RaceCommand.{RaceEnds}
use Rattle.brd_running.specs.RunCommand.{RunEnds}
use Rattle.brd_inputs.specs.declared.fault.CommandFault.{CommandFault}
use Rattle.brd_inputs.specs.declared.inputs.Inputs.{Inputs}

-- SOURCE is opened first; OUT is created only where SOURCE was opened; what `asm` writes is written only where both
-- succeeded, and then OUT is let go as `asm` left it. The fault of a file that couldn't be opened or created has that
-- file's name.
pub data AsmFilesEnd {F R W : Type 0}
    (opened : F → List ℕ → Result R Error → F → Type 0) (created : F → List ℕ → Result W Error → F → Type 0)
    (closed : F → W → F → Type 0) (remaining : R → Option (List ℕ)) (contents : W → Option (List ℕ))
    (old : F) (source out : List ℕ) (result : Result Unit CommandFault) (new : F) : Type 0 where
  not_opened : {error : Error} → opened old source (Err error) new → IsErrAnd result (IsOfOpen source error) →
      AsmFilesEnd opened created closed remaining contents old source out result new
  not_created : {between : F} {reader : R} {error : Error} →
      opened old source (Ok reader) between → created between out (Err error) new →
      IsErrAnd result (IsOfOpen out error) →
      AsmFilesEnd opened created closed remaining contents old source out result new
  ended : {between both : F} {reader : R} {writer last : W} →
      opened old source (Ok reader) between → created between out (Ok writer) both → closed both last new →
      IfSome (remaining reader) (λ text. AsmEnds result text (contents writer) (contents last)) →
      AsmFilesEnd opened created closed remaining contents old source out result new

-- A command opens IMAGE, then CONFIG, then a last file. Only where all three were opened they are read, and it ends by
-- what they have in them, as `ends` says; else it is refused for what kept one from being opened, and `untouched` says
-- what it leaves alone.
pub data FilesEnd {F R : Type 0}
    (opened : F → List ℕ → Result R Error → F → Type 0) (remaining : R → Option (List ℕ))
    (ends : List ℕ → List ℕ → List ℕ → Type 0) (untouched : Type 0)
    (old : F) (image config last : List ℕ) (result : Result Unit CommandFault) (new : F) : Type 0 where
  not_opened : {fault : CommandFault} → OpensInputs opened old image config last (Err fault) new →
      result ≡ Err fault → untouched →
      FilesEnd opened remaining ends untouched old image config last result new
  ended : {inputs : Inputs R} → OpensInputs opened old image config last (Ok inputs) new →
      IfSome (remaining inputs.image)
      (λ file. IfSome (remaining inputs.config) (λ statements. IfSome (remaining inputs.last) (ends file statements))) →
      FilesEnd opened remaining ends untouched old image config last result new

-- The report is written only where all three files were opened; else nothing was written.
abbrev pub RunFilesEnd : {F R : Type 0} → (F → List ℕ → Result R Error → F → Type 0) → (R → Option (List ℕ)) →
    F → List ℕ → List ℕ → List ℕ → Option (List ℕ) → Option (List ℕ) → Result Unit CommandFault → F → Type 0
RunFilesEnd opened remaining old image config journal before after result new =
    FilesEnd opened remaining (λ file statements events. RunEnds result file statements events before after)
    (before ≡ after) old image config journal result new

-- OUT is created only where all three files were opened; what `race` writes is written only where it was created too,
-- and then OUT is let go as `race` left it. The fault of OUT has its name; unless all four were opened, nothing is
-- written on standard output.
pub data RaceFilesEnd {F R W : Type 0}
    (opened : F → List ℕ → Result R Error → F → Type 0) (created : F → List ℕ → Result W Error → F → Type 0)
    (closed : F → W → F → Type 0) (remaining : R → Option (List ℕ)) (contents : W → Option (List ℕ))
    (old : F) (image config script : List ℕ) (quota : ℕ) (out : List ℕ) (before after : Option (List ℕ))
    (result : Result Unit CommandFault) (new : F) : Type 0 where
  not_opened : {fault : CommandFault} → OpensInputs opened old image config script (Err fault) new →
      result ≡ Err fault → before ≡ after →
      RaceFilesEnd opened created closed remaining contents old image config script quota out before after result new
  not_created : {all : F} {inputs : Inputs R} {error : Error} →
      OpensInputs opened old image config script (Ok inputs) all →
      created all out (Err error) new → IsErrAnd result (IsOfOpen out error) → before ≡ after →
      RaceFilesEnd opened created closed remaining contents old image config script quota out before after result new
  ended : {all both : F} {inputs : Inputs R} {writer last : W} →
      OpensInputs opened old image config script (Ok inputs) all →
      created all out (Ok writer) both → closed both last new →
      IfSome (remaining inputs.image)
      (λ file. IfSome (remaining inputs.config) (λ statements. IfSome (remaining inputs.last) (λ text.
      RaceEnds result quota file statements text (contents writer) (contents last) before after))) →
      RaceFilesEnd opened created closed remaining contents old image config script quota out before after result new

-- Standard input, which had `input_first` in it and has `input` left, is read, and answers are written, only where all
-- three files were opened; else neither was.
abbrev pub DebugFilesEnd : {F R C : Type 0} → (F → List ℕ → Result R Error → F → Type 0) → (R → Option (List ℕ)) →
    (C → Option (List ℕ)) → F → List ℕ → List ℕ → List ℕ → C → C → Option (List ℕ) → Option (List ℕ) →
    Result Unit CommandFault → F → Type 0
DebugFilesEnd opened remaining unread old image config journal input_first input before after result new =
    FilesEnd opened remaining
    (λ file statements events. DebugEnds unread file statements events input_first input result before after)
    ((before ≡ after) × (input ≡ input_first)) old image config journal result new
