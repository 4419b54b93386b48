-- The command `gdb`: what it writes for what it reads, and how it ends where it doesn't.
use Rattle.std.specs.Prelude.{◌≡◌, ◌≢◌, ◌⊎◌, ℕ, Bool, true, List, ◌∷◌, ◌++◌, Option, Some, IfSome, Result}
use Rattle.std.specs.Prelude.{Ok, Err}
use Rattle.std.specs.IoError.{error_kind}
use Rattle.std.specs.declared.io.Error.{Error}
use Rattle.std.specs.declared.io.ErrorKind.TheVariants.{OutOfMemory, UnexpectedEof}
use Rattle.brd_running.specs.Debugging.{GivesNoDebugger}
use Rattle.brd_running.specs.Files.{FilesEnd}
use Rattle.brd_command.specs.Serving.{HasServed, IsReady, Serves}
use Rattle.brd_command.specs.declared.gdb_server.Server.{Server}
use Rattle.brd_inputs.specs.Start.{AreWithin, IsStart}
use Rattle.brd_inputs.specs.declared.fault.CommandFault.{CommandFault}
use Rattle.brd_inputs.specs.declared.fault.CommandFault.TheVariants.{NoMemory, Read, TooManyReads, Write}
use Rattle.brd_inputs.specs.declared.input_name.InputName.TheVariants.{StandardInput}
use Rattle.brd_inputs.specs.declared.start.Start.{Start}
use Rattle.brd_report.specs.Output.{Writes}

-- that an input has ended before GDB went
abbrev pub IsCutOff : CommandFault → Type 0
IsCutOff (Read from error) = (from ≡ StandardInput) × (error_kind error ≡ UnexpectedEof)
IsCutOff fault = ⊥

-- What may keep the next byte from being read: memory, a read that failed, or reads that were interrupted too often.
abbrev pub KeepsByte : CommandFault → Type 0
KeepsByte NoMemory = Unit {0}
KeepsByte (Read from error) = (from ≡ StandardInput) × (error_kind error ≢ OutOfMemory)
KeepsByte (TooManyReads from) = from ≡ StandardInput
KeepsByte fault = ⊥

-- the answers to the first bytes of a text
pub record ServesFirst (first : Server) (text bytes : List ℕ) : Type 0 where
  pub last : Server
  pub left : List ℕ
  pub done : HasServed first text bytes last left

-- The answers to the bytes of a text up to the one with which GDB goes. Of the input that had the text so much is left.
pub record ServesToEnd (first : Server) (text : List ℕ) (unread : Option (List ℕ)) (bytes : List ℕ) : Type 0 where
  pub before : List ℕ
  pub answer : List ℕ
  pub s : Server
  pub after : Server
  pub byte : ℕ
  pub left : List ℕ
  pub done : HasServed first text before s (byte ∷ left)
  pub last : Serves s byte answer true after
  pub whole : bytes ≡ before ++ answer
  pub is_unread : unread ≡ Some left

-- the answers to the first bytes of a text, and a front of the answer to the next
pub record ServesCutShort (first : Server) (text bytes : List ℕ) : Type 0 where
  pub before : List ℕ
  pub s : Server
  pub after : Server
  pub byte : ℕ
  pub left : List ℕ
  pub done : HasServed first text before s (byte ∷ left)
  pub answer : List ℕ
  pub is_over : Bool
  pub next : Serves s byte answer is_over after
  pub front : List ℕ
  pub rest : List ℕ
  pub whole : front ++ rest ≡ answer
  pub cut : bytes ≡ before ++ front

-- Why a server ends before GDB goes; that much was sent is no reason. The answers to the bytes before were written;
-- where writing failed, a front of the answer to the next one too. An input that ends is one that can't be read.
abbrev pub StopsServing : CommandFault → Server → List ℕ → Option (List ℕ) → Option (List ℕ) → Type 0
StopsServing NoMemory first text old new = Writes (ServesFirst first text) old new
StopsServing (Read from error) first text old new =
    (from ≡ StandardInput) × (error_kind error ≢ OutOfMemory) × Writes (ServesFirst first text) old new
StopsServing (TooManyReads from) first text old new =
    (from ≡ StandardInput) × Writes (ServesFirst first text) old new
StopsServing (Write error) first text old new = Writes (ServesCutShort first text) old new
StopsServing _ first text old new = ⊥

-- how a server ends that receives a text: GDB has gone, or it was stopped
abbrev pub EndsServing : Result Unit CommandFault → Server → List ℕ → Option (List ℕ) → Option (List ℕ) →
    Option (List ℕ) → Type 0
EndsServing (Ok done) first text unread old new = Writes (ServesToEnd first text unread) old new
EndsServing (Err fault) first text unread old new = StopsServing fault first text old new

-- Three inputs give a server, and it ends so: of standard input that was to read, and this is left.
pub record ServesGdb (image config journal : List ℕ) (unread_first unread : Option (List ℕ))
    (result : Result Unit CommandFault)
    (old new : Option (List ℕ)) : Type 0 where
  pub start : Start
  pub within : AreWithin image config journal
  pub is_start : IsStart image config journal start
  pub first : Server
  pub is_ready : IsReady start.board start.journal.events first
  pub ends : IfSome unread_first (λ text. EndsServing result first text unread old new)

-- how `gdb` ends
abbrev pub GdbEnds : {C : Type 0} → (C → Option (List ℕ)) → List ℕ → List ℕ → List ℕ → C → C →
    Result Unit CommandFault → Option (List ℕ) → Option (List ℕ) → Type 0
GdbEnds remaining image config journal input_first input result old new =
    ServesGdb image config journal (remaining input_first) (remaining input) result old new
    ⊎ GivesNoDebugger image config journal input_first input result old new

-- Standard input, which had `input_first` in it and has `input` left, is read, and answers are written, only where all
-- three files were opened; else neither was.
abbrev pub GdbFilesEnd : {F R C : Type 0} → (F → List ℕ → Result R Error → F → Type 0) → (R → Option (List ℕ)) →
    (C → Option (List ℕ)) → F → List ℕ → List ℕ → List ℕ → C → C → Option (List ℕ) → Option (List ℕ) →
    Result Unit CommandFault → F → Type 0
GdbFilesEnd opened remaining unread old image config journal input_first input before after result new =
    FilesEnd opened remaining
    (λ file statements events. GdbEnds unread file statements events input_first input result before after)
    ((before ≡ after) × (input ≡ input_first)) old image config journal result new
