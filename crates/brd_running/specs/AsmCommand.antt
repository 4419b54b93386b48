-- The command `asm`: what it writes for what it reads, and how it ends where it doesn't.
use Rattle.std.specs.Prelude.{◌≡◌, ◌≢◌, ℕ, ◌<◌, ◌≤◌, List, length, Option, Result, Ok, Err}
use Rattle.std.specs.Io.KnownBytes.{Keeps}
use Rattle.std.specs.IoError.{error_kind}
use Rattle.std.specs.declared.io.ErrorKind.TheVariants.{OutOfMemory}
use Rattle.brd_mem.specs.declared.image.Image.{Image}
use Rattle.brd_elf.specs.File.{file, Fits}
use Rattle.brd_elf.specs.Meaning.{meaning}
use Rattle.brd_asm.specs.Image.{program_of}
use Rattle.brd_asm.specs.Laws.{HasInstructions}
use Rattle.brd_asm.specs.declared.fault.AsmFault.{AsmFault}
use Rattle.brd_asm.specs.declared.fault.AsmFault.TheVariants as asm_fault
use Rattle.brd_image.specs.Building.{IsImageOf}
use Rattle.brd_inputs.specs.Excerpt.{line_excerpt}
use Rattle.brd_inputs.specs.FileKinds.{source_looks_like}
use Rattle.brd_inputs.specs.Input.{most_bytes}
use Rattle.brd_report.specs.Output.{Writes, WritesFront}
use Rattle.brd_inputs.specs.declared.fault.CommandFault.{CommandFault}
use Rattle.brd_inputs.specs.declared.input_name.InputName.TheVariants as input_name
use Rattle.brd_inputs.specs.declared.fault.CommandFault.TheVariants.{NoMemory, Source, ImageTooLarge, Read, TooLong}
use Rattle.brd_inputs.specs.declared.fault.CommandFault.TheVariants.{TooManyReads, Write}

-- The object file of a source: the file of its image, and what it means is that image again, whose memory has the bytes
-- that the source says, each at its place (`IsImage`), and so a word of each of its instructions.
pub record IsObjectFile (source bytes : List ℕ) : Type 0 where
  pub image : Image
  pub is_image : IsImageOf source image
  pub is_file : bytes ≡ file image
  pub is_read : meaning bytes ≡ Ok image
  pub instructions : HasInstructions source image

-- no object file can hold the source's image
pub record IsTooLarge (source : List ℕ) : Type 0 where
  pub image : Image
  pub is_image : IsImageOf source image
  pub misfits : ¬ Fits image

-- the line of a source that a fault is in
abbrev pub faulty_line : AsmFault → ℕ
faulty_line asm_fault.NoMemory = 1
faulty_line (asm_fault.Syntax line) = line
faulty_line (asm_fault.UnknownName line) = line
faulty_line (asm_fault.Twice line) = line
faulty_line (asm_fault.Range line) = line
faulty_line (asm_fault.Misaligned line) = line
faulty_line (asm_fault.Overlap line) = line

-- what may keep a source from having an object file: its first fault, with the front of the faulty line and the other
-- kind of which the source looks, or an image that is too large
abbrev pub KeepsFromAssembling : List ℕ → CommandFault → Type 0
KeepsFromAssembling source NoMemory = Unit {0}
KeepsFromAssembling source (Source fault excerpt kind) =
    (program_of source ≡ Err fault) × (fault ≢ asm_fault.NoMemory) × (excerpt ≡ line_excerpt source (faulty_line fault))
    × (kind ≡ source_looks_like source fault)
KeepsFromAssembling source ImageTooLarge = IsTooLarge source
KeepsFromAssembling source _ = ⊥

-- A fault of the source comes before anything is written. Where writing failed, a front of the object file was written.
-- A source that was read whole is no longer than an input may be.
abbrev pub RefusesSource : CommandFault → List ℕ → Option (List ℕ) → Option (List ℕ) → Type 0
RefusesSource NoMemory source old new = Keeps old new
RefusesSource (Source fault excerpt kind) source old new =
    (length source ≤ most_bytes) × KeepsFromAssembling source (Source fault excerpt kind) × Keeps old new
RefusesSource ImageTooLarge source old new =
    (length source ≤ most_bytes) × KeepsFromAssembling source ImageTooLarge × Keeps old new
RefusesSource (Read input error) source old new =
    (input ≡ input_name.Source) × (error_kind error ≢ OutOfMemory) × Keeps old new
RefusesSource (TooLong input) source old new =
    (input ≡ input_name.Source) × (most_bytes < length source) × Keeps old new
RefusesSource (TooManyReads input) source old new = (input ≡ input_name.Source) × Keeps old new
RefusesSource (Write error) source old new = (length source ≤ most_bytes) × WritesFront (IsObjectFile source) old new
RefusesSource _ source old new = ⊥

-- how `asm` ends: the source's object file was written, or it was refused
abbrev pub AsmEnds : Result Unit CommandFault → List ℕ → Option (List ℕ) → Option (List ℕ) → Type 0
AsmEnds (Ok done) source old new = (length source ≤ most_bytes) × Writes (IsObjectFile source) old new
AsmEnds (Err fault) source old new = RefusesSource fault source old new
