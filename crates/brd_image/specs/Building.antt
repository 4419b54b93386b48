-- Which board a source, an object file and a configuration make, or which fault comes first.
use Rattle.std.specs.Prelude.{◌≡◌, ℕ, List, ⊤, Result, Ok, Err}
use Rattle.std.specs.Bool.{MatchBool}
use Rattle.brd_text.specs.Faults as text
use Rattle.brd_text.specs.Faults.{◌>>=◌}
use Rattle.brd_mem.specs.declared.image.Image.{Image}
use Rattle.brd_asm.specs.declared.fault.AsmFault.{AsmFault}
use Rattle.brd_asm.specs.Image.{Program, program_of, IsImage}
use Rattle.brd_asm.specs.Laws.{HasInstructions}
use Rattle.brd_elf.specs.File.{file, Fits}
use Rattle.brd_elf.specs.Meaning.{meaning}
use Rattle.brd_config.specs.Meaning.{config_of}
use Rattle.brd_config.specs.View.{view}
use Rattle.brd_board.specs.Board.{BoardState}
use Rattle.brd_board.specs.Boot.{boot}
use Rattle.brd_image.specs.declared.building.Loaded.{Loaded}
use Rattle.brd_image.specs.declared.fault.BuildFault.{BuildFault}
use Rattle.brd_image.specs.declared.fault.BuildFault.TheVariants.{NoMemory, Asm, Elf, Config, Boot}
use Rattle.brd_image.specs.Faults.{is_no_memory}

-- what a step gives, its fault as one of building
abbrev pub step : {F A : Type 0} → (F → BuildFault) → Result A F → Result A BuildFault
step fault_of (Ok x) = Ok x
step fault_of (Err fault) = Err (fault_of fault)

-- The board of an image and a configuration, or the first fault: of the configuration, of the boot.
abbrev pub booted : Image → List ℕ → Result BoardState BuildFault
booted image config = do
  configuration ← step Config (config_of config)
  step Boot (boot image configuration)

-- The board of an object file and a configuration, or the first fault: of the file, of the configuration, of the boot.
abbrev pub loaded : List ℕ → List ℕ → Result BoardState BuildFault
loaded elf config = do
  image ← step Elf (meaning elf)
  booted image config

-- the image that an object file means, and what a configuration says, stand beside a board
pub record HasParts (elf config : List ℕ) (it : Loaded) : Type 0 where
  pub is_image : meaning elf ≡ Ok it.image
  pub is_configuration : config_of config ≡ Ok (view it.config)

-- the board that was answered, with other things beside it, is the one that is meant, unless memory ran out
abbrev pub GivesBoard : Result Loaded BuildFault → Result BoardState BuildFault → Type 0
GivesBoard answer meant = text.Gives is_no_memory (λ it. it.board) answer meant

-- The board of an image whose file is written and read, and a configuration; or the fault of the source, or the first
-- fault of the others.
abbrev pub built : Result Image AsmFault → List ℕ → Result BoardState BuildFault
built assembled config = do
  image ← step Asm assembled
  loaded (file image) config

-- the image of a source; there is one at most (`brd_asm::laws::a_program_has_one_image`)
pub record IsImageOf (source : List ℕ) (image : Image) : Type 0 where
  pub program : Program
  pub is_program : program_of source ≡ Ok program
  pub is_image : IsImage program image

-- what a source is assembled to: its image, or its first fault
abbrev pub Assembles : List ℕ → Result Image AsmFault → Type 0
Assembles source (Ok image) = IsImageOf source image
Assembles source (Err fault) = program_of source ≡ Err fault

-- what a source and a configuration come to
pub record IsBuilt (source config : List ℕ) (answer : Result BoardState BuildFault) : Type 0 where
  pub assembled : Result Image AsmFault
  pub is_assembled : Assembles source assembled
  pub is_built : built assembled config ≡ answer

-- what was answered is what a source and a configuration come to, unless memory ran out
abbrev pub Builds : List ℕ → List ℕ → Result BoardState BuildFault → Type 0
Builds source config (Ok board) = IsBuilt source config (Ok board)
Builds source config (Err fault) = MatchBool (is_no_memory fault) ⊤ (IsBuilt source config (Err fault))

-- Only private contracts name the next two.

-- the object file of a source, with what the assembler and the writer say of it
pub record IsObjectFile (source elf : List ℕ) : Type 0 where
  pub image : Image
  pub is_image : IsImageOf source image
  pub is_file : elf ≡ file image
  pub again : Fits image → meaning elf ≡ Ok image
  pub instructions : HasInstructions source image

-- what may keep a source from having an object file
abbrev pub KeepsFromAssembling : List ℕ → BuildFault → Type 0
KeepsFromAssembling source NoMemory = Unit {0}
KeepsFromAssembling source (Asm fault) = program_of source ≡ Err fault
KeepsFromAssembling source _ = ⊥
