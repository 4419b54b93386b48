-- A source whose image fits its file: its object file means that image again.
use Rattle.std.proofs.Common.{◌≡◌, ℕ, List, Result, Ok, Err, false, refl, sym, ap, ◌∙◌, subst}
use Rattle.std.specs.Prelude.{IfOk, IfErr}
use Rattle.brd_text.specs.Faults.{◌>>=◌}
use Rattle.brd_mem.specs.declared.image.Image.{Image}
use Rattle.brd_asm.specs.Image.{Program, program_of, IsImage}
use Rattle.brd_asm.specs.Laws.{HasInstructions}
use Rattle.brd_elf.specs.declared.fault.ElfFault.{ElfFault}
use Rattle.brd_elf.specs.File.{file, Fits}
use Rattle.brd_elf.specs.Meaning.{meaning}
use Rattle.brd_config.specs.declared.fault.ConfigFault.{ConfigFault}
use Rattle.brd_config.specs.Configuration.{Configuration}
use Rattle.brd_config.specs.Meaning.{config_of}
use Rattle.brd_board.specs.declared.boot.BootFault.{BootFault}
use Rattle.brd_board.specs.Board.{BoardState}
use Rattle.brd_board.specs.Boot.{boot}
use Rattle.brd_image.specs.declared.fault.BuildFault.{BuildFault}
use Rattle.brd_image.specs.declared.fault.BuildFault.TheVariants.{NoMemory, Asm, Elf, Config, Boot}
use Rattle.brd_image.specs.Faults.{is_of_elf, Gives}
use Rattle.brd_image.specs.Building.{step, booted, loaded, IsImageOf, IsObjectFile}
use Rattle.brd_image.specs.Headline.{Starts}

-- a program has one image
abbrev pub OneImage : Type 0
OneImage = (program : Program) (a b : Image) → IsImage program a → IsImage program b → a ≡ b

-- an object file that means this image of the source again
pub record IsReadAgain (source elf : List ℕ) (image : Image) : Type 0 where
  pub is_image : IsImageOf source image
  pub is_file : elf ≡ file image
  pub is_read : meaning elf ≡ Ok image
  pub instructions : HasInstructions source image

same_value : {A F : Type 0} (r : Result A F) (x y : A) → r ≡ Ok x → r ≡ Ok y → x ≡ y
same_value r x y e f = cc

the_image : OneImage → (source elf : List ℕ) (image : Image) → IsImageOf source image
    → (object : IsObjectFile source elf) → object.image ≡ image
the_image one source elf image is object =
    let of_object = object.is_image in
    let program : of_object.program ≡ is.program =
    same_value (program_of source) of_object.program is.program of_object.is_program is.is_program in
    let image_of : IsImage is.program object.image =
    subst (λ (p : Program). IsImage p object.image) program of_object.is_image in
    one is.program object.image image image_of is.is_image

read_again : (source elf : List ℕ) (image : Image) → IsImageOf source image → Fits image
    → (object : IsObjectFile source elf) → object.image ≡ image → IsReadAgain source elf image
read_again source elf image is fits object same = record {
  is_image = is;
  is_file = object.is_file ∙ ap file same;
  is_read = object.again (subst Fits (sym same) fits) ∙ ap (λ (i : Image). Ok i) same;
  instructions = subst (λ (i : Image). HasInstructions source i) same object.instructions;
}

pub is_read_again : OneImage → (source elf : List ℕ) (image : Image) → IsImageOf source image → Fits image
    → IsObjectFile source elf → IsReadAgain source elf image
is_read_again one source elf image is fits object =
    read_again source elf image is fits object (the_image one source elf image is object)

-- such a file comes to what its image comes to
pub of_image : (source elf config : List ℕ) (image : Image) (answer : Result BoardState BuildFault)
    → IsReadAgain source elf image → Gives answer (loaded elf config) → Gives answer (booted image config)
of_image source elf config image answer again h =
    subst (λ (r : Result Image ElfFault). Gives answer (step Elf r >>= λ i. booted i config)) again.is_read h

-- ---- no fault is one of the object file

not_boot : (r : Result BoardState BootFault) (fault : ElfFault) → step Boot r ≡ Err (Elf fault) → ⊥
not_boot (Ok board) fault h = cc
not_boot (Err e) fault h = cc

not_config : (r : Result Configuration ConfigFault) (image : Image) (fault : ElfFault)
    → (step Config r >>= λ configuration. step Boot (boot image configuration)) ≡ Err (Elf fault) → ⊥
not_config (Ok configuration) image fault h = not_boot (boot image configuration) fault h
not_config (Err e) image fault h = cc

not_of_elf : (config : List ℕ) (image : Image) (fault : BuildFault)
    → Gives {X = BoardState} (Err fault) (booted image config) → is_of_elf fault ≡ false
not_of_elf config image NoMemory h = refl
not_of_elf config image (Asm fault) h = refl
not_of_elf config image (Elf fault) h = absurd (not_config (config_of config) image fault h)
not_of_elf config image (Config fault) h = refl
not_of_elf config image (Boot fault) h = refl

pub no_elf : (config : List ℕ) (image : Image) (answer : Result BoardState BuildFault)
    → Gives answer (booted image config) → IfErr answer (λ fault. is_of_elf fault ≡ false)
no_elf config image (Ok board) h = tt
no_elf config image (Err fault) h = not_of_elf config image fault h

-- ---- how the board starts

boot_ok : (r : Result BoardState BootFault) (board : BoardState) → step Boot r ≡ Ok board → r ≡ Ok board
boot_ok (Ok b) board h = cc
boot_ok (Err e) board h = cc

-- a board that was booted has a configuration
booted_ok : (r : Result Configuration ConfigFault) (image : Image) (board : BoardState)
    → (step Config r >>= λ configuration. step Boot (boot image configuration)) ≡ Ok board
    → (configuration : Configuration) × (r ≡ Ok configuration) × (boot image configuration ≡ Ok board)
booted_ok (Ok configuration) image board h = (configuration, refl, boot_ok (boot image configuration) board h)
booted_ok (Err e) image board h = let wrong : ⊥ = cc in absurd wrong

start_of : (source elf config : List ℕ) (image : Image) (board : BoardState) → IsReadAgain source elf image
    → booted image config ≡ Ok board → Starts source (file image) config board
start_of source elf config image board again h =
    let read : meaning (file image) ≡ Ok image = ap meaning (sym again.is_file) ∙ again.is_read in
    let found = booted_ok (config_of config) image board h in
    record {
      words = record {
        image = image;
        is_image = again.is_image;
        is_file = refl;
        is_read = read;
        instructions = again.instructions;
      };
      memory = record {
        image = image;
        is_read = read;
        configuration = found.0;
        is_configuration = found.1;
        boots = found.2;
      };
    }

pub starts : (source elf config : List ℕ) (image : Image) (answer : Result BoardState BuildFault)
    → IsReadAgain source elf image → Gives answer (booted image config)
    → IfOk answer (Starts source (file image) config)
starts source elf config image (Ok board) again h = start_of source elf config image board again h
starts source elf config image (Err fault) again h = tt
