-- What a source comes to, by its object file.
use Rattle.std.proofs.Common.{◌≡◌, ℕ, List, Result, Ok, Err, refl, sym, ap, ◌∙◌}
use Rattle.brd_board.specs.Board.{BoardState}
use Rattle.brd_image.specs.declared.fault.BuildFault.{BuildFault}
use Rattle.brd_image.specs.declared.fault.BuildFault.TheVariants.{NoMemory, Asm, Elf, Config, Boot}
use Rattle.brd_image.specs.Faults.{Gives}
use Rattle.brd_image.specs.Building.{loaded, IsObjectFile, Builds, IsBuilt, KeepsFromAssembling}

-- a source without an object file
pub refused : (source config : List ℕ) (fault : BuildFault) → KeepsFromAssembling source fault
    → Builds source config (Err fault)
refused source config NoMemory h = tt
refused source config (Asm fault) h = record { assembled = Err fault; is_assembled = h; is_built = refl }
refused source config (Elf fault) h = absurd h
refused source config (Config fault) h = absurd h
refused source config (Boot fault) h = absurd h

same_file : (source elf config : List ℕ) (answer : Result BoardState BuildFault) → IsObjectFile source elf
    → loaded elf config ≡ answer → IsBuilt source config answer
same_file source elf config answer object h =
    record {
      assembled = Ok object.image;
      is_assembled = object.is_image;
      is_built = ap (λ (bytes : List ℕ). loaded bytes config) (sym object.is_file) ∙ h;
    }

-- a source with one
pub builds : (source elf config : List ℕ) (answer : Result BoardState BuildFault) → IsObjectFile source elf
    → Gives answer (loaded elf config) → Builds source config answer
builds source elf config (Ok board) object h = same_file source elf config (Ok board) object h
builds source elf config (Err NoMemory) object h = tt
builds source elf config (Err (Asm fault)) object h = same_file source elf config (Err (Asm fault)) object h
builds source elf config (Err (Elf fault)) object h = same_file source elf config (Err (Elf fault)) object h
builds source elf config (Err (Config fault)) object h = same_file source elf config (Err (Config fault)) object h
builds source elf config (Err (Boot fault)) object h = same_file source elf config (Err (Boot fault)) object h
