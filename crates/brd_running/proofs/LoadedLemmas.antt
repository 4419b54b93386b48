-- The links of a board that was loaded.
use Rattle.std.proofs.Common.{◌≡◌, ℕ, List, refl, subst}
use Rattle.std.specs.Prelude.{Result, Ok, Err}
use Rattle.brd_text.specs.Faults.{◌>>=◌}
use Rattle.brd_link.specs.LinkSet.{IsLinkSet}
use Rattle.brd_mem.specs.declared.image.Image.{Image}
use Rattle.brd_config.specs.Configuration.{Configuration}
use Rattle.brd_config.specs.declared.fault.ConfigFault.{ConfigFault}
use Rattle.brd_config.specs.Meaning.{config_of}
use Rattle.brd_elf.specs.declared.fault.ElfFault.{ElfFault}
use Rattle.brd_elf.specs.Meaning.{meaning}
use Rattle.brd_board.specs.Board.{BoardState}
use Rattle.brd_board.specs.Boot.{boot}
use Rattle.brd_board.specs.declared.boot.BootFault.{BootFault}
use Rattle.brd_board.proofs.EventLemmas.{boot-begins}
use Rattle.brd_image.specs.Building.{booted, step}
use Rattle.brd_image.specs.declared.building.Loaded.{Loaded}
use Rattle.brd_image.specs.declared.fault.BuildFault.{BuildFault}
use Rattle.brd_image.specs.declared.fault.BuildFault.TheVariants.{Elf, Config, Boot}
use Rattle.brd_inputs.specs.Start.{IsLoaded}

-- the links of a board are a set, if there is one
abbrev HasSet : Result BoardState BuildFault → Type 0
HasSet (Ok b) = IsLinkSet b.links
HasSet (Err fault) = Unit {0}

boot-set : (image : Image) (config : Configuration) (r : Result BoardState BootFault) → boot image config ≡ r → HasSet (step Boot r)
boot-set image config (Ok b) is = boot-begins (λ (x : BoardState). IsLinkSet x.links) image config b (λ s l p m setups. tt) is
boot-set image config (Err fault) is = tt

booted-set : (image : Image) (c : Result Configuration ConfigFault) →
    HasSet (step Config c >>= (λ configuration. step Boot (boot image configuration)))
booted-set image (Ok configuration) = boot-set image configuration (boot image configuration) refl
booted-set image (Err fault) = tt

loaded-set : (m : Result Image ElfFault) (config : List ℕ) → HasSet (step Elf m >>= (λ image. booted image config))
loaded-set (Ok image) config = booted-set image (config_of config)
loaded-set (Err fault) config = tt

pub links-set : (image config : List ℕ) (it : Loaded) → IsLoaded image config it → IsLinkSet it.board.links
links-set image config it is = subst HasSet is.loads (loaded-set (meaning image) config)
