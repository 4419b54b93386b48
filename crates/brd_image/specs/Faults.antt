-- The faults of building: those of each step, in its own text.
use Rattle.std.specs.Prelude.{Bool, true, false, if◌then◌else◌, Result}
use Rattle.brd_text.specs.Faults as text
use Rattle.brd_asm.specs.declared.fault.AsmFault.{AsmFault}
use Rattle.brd_asm.specs.Faults as asm
use Rattle.brd_elf.specs.declared.fault.ElfFault.{ElfFault}
use Rattle.brd_elf.specs.Faults as elf
use Rattle.brd_config.specs.declared.fault.ConfigFault.{ConfigFault}
use Rattle.brd_config.specs.Faults as config
use Rattle.brd_board.specs.declared.boot.BootFault.{BootFault}
use Rattle.brd_board.specs.Setup as boot
use Rattle.brd_image.specs.declared.fault.BuildFault.{BuildFault}
use Rattle.brd_image.specs.declared.fault.BuildFault.TheVariants.{NoMemory, Asm, Elf, Config, Boot}

abbrev pub is_no_memory : BuildFault → Bool
is_no_memory NoMemory = true
is_no_memory (Asm fault) = false
is_no_memory (Elf fault) = false
is_no_memory (Config fault) = false
is_no_memory (Boot fault) = false

-- a fault of the object file
abbrev pub is_of_elf : BuildFault → Bool
is_of_elf NoMemory = false
is_of_elf (Asm fault) = false
is_of_elf (Elf fault) = true
is_of_elf (Config fault) = false
is_of_elf (Boot fault) = false

-- a fault of a step that says that memory ran out
abbrev pub holds_no_memory : BuildFault → Bool
holds_no_memory NoMemory = false
holds_no_memory (Asm fault) = asm.is_no_memory fault
holds_no_memory (Elf fault) = elf.is_no_memory fault
holds_no_memory (Config fault) = config.is_no_memory fault
holds_no_memory (Boot fault) = boot.is_no_memory fault

-- the fault of a step as one of building: that memory ran out stands alone
abbrev pub of_asm : AsmFault → BuildFault
of_asm fault = if asm.is_no_memory fault then NoMemory else Asm fault

abbrev pub of_elf : ElfFault → BuildFault
of_elf fault = if elf.is_no_memory fault then NoMemory else Elf fault

abbrev pub of_config : ConfigFault → BuildFault
of_config fault = if config.is_no_memory fault then NoMemory else Config fault

abbrev pub of_boot : BootFault → BuildFault
of_boot fault = if boot.is_no_memory fault then NoMemory else Boot fault

-- what a function answered is what is meant, unless memory ran out
abbrev pub Gives : {X : Type 0} → Result X BuildFault → Result X BuildFault → Type 0
Gives answer meant = text.Gives is_no_memory (λ x. x) answer meant
