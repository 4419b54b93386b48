-- What a function of this crate answers, unless memory ran out.
use Rattle.std.specs.Prelude.{Bool, true, false, Result}
use Rattle.brd_text.specs.Faults as text
use Rattle.brd_elf.specs.declared.fault.ElfFault.{ElfFault}
use Rattle.brd_elf.specs.declared.fault.ElfFault.TheVariants.{NoMemory, NotElf, Unsupported, Truncated, Sizes, Overlap}
use Rattle.brd_elf.specs.declared.fault.ElfFault.TheVariants.{Outside, Symbols}

abbrev pub is_no_memory : ElfFault → Bool
is_no_memory NoMemory = true
is_no_memory NotElf = false
is_no_memory (Unsupported at) = false
is_no_memory (Truncated at) = false
is_no_memory (Sizes at) = false
is_no_memory (Overlap at) = false
is_no_memory (Outside at) = false
is_no_memory (Symbols at) = false

-- what a function returned, seen by view, is `read`, unless memory ran out
abbrev pub Gives : {X Y : Type 0} → (X → Y) → Result X ElfFault → Result Y ElfFault → Type 0
Gives view answer read = text.Gives is_no_memory view answer read
