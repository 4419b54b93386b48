-- What a function of this crate answers, unless memory ran out.
use Rattle.std.specs.Prelude.{Bool, true, false, Result}
use Rattle.brd_text.specs.Faults as text
use Rattle.brd_config.specs.declared.fault.ConfigFault.{ConfigFault}
use Rattle.brd_config.specs.declared.fault.ConfigFault.TheVariants.{NoMemory, Syntax, Duplicate, BadId, BadAttribute}
use Rattle.brd_config.specs.declared.fault.ConfigFault.TheVariants.{BadPriority, BadCount, BadProcessor}

abbrev pub is_no_memory : ConfigFault → Bool
is_no_memory NoMemory = true
is_no_memory (Syntax line) = false
is_no_memory (Duplicate line) = false
is_no_memory (BadId line) = false
is_no_memory (BadAttribute line) = false
is_no_memory (BadPriority line) = false
is_no_memory (BadCount line) = false
is_no_memory (BadProcessor line) = false

-- what a function returned, seen by view, is `read`, unless memory ran out
abbrev pub Gives : {X Y : Type 0} → (X → Y) → Result X ConfigFault → Result Y ConfigFault → Type 0
Gives view answer read = text.Gives is_no_memory view answer read
