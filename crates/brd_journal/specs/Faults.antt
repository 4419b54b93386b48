-- What a function of this crate answers, unless memory ran out.
use Rattle.std.specs.Prelude.{Bool, true, false, Result}
use Rattle.brd_text.specs.Faults as text
use Rattle.brd_journal.specs.declared.fault.JournalFault.{JournalFault}
use Rattle.brd_journal.specs.declared.fault.JournalFault.TheVariants.{NoMemory, Full, Syntax}

abbrev pub is_no_memory : JournalFault → Bool
is_no_memory NoMemory = true
is_no_memory Full = false
is_no_memory (Syntax line) = false

-- what a function returned, seen by view, is `read`, unless memory ran out
abbrev pub Gives : {X Y : Type 0} → (X → Y) → Result X JournalFault → Result Y JournalFault → Type 0
Gives view answer read = text.Gives is_no_memory view answer read
