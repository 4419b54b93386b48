-- What a function of this crate answers, unless the program ran out of memory.
use Rattle.std.specs.Prelude.{◌≡◌, Bool, true, false, ⊤, Result, Ok, Err}
use Rattle.std.specs.Bool.{MatchBool}
use Rattle.brd_text.specs.Faults as text
use Rattle.brd_asm.specs.declared.fault.AsmFault.{AsmFault}
use Rattle.brd_asm.specs.declared.fault.AsmFault.TheVariants.{NoMemory, Syntax, UnknownName, Twice, Range, Misaligned}
use Rattle.brd_asm.specs.declared.fault.AsmFault.TheVariants.{Overlap}

abbrev pub is_no_memory : AsmFault → Bool
is_no_memory NoMemory = true
is_no_memory (Syntax line) = false
is_no_memory (UnknownName line) = false
is_no_memory (Twice line) = false
is_no_memory (Range line) = false
is_no_memory (Misaligned line) = false
is_no_memory (Overlap line) = false

-- what a function returned, seen by view, is `meant`, unless the program ran out of memory
abbrev pub Gives : {X Y : Type 0} → (X → Y) → Result X AsmFault → Result Y AsmFault → Type 0
Gives view answer meant = text.Gives is_no_memory view answer meant

-- The same where a relation says which answers serve what is meant: `related x y` where both have a value.
abbrev pub Meets : {X Y : Type 0} → (X → Y → Type 0) → Result X AsmFault → Result Y AsmFault → Type 0
Meets related (Ok x) (Ok y) = related x y
Meets related (Ok x) (Err e) = ⊥
Meets related (Err e) meant = MatchBool (is_no_memory e) ⊤ (meant ≡ Err e)
