-- Faults that are passed on.
use Rattle.std.proofs.Common.{◌≡◌, Bool, true, false, Result, Err}
use Rattle.std.specs.Prelude.{⊤}
use Rattle.std.specs.Bool.{MatchBool}
use Rattle.brd_text.specs.Faults.{Fails}
use Rattle.brd_elf.specs.declared.fault.ElfFault.{ElfFault}
use Rattle.brd_elf.specs.Faults.{is_no_memory}

passed_by : {A B : Type 0} (is_memory : Bool) (f : ElfFault) (step : Result A ElfFault) (whole : Result B ElfFault) → MatchBool is_memory ⊤ (step ≡ Err f) → (step ≡ Err f → whole ≡ Err f) → MatchBool is_memory ⊤ (whole ≡ Err f)
passed_by true f step whole fails follows = fails
passed_by false f step whole fails follows = follows fails

-- a fault that one step has is the fault of all that follows from it
pub passed_on : {A B : Type 0} (f : ElfFault) (step : Result A ElfFault) (whole : Result B ElfFault) → Fails is_no_memory f step → (step ≡ Err f → whole ≡ Err f) → Fails is_no_memory f whole
passed_on f step whole fails follows = passed_by (is_no_memory f) f step whole fails follows
