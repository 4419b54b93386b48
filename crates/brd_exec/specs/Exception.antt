-- Exceptions: their codes in the ExcCode field of the Cause register (MD00090), and what memory raises.
use Rattle.std.specs.Prelude.{ℕ}
use Rattle.brd_mem.specs.declared.fault.Exc.{Exc}
use Rattle.brd_exec.specs.declared.outcome.ExceptionCode.{ExceptionCode}

abbrev pub number_of : ExceptionCode → ℕ
number_of ExceptionCode.AdEL = 4
number_of ExceptionCode.AdES = 5
number_of ExceptionCode.IBE = 6
number_of ExceptionCode.DBE = 7
number_of ExceptionCode.Bp = 9
number_of ExceptionCode.RI = 10
number_of ExceptionCode.Ov = 12
number_of ExceptionCode.Tr = 13

-- what a refused access raises
abbrev pub code_of : Exc → ExceptionCode
code_of Exc.AdEL = ExceptionCode.AdEL
code_of Exc.AdES = ExceptionCode.AdES
code_of Exc.IBE = ExceptionCode.IBE
code_of Exc.DBE = ExceptionCode.DBE
