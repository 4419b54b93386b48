-- The words that service calls answer (uITRON 4.0 specification, "Main Error Codes"): 0 for E_OK, negative numbers
-- where a call is refused or a wait ends without what was waited for. Calls that tell a count answer it in the place of
-- E_OK.
use Rattle.std.specs.Prelude.{ℕ, ◌-◌, ◌^◌}
use Rattle.brd_kernel.specs.declared.call.Ercd.{Ercd}
use Rattle.brd_kernel.specs.declared.call.Ercd.TheVariants.{Rsfn, Par, Id, Ctx, Iluse, Obj, Noexs, Qovr, Rlwai, Tmout}

abbrev pub e_ok : ℕ
e_ok = 0

abbrev pub minus : ℕ → ℕ
minus n = 2 ^ 32 - n

abbrev pub code_of : Ercd → ℕ
code_of Rsfn = minus 10
code_of Par = minus 17
code_of Id = minus 18
code_of Ctx = minus 25
code_of Iluse = minus 28
code_of Obj = minus 41
code_of Noexs = minus 42
code_of Qovr = minus 43
code_of Rlwai = minus 49
code_of Tmout = minus 50
