use Rattle.std.proofs.Common.{rules, refl, ap, sym, subst, map, List, ℕ, Ok, Err}
use Rattle.brd_cli.specs.Program.ProgramEnds.{not_asked, no_input, asked}
use Rattle.brd_cli.proofs.program.carry_out.Goals as goal

pub returns-in-Err : goal.returns-in-Err
returns-in-Err g c = not_asked c.in-Err.ensures refl refl refl refl

pub returns-in-Ok-perform_with_data : goal.returns-in-Ok-perform_with_data
returns-in-Ok-perform_with_data g c =
    asked c.in-Ok.asked (Ok tt) c.in-Ok.ensures (search rules)
    (rw c.deref-2.ensures.value at c.in-Ok-perform_with_data.ensures) (ap Ok c.page_of.ensures)

pub returns : goal.returns
returns g c =
    asked c.in-Ok.asked (Err c.in-Err-perform_with_data.fault) c.in-Ok.ensures (search rules)
    (rw c.deref-2.ensures.value at c.in-Err-perform_with_data.ensures) (ap Err c.of_fault.ensures)

pub returns-in-Some : goal.returns-in-Some
returns-in-Some g c = no_input c.in-Ok.asked c.in-Ok.ensures (search rules) refl refl refl refl
