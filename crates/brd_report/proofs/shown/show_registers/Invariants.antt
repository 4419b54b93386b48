-- The lines so far, and those of the registers that are left, are those of all.
use Rattle.std.proofs.Common.{◌≡◌, ◌++◌, drop}
use Rattle.brd_report.specs.Shown.{registers_shown}
use Rattle.brd_report.proofs.shown.show_registers.Given as goal

abbrev pub invariant-loop-number : goal.invariant-loop-number
invariant-loop-number l =
    l.out.items ++ registers_shown l.number-counter (drop l.number-counter l.registers) ≡ l.fn.out.items ++ registers_shown 0 l.registers
