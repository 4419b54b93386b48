use Rattle.std.proofs.Common.{arith, inl, inr, refl}
use Rattle.brd_command.proofs.trace_pages.first_of_last.Goals as goal

pub returns-then-events-most-clause-enough : goal.returns-then-events-most-clause-enough
returns-then-events-most-clause-enough c = inl refl

pub returns-clause-enough : goal.returns-clause-enough
returns-clause-enough c = inr (omega (arith, c.requires, c.if-events-most.false))
