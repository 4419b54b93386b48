-- The line that is sought is n lines further in what is left.
use Rattle.std.proofs.Common.{◌≡◌, ◌+◌, ◌-◌}
use Rattle.brd_text.specs.Lines.{line_at}
use Rattle.brd_text.proofs.line.line_at.Given as goal

abbrev pub invariant-loop : goal.invariant-loop
invariant-loop l = line_at l.rest (l.number - l.counter + 1) ≡ line_at l.text l.number
