use Rattle.std.proofs.Common.{◌≡◌, ◌+◌, drop}
use Rattle.std.specs.List.{prefix_len}
use Rattle.brd_text.specs.Lines.{stays_on}
use Rattle.brd_text.proofs.line.line_len.Given as goal

abbrev pub invariant-loop-i : goal.invariant-loop-i
invariant-loop-i l = l.i + prefix_len stays_on (drop l.i l.text) ≡ prefix_len stays_on l.text
