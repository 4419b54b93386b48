use Rattle.std.proofs.Common.{◌≡◌, ◌+◌, drop}
use Rattle.std.specs.List.{prefix_len}
use Rattle.brd_journal.specs.Reading.{in_field}
use Rattle.brd_journal.proofs.line.field_len.Given as goal

abbrev pub invariant-loop-i : goal.invariant-loop-i
invariant-loop-i l = l.i + prefix_len in_field (drop l.i l.fields) ≡ prefix_len in_field l.fields
