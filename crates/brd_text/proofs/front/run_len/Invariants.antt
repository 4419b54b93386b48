use Rattle.std.proofs.Common.{◌≡◌, ◌+◌, drop}
use Rattle.std.specs.List.{prefix_len}
use Rattle.brd_text.specs.Bytes.{is_run_byte}
use Rattle.brd_text.proofs.front.run_len.Given as goal

abbrev pub invariant-loop-i : goal.invariant-loop-i
invariant-loop-i l = l.i + prefix_len is_run_byte (drop l.i l.rest) ≡ prefix_len is_run_byte l.rest
