-- What was passed has no blank.
use Rattle.std.proofs.Common.{◌≡◌, ◌+◌, drop}
use Rattle.std.specs.List.{prefix_len}
use Rattle.brd_running.specs.WordText.{in_run}
use Rattle.brd_running.proofs.word_text.run_len.Given as goal

abbrev pub invariant-loop-i : goal.invariant-loop-i
invariant-loop-i l = l.i + prefix_len in_run (drop l.i l.text) ≡ prefix_len in_run l.text
