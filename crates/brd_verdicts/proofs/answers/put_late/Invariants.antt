-- Those so far are put.
use Rattle.std.proofs.Common.{◌≡◌, ◌++◌, map, take}
use Rattle.brd_verdicts.specs.Answers.{late_answer}
use Rattle.brd_verdicts.proofs.answers.put_late.Given as goal

abbrev pub invariant-loop-release : goal.invariant-loop-release
invariant-loop-release l = record {
  put : l.answers ≡ l.fn.answers ++ map (late_answer l.begun) (take l.release-index l.released);
}
