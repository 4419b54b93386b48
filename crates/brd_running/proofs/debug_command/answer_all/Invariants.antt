-- What was written answers to the commands before those that are left.
use Rattle.std.proofs.Common.{◌≡◌, ◌+◌, ◌-◌, ◌≤◌, List, ℕ, length}
use Rattle.std.specs.Prelude.{Some}
use Rattle.std.specs.Io.KnownBytes.{Appends}
use Rattle.brd_running.specs.Answers.{HasDone}
use Rattle.brd_running.specs.DebugLine.{commands_of}
use Rattle.brd_running.specs.Lines.{IsLeftOf, KnowsEnd}
use Rattle.brd_running.proofs.debug_command.answer_all.Given as goal

abbrev pub invariant-loop-line : goal.invariant-loop-line
invariant-loop-line g l = record {
  few : l.taken.bytes ≤ 134217728;
  ended : KnowsEnd l.taken (g.R.Read.remaining l.input);
  left : (text : List ℕ) → g.R.Read.remaining l.fn.input ≡ Some text →
      (rest : List ℕ) × (bytes : List ℕ) × (g.R.Read.remaining l.input ≡ Some rest) × (l.taken.bytes + length rest ≡ length text) × IsLeftOf text rest
      × HasDone l.fn.debugger (commands_of text) bytes l.debugger (commands_of rest)
      × Appends (g.W.Write.contents l.fn.writer) (g.W.Write.contents l.writer) bytes;
}

abbrev pub decreases-loop-line : goal.decreases-loop-line
decreases-loop-line g l = 134217728 - l.taken.bytes
