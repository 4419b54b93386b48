-- Those so far are counted.
use Rattle.std.proofs.Common.{◌≡◌, drop}
use Rattle.brd_verdicts.specs.Accounts.{all_answered}
use Rattle.brd_verdicts.proofs.accounts.Accounts.count_answers.Given as goal

abbrev pub invariant-loop-answer : goal.invariant-loop-answer
invariant-loop-answer l = record {
  counted : all_answered l.position (drop l.answer-index l.answers) l.self
      ≡ all_answered l.position l.answers l.fn.self;
}
