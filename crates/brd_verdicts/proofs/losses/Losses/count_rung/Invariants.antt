-- Those so far are counted.
use Rattle.std.proofs.Common.{◌≡◌, drop}
use Rattle.brd_verdicts.specs.Losses.{all_rung}
use Rattle.brd_verdicts.proofs.losses.Losses.count_rung.Given as goal

abbrev pub invariant-loop-it : goal.invariant-loop-it
invariant-loop-it l = record {
  counted : all_rung l.position (drop l.it-index l.rung) l.self ≡ all_rung l.position l.rung l.fn.self;
}
