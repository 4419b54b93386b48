-- What was passed is 0.
use Rattle.std.proofs.Common.{◌≡◌, drop, eqb}
use Rattle.std.specs.List.{list_all}
use Rattle.brd_command.proofs.journal_options.are_zero.Given as goal

abbrev pub invariant-loop-weight : goal.invariant-loop-weight
invariant-loop-weight l =
    list_all (λ weight. eqb weight 0) (drop l.weight-index l.weights) ≡ list_all (λ weight. eqb weight 0) l.weights
