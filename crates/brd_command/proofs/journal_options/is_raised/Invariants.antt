-- What was passed is raised at other events.
use Rattle.std.proofs.Common.{◌≡◌, drop, eqb}
use Rattle.std.specs.List.{list_any}
use Rattle.brd_command.proofs.journal_options.is_raised.Given as goal

abbrev pub invariant-loop-raise : goal.invariant-loop-raise
invariant-loop-raise l =
    list_any (λ raise. eqb raise.at l.at) (drop l.raise-index l.raises) ≡ list_any (λ raise. eqb raise.at l.at) l.raises
