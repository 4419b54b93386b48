-- What is left has the same behind its blanks.
use Rattle.std.specs.Prelude.{◌≡◌, length}
use Rattle.brd_search.specs.Plans.{behind_blanks}
use Rattle.brd_search.proofs.conditions.behind_blanks.Given as goal

abbrev pub invariant-blanks : goal.invariant-blanks
invariant-blanks l = behind_blanks l.text ≡ behind_blanks l.rest

abbrev pub decreases-blanks : goal.decreases-blanks
decreases-blanks l = length l.rest
