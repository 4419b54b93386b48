-- What is left of the addresses tells.
use Rattle.std.proofs.Common.{◌≡◌, length}
use Rattle.brd_search.specs.Plans.{is_doubled}
use Rattle.brd_search.proofs.values.is_doubled.Given as goal

abbrev pub invariant-words : goal.invariant-words
invariant-words l = is_doubled l.fn.words ≡ is_doubled l.rest

abbrev pub decreases-words : goal.decreases-words
decreases-words l = length l.rest
