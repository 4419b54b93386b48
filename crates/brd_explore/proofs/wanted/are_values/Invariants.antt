-- The words that are left tell.
use Rattle.std.proofs.Common.{◌≡◌, length}
use Rattle.brd_explore.specs.Failures.{are_values}
use Rattle.brd_explore.proofs.wanted.are_values.Given as goal

abbrev pub invariant-words : goal.invariant-words
invariant-words l = are_values l.board l.fn.words l.fn.values ≡ are_values l.board l.rest l.left

abbrev pub decreases-words : goal.decreases-words
decreases-words l = length l.rest
