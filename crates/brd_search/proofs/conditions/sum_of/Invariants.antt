-- the terms so far
use Rattle.std.proofs.Common.{◌≡◌, length}
use Rattle.brd_search.specs.Plans.{sum_of, each_of, term_of, summands_of}
use Rattle.brd_search.proofs.PlanLemmas.{behind}
use Rattle.brd_search.proofs.conditions.sum_of.Given as goal

abbrev pub invariant-summands : goal.invariant-summands
invariant-summands l =
    sum_of l.symbols l.text ≡ behind l.terms (each_of (term_of l.symbols) (summands_of l.rest))

abbrev pub decreases-summands : goal.decreases-summands
decreases-summands l = length l.rest
