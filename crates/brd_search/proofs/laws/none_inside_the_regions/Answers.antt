use Rattle.std.proofs.Common.{subst}
use Rattle.brd_search.specs.Searches.{NoneIn}
use Rattle.brd_search.proofs.laws.none_inside_the_regions.Goals as goal

pub returns : goal.returns
returns c = λ plan b bounds some none. subst (λ anywhere. NoneIn anywhere plan b bounds) some none
