use Rattle.brd_listing.proofs.PlaceLemmas.{below, greatest, none}
use Rattle.brd_listing.proofs.laws.nearest_has_the_greatest_value.Goals as goal

pub returns-clause-below : goal.returns-clause-below
returns-clause-below c = below

pub returns-clause-greatest : goal.returns-clause-greatest
returns-clause-greatest c = greatest

pub returns-clause-none : goal.returns-clause-none
returns-clause-none c = none
