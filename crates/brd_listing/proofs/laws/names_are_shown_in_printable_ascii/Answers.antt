use Rattle.brd_listing.proofs.NameLemmas.{name, place}
use Rattle.brd_listing.proofs.laws.names_are_shown_in_printable_ascii.Goals as goal

pub returns-clause-name : goal.returns-clause-name
returns-clause-name c = name

pub returns-clause-place : goal.returns-clause-place
returns-clause-place c = place
