use Rattle.brd_board.proofs.ProfileLemmas.{profile-stays, more-refused}
use Rattle.brd_board.proofs.laws.the_profile_alone_has_more_calls.Goals as goal

pub returns-clause-stays : goal.returns-clause-stays
returns-clause-stays c = profile-stays

pub returns-clause-refused : goal.returns-clause-refused
returns-clause-refused c = more-refused
