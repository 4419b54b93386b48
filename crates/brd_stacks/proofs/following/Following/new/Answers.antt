use Rattle.brd_stacks.proofs.FollowingLemmas.{calm-first}
use Rattle.brd_stacks.proofs.following.Following.new.Goals as goal

pub returns-clause-calm : goal.returns-clause-calm
returns-clause-calm c = calm-first c.in_ok-tracks_of.field-0.items c.in_ok-tracks_of.ensures.each
