use Rattle.brd_frames.proofs.StoreLemmas.{stores-keep}
use Rattle.brd_frames.proofs.laws.events_store_where_they_say.Goals as goal

pub returns : goal.returns
returns c = stores-keep
