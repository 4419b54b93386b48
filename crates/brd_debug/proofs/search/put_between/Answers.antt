use Rattle.brd_debug.proofs.KeptLemmas.{size-played, order-played}
use Rattle.brd_debug.proofs.search.put_between.Goals as goal

pub put_back-requires-clause-sizes : goal.put_back-requires-clause-sizes
put_back-requires-clause-sizes c = size-played c.args.boot.now c.args.journal.now.events c.args.playback.now c.requires.played

pub put_back-requires-clause-orders : goal.put_back-requires-clause-orders
put_back-requires-clause-orders c = order-played c.args.boot.now c.args.journal.now.events c.args.playback.now c.requires.played
