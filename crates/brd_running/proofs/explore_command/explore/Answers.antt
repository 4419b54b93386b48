use Rattle.brd_running.proofs.ExploreLemmas.{ended}
use Rattle.brd_running.proofs.explore_command.explore.Goals as goal

pub returns : goal.returns
returns g c =
    ended c.args.options c.in-Ok.loaded (g.R.Read.remaining c.args.pair.now.image) (g.R.Read.remaining c.args.pair.now.config)
    c.told_of.result c.in-Ok.ensures c.told_of.ensures
