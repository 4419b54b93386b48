use Rattle.brd_running.proofs.ShrinkLemmas.{ended}
use Rattle.brd_running.proofs.shrink_command.shrink.Goals as goal

pub returns : goal.returns
returns g c =
    ended c.args.options c.in-Ok.start (g.R.Read.remaining c.args.inputs.now.image) (g.R.Read.remaining c.args.inputs.now.config)
    (g.R.Read.remaining c.args.inputs.now.last) c.told_of.result c.in-Ok.ensures.starts c.told_of.ensures
