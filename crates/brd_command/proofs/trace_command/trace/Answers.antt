use Rattle.brd_command.proofs.TraceLemmas.{traced}
use Rattle.brd_command.proofs.trace_command.trace.Goals as goal

pub returns : goal.returns
returns g c =
    traced c.in-Ok.start _ c.args.options _ _
    (g.R.Read.remaining c.args.inputs.now.image) (g.R.Read.remaining c.args.inputs.now.config) (g.R.Read.remaining c.args.inputs.now.last)
    c.in-Ok.ensures.starts c.write_trace.ensures
