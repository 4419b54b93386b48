use Rattle.brd_command.proofs.ServerLemmas.{serves_gdb}
use Rattle.brd_command.proofs.gdb_command.gdb.Goals as goal

pub returns : goal.returns
returns g c =
    serves_gdb c.in-Ok.start c.in_ok-server.server _ _ _ _ _ _ c.in_ok-server.ensures
    (g.R.Read.remaining c.args.inputs.now.image) (g.R.Read.remaining c.args.inputs.now.config) (g.R.Read.remaining c.args.inputs.now.last)
    c.in-Ok.ensures.starts c.serve_all.ensures
