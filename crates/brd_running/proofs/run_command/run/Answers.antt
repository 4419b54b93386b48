use Rattle.brd_running.proofs.RunLemmas.{reported, not_reported}
use Rattle.brd_running.proofs.run_command.run.Goals as goal

pub returns-in-Ok-write_whole : goal.returns-in-Ok-write_whole
returns-in-Ok-write_whole g c =
    reported c.in-Ok.start _ _ c.deref.ensures.value c.in_ok-output.ensures
    (g.R.Read.remaining c.args.inputs.now.image) (g.R.Read.remaining c.args.inputs.now.config) (g.R.Read.remaining c.args.inputs.now.last) _ _ c.in-Ok.ensures.starts c.in-Ok-write_whole.ensures.whole

pub returns : goal.returns
returns g c =
    not_reported c.in-Ok.start _ _ c.deref.ensures.value c.in_ok-output.ensures
    (g.R.Read.remaining c.args.inputs.now.image) (g.R.Read.remaining c.args.inputs.now.config) (g.R.Read.remaining c.args.inputs.now.last) _ _ c.in-Err-write_whole.error c.in-Ok.ensures.starts
    c.in-Err-write_whole.ensures.front
