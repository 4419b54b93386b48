use Rattle.brd_running.proofs.AnswerLemmas.{debugs}
use Rattle.brd_running.proofs.debug_command.debug.Goals as goal

pub returns : goal.returns
returns g c =
    debugs c.in-Ok.start c.in_ok-debugger.debugger _ _ _ _ _ _ c.in_ok-debugger.ensures
    (g.R.Read.remaining c.args.inputs.now.image) (g.R.Read.remaining c.args.inputs.now.config) (g.R.Read.remaining c.args.inputs.now.last)
    c.in-Ok.ensures.starts c.answer_all.ensures
