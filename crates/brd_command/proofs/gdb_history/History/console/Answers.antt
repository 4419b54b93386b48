use Rattle.std.proofs.lemmas.Result.{IfOk-weaker}
use Rattle.brd_command.proofs.ServerLemmas.{shown-so}
use Rattle.brd_command.proofs.gdb_history.History.console.Goals as goal

pub returns-in_default : goal.returns-in_default
returns-in_default g c =
    IfOk-weaker c.joined.result _ _ (λ text same. shown-so c.args.request c.args.said.now text.items same)
    c.joined.ensures
