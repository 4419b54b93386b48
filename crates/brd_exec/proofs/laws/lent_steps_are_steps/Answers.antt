use Rattle.brd_exec.proofs.LentLemmas.{lent-steps}
use Rattle.brd_exec.proofs.laws.lent_steps_are_steps.Goals as goal

pub returns : goal.returns
returns c = λ cpu count. lent-steps count cpu
