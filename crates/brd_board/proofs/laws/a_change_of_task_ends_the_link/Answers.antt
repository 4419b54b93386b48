use Rattle.brd_board.proofs.ChangeLemmas.{change-ends-links}
use Rattle.brd_board.proofs.laws.a_change_of_task_ends_the_link.Goals as goal

pub returns : goal.returns
returns c = change-ends-links
