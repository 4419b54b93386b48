use Rattle.std.proofs.Common.{ℕ}
use Rattle.brd_kernel.proofs.who_runs.RunningLemmas.{runs-once}
use Rattle.brd_board.specs.Board.{BoardState}
use Rattle.brd_board.proofs.RunningLemmas.{boot-runs, happens-runs}
use Rattle.brd_board.proofs.laws.who_runs_is_ready.Goals as goal

pub returns-clause-boot : goal.returns-clause-boot
returns-clause-boot c = boot-runs

pub returns-clause-event : goal.returns-clause-event
returns-clause-event c = happens-runs

pub returns-clause-once : goal.returns-clause-once
returns-clause-once c = λ (board : BoardState) (cpu id : ℕ). runs-once board.kernel cpu id
