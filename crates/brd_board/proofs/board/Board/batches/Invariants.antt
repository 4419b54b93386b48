-- The steps that are left lead from here to where all of them lead.
use Rattle.std.proofs.Common.{◌≡◌, replicate}
use Rattle.brd_board.specs.Board.{after}
use Rattle.brd_board.specs.declared.event.Event.TheVariants.{Step}
use Rattle.brd_board.proofs.board.Board.batches.Given as goal

abbrev pub invariant-loop-left : goal.invariant-loop-left
invariant-loop-left l = after l.self (replicate l.left (Step l.cpu)) ≡ after l.fn.self (replicate l.count (Step l.cpu))

abbrev pub decreases-loop-left : goal.decreases-loop-left
decreases-loop-left l = l.left
