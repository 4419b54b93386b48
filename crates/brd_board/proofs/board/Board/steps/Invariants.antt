-- The events that are left lead from here to where all of them lead.
use Rattle.std.proofs.Common.{◌≡◌, ◌-◌, replicate}
use Rattle.brd_board.specs.declared.event.Event.TheVariants.{Step}
use Rattle.brd_board.specs.Board.{after}
use Rattle.brd_board.proofs.board.Board.steps.Given as goal

abbrev pub invariant-loop : goal.invariant-loop
invariant-loop l = after l.self (replicate (l.count - l.counter) (Step l.cpu)) ≡ after l.fn.self (replicate l.count (Step l.cpu))
