-- The events that are left lead from here to where all of them lead.
use Rattle.std.proofs.Common.{◌≡◌, ◌-◌, replicate}
use Rattle.brd_board.specs.Board.{after}
use Rattle.brd_board.proofs.board.Board.repeat_in_line.Given as goal

abbrev pub invariant-loop : goal.invariant-loop
invariant-loop l = after l.self (replicate (l.count - l.counter) l.event) ≡ after l.fn.self (replicate l.count l.event)
