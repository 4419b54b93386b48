-- The events that are left lead from here to where all of them lead.
use Rattle.std.proofs.Common.{◌≡◌, drop}
use Rattle.brd_board.specs.Board.{after}
use Rattle.brd_board.proofs.board.Board.play.Given as goal

abbrev pub invariant-loop-event : goal.invariant-loop-event
invariant-loop-event l = after l.self (drop l.event-index l.events) ≡ after l.fn.self l.events
