use Rattle.std.proofs.Common.{◌≡◌, refl, arith}
use Rattle.brd_board.specs.declared.event.Event.{Event}
use Rattle.brd_board.specs.declared.event.Event.TheVariants.{Step, Tick, Raise}
use Rattle.brd_board.specs.Board.{BoardState, after}
use Rattle.brd_journal.specs.Playing.{AllGoOn}
use Rattle.brd_journal.specs.Runs.{copies}
use Rattle.brd_journal.proofs.PlayingLemmas.{run-played}
use Rattle.brd_journal.proofs.StillLemmas.{no-more, repeated}
use Rattle.brd_journal.proofs.playback.Playback.go_on.Goals as goal

none-go : (b : BoardState) (e : Event) → AllGoOn b e 0
none-go b (Step cpu) = λ n less. absurd (omega (arith, less))
none-go b Tick = refl
none-go b (Raise line) = refl

pub returns-in_default : goal.returns-in_default
returns-in_default c = record {
  few = omega arith;
  at = omega arith;
  to = c.requires.on;
  board = no-more c.args.self.now.board c.args.self.now.board c.args.rest.event 0 refl refl;
  ran = none-go c.args.self.now.board c.args.rest.event;
  played = λ boot events within comes is. is;
}

pub returns-clause-board : goal.returns-clause-board
returns-clause-board c = rw c.in-Step.is (repeated c.args.self.now.board c.go_on-went.new.self (Step c.in-Step.cpu) c.go_on-went.result c.go_on-went.ensures.done)

pub returns-clause-played : goal.returns-clause-played
returns-clause-played c = λ boot events within comes is.
    run-played boot events c.args.self.now _ c.go_on-went.result c.args.rest is comes (omega (arith, c.go_on-went.ensures.few, c.min-most.ensures))
    (let board : c.go_on-went.new.self ≡ after c.args.self.now.board (copies c.args.rest.event c.go_on-went.result) = rw c.in-Step.is (repeated c.args.self.now.board c.go_on-went.new.self (Step c.in-Step.cpu) c.go_on-went.result c.go_on-went.ensures.done) in board)
    refl (omega (arith, within, c.go_on-went.ensures.few, c.min-most.ensures, c.requires.on))
