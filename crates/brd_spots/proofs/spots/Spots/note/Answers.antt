use Rattle.std.specs.Prelude.{replicate}
use Rattle.brd_board.specs.Board.{after}
use Rattle.brd_spots.proofs.SpotLemmas.{noted-known, noted-more}
use Rattle.brd_spots.proofs.spots.Spots.note.Goals as goal

pub returns-clause-more : goal.returns-clause-more
returns-clause-more c =
    noted-more c.args.self.now c.add.new.self c.args.from (λ b. after b (replicate c.args.count c.args.event))
    c.args.margin c.add.result c.requires c.add.ensures.ok c.add.ensures.err

pub returns-clause-known : goal.returns-clause-known
returns-clause-known c = λ p there is.
    noted-known c.args.self.now c.add.new.self c.args.board.now
    (after p.board (replicate c.args.count c.args.event)) c.args.margin c.add.result (c.add.ensures.ok p there) is
