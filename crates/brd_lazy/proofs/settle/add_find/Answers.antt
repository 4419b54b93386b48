use Rattle.std.proofs.Common.{refl, arith}
use Rattle.std.specs.Prelude.{replicate}
use Rattle.brd_board.specs.Board.{after}
use Rattle.brd_spots.proofs.SpotLemmas.{noted-known, noted-more}
use Rattle.brd_lazy.proofs.settle.add_find.Goals as goal

pub returns-clause-more : goal.returns-clause-more
returns-clause-more c =
    noted-more c.args.spots.now c.add.new.self c.args.find.from
    (λ b. after b (replicate c.args.find.count c.args.find.event)) c.args.find.margin c.add.result
    (omega (arith, c.if-find-len.false, c.len.ensures)) c.add.ensures.ok c.add.ensures.err

pub returns-clause-known : goal.returns-clause-known
returns-clause-known c = λ p there.
    noted-known c.args.spots.now c.add.new.self (after p.board (replicate c.args.find.count c.args.find.event))
    (after p.board (replicate c.args.find.count c.args.find.event)) c.args.find.margin c.add.result
    (c.add.ensures.ok p there) refl
