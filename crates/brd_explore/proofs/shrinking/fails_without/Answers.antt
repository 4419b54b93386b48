use Rattle.std.proofs.Common.{◌≡◌, ap, subst, ◌∙◌}
use Rattle.std.specs.Prelude.{IfOk}
use Rattle.std.proofs.lemmas.List.{take_rest}
use Rattle.brd_board.specs.Board.{BoardState, after}
use Rattle.brd_explore.specs.Shrinking.{fails_after, without}
use Rattle.brd_explore.proofs.ShrinkLemmas.{played-without, alike-judged}
use Rattle.brd_explore.proofs.shrinking.fails_without.Goals as goal

pub returns-clause-fails : goal.returns-clause-fails
returns-clause-fails c = subst (λ (b : BoardState). IfOk c.fails_after.result (λ fails. fails ≡ fails_after c.args.wanted.now b))
    (played-without c.args.board.now c.copy_from.new.self c.play.new.self c.play-2.new.self c.args.events.now c.args.from c.args.to
    c.in_ok-copy_from.ensures.ok c.play.ensures
    (c.play-2.ensures ∙ ap (after c.play.new.self) (take_rest c.args.events.now c.args.to)))
    c.fails_after.ensures.fails

pub returns-clause-alike : goal.returns-clause-alike
returns-clause-alike c = alike-judged c.args.wanted.now c.args.board.now c.play-2.new.self c.fails_after.new.board
    (without c.args.events.now c.args.from c.args.to)
    (played-without c.args.board.now c.copy_from.new.self c.play.new.self c.play-2.new.self c.args.events.now c.args.from c.args.to
    c.in_ok-copy_from.ensures.ok c.play.ensures
    (c.play-2.ensures ∙ ap (after c.play.new.self) (take_rest c.args.events.now c.args.to)))
    c.fails_after.ensures.board
