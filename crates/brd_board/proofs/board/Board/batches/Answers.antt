use Rattle.std.proofs.Common.{◌≡◌, ◌+◌, ◌-◌, replicate, ap, ◌∙◌, arith}
use Rattle.brd_board.specs.declared.event.Event.TheVariants.{Step}
use Rattle.brd_board.specs.Board.{BoardState, after}
use Rattle.brd_board.proofs.BatchLemmas.{after-both}
use Rattle.brd_board.proofs.board.Board.batches.Goals as goal

pub loop-left-preserved : goal.loop-left-preserved
loop-left-preserved c =
    let event = Step c.args.cpu in
    let b = c.loop-left.self in
    let done = c.batch-done.result in
    let apart = c.min-apart.result in
    let left = c.loop-left.left - done - apart in
    let all : done + (apart + left) ≡ c.loop-left.left = omega (arith, c.batch-done.ensures.few, c.min-apart.ensures) in
    ap (λ (s : BoardState). after s (replicate left event))
    (c.steps.ensures ∙ ap (λ (s : BoardState). after s (replicate apart event)) c.batch-done.ensures.done)
    ∙ after-both apart left (after b (replicate done event)) event ∙ after-both done (apart + left) b event
    ∙ ap (λ n. after b (replicate n event)) all ∙ c.loop-left.invariant
