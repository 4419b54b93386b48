use Rattle.std.proofs.Common.{◌++◌, [], ap, ◌∙◌, arith}
use Rattle.std.specs.List.{cons_option, filter_map, range_with_len}
use Rattle.brd_seen.specs.Seen.{seen_in}
use Rattle.brd_happening.proofs.ReleaseLemmas.{next-number}
use Rattle.brd_seen.proofs.SeenLemmas.{all-seen-is}
use Rattle.brd_seen.proofs.tasks.tasks_seen.Goals as goal

pub loop-id-init : goal.loop-id-init
loop-id-init c =
    ap (λ tasks. tasks ++ filter_map (seen_in c.args.board.now) (range_with_len 1 255)) c.new-tasks.ensures.items ∙ all-seen-is c.args.board.now

pub loop-id-preserved : goal.loop-id-preserved
loop-id-preserved c =
    next-number (seen_in c.args.board.now) c.loop-id.tasks.items c.put_if.new.tasks.items _ c.loop-id.id 256
    (omega (arith, c.loop-id-test.true))
    (c.in_ok-put_if.ensures ∙ ap (λ o. c.loop-id.tasks.items ++ cons_option o []) c.task_seen.ensures) c.loop-id.invariant
