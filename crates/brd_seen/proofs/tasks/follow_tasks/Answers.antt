use Rattle.std.proofs.Common.{◌≡◌, ◌<◌, ap, ◌∙◌, arith}
use Rattle.std.specs.Prelude.{is_some, length, slice_index_or}
use Rattle.std.proofs.lemmas.List.Elements.{AllWithin-more_set}
use Rattle.std.proofs.Math.Seq.{map-set_same}
use Rattle.brd_board.specs.Board.{task_of}
use Rattle.brd_seen.specs.declared.tasks.TaskSeen.{TaskSeen}
use Rattle.brd_seen.specs.Seen.{IsSeen}
use Rattle.brd_seen.proofs.SeenLemmas.{there-at, same-length}
use Rattle.brd_seen.proofs.FollowLemmas.{one-more, one-less}
use Rattle.brd_seen.proofs.tasks.follow_tasks.Goals as goal

pub loop-i-preserved : goal.loop-i-preserved
loop-i-preserved c =
    let old : TaskSeen = c.index.result.now in
    let same : old ≡ slice_index_or c.loop-i.tasks.items c.loop-i.i old = c.index.ensures in
    let longer : length c.loop-i.tasks.items ≡ length c.args.tasks.now.items =
    same-length c.args.tasks.now.items c.loop-i.tasks.items c.loop-i.invariant.those in
    let inside : c.loop-i.i < length c.loop-i.tasks.items = omega (arith, c.loop-i-test.true, c.len-i-end.ensures, longer) in
    record {
      those = map-set_same (λ (it : TaskSeen). it.id) c.loop-i.tasks.items c.loop-i.i c.followed.result old
          (c.followed.ensures.id ∙ ap (λ (it : TaskSeen). it.id) same)
          ∙ c.loop-i.invariant.those;
      each = λ are.
          AllWithin-more_set c.loop-i.tasks.items c.loop-i.i c.followed.result inside (IsSeen c.args.board.now) (c.loop-i.invariant.each are)
          (c.followed.ensures.seen (ap (λ (it : TaskSeen). is_some (task_of c.args.board.now it.id)) same
          ∙ there-at c.args.board.now c.loop-i.tasks.items c.loop-i.i old (c.loop-i.invariant.those ∙ are) inside));
      done = one-more c.args.cause.position c.loop-i.i c.args.tasks.now.items c.loop-i.tasks.items old c.followed.result inside same
          c.followed.ensures.follows c.loop-i.invariant.done c.loop-i.invariant.left;
      left = one-less c.args.cause.position c.loop-i.i c.args.tasks.now.items c.loop-i.tasks.items old c.followed.result inside same
          c.followed.ensures.follows c.loop-i.invariant.done c.loop-i.invariant.left;
    }

pub returns-clause-each : goal.returns-clause-each
returns-clause-each c = λ are k d less.
    let longer : length c.loop-i.tasks.items ≡ length c.args.tasks.now.items =
    same-length c.args.tasks.now.items c.loop-i.tasks.items c.loop-i.invariant.those in
    c.loop-i.invariant.each are k d (omega arith) (omega (arith, less, c.loop-i-test.false, c.len-i-end.ensures, longer))

pub returns-clause-length : goal.returns-clause-length
returns-clause-length c = same-length c.args.tasks.now.items c.loop-i.tasks.items c.loop-i.invariant.those

pub returns-clause-follows : goal.returns-clause-follows
returns-clause-follows c = λ i d less. c.loop-i.invariant.done i d (omega (arith, less, c.loop-i-test.false, c.len-i-end.ensures))
