-- The numbers are those from before; where these are the board's, each task so far is seen as it stands; each task so far
-- is followed, and the others are as they were.
use Rattle.std.proofs.Common.{ℕ, ◌<◌, ◌≤◌, ◌≡◌, map}
use Rattle.std.specs.Prelude.{slice_index_or}
use Rattle.std.specs.List.{AllWithin}
use Rattle.brd_seen.specs.declared.tasks.TaskSeen.{TaskSeen}
use Rattle.brd_seen.specs.Conditions.{FollowsTask}
use Rattle.brd_seen.specs.Seen.{IsSeen}
use Rattle.brd_names.specs.Standings.{tasks_of}
use Rattle.brd_seen.proofs.tasks.follow_tasks.Given as goal

abbrev pub invariant-loop-i : goal.invariant-loop-i
invariant-loop-i l = record {
  those : map (λ (it : TaskSeen). it.id) l.tasks.items ≡ map (λ (it : TaskSeen). it.id) l.fn.tasks.items;
  each : map (λ (it : TaskSeen). it.id) l.fn.tasks.items ≡ tasks_of l.board → AllWithin (IsSeen l.board) l.tasks.items 0 l.i;
  done : (n : ℕ) (d : TaskSeen) → n < l.i
      → FollowsTask l.cause.position (slice_index_or l.fn.tasks.items n d) (slice_index_or l.tasks.items n d);
  left : (n : ℕ) (d : TaskSeen) → l.i ≤ n → slice_index_or l.tasks.items n d ≡ slice_index_or l.fn.tasks.items n d;
}
