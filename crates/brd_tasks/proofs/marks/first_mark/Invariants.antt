-- The words that were passed have no mark.
use Rattle.std.proofs.Common.{◌≡◌, ◌<◌, ◌*◌, ℕ}
use Rattle.brd_tasks.specs.Marks.{mark_at}
use Rattle.brd_tasks.proofs.marks.first_mark.Given as goal

abbrev pub invariant-loop-i : goal.invariant-loop-i
invariant-loop-i l = (priority : ℕ) → priority < l.i * 64 → mark_at l.marks l.cpu priority ≡ 0
