-- what is left says the same as all
use Rattle.std.proofs.Common.{◌≡◌, drop}
use Rattle.brd_stub.specs.Marks.{mark_of}
use Rattle.brd_stub.proofs.marks.mark_of.Given as goal

abbrev pub invariant-loop-mark : goal.invariant-loop-mark
invariant-loop-mark l = mark_of (drop l.mark-index l.marks) l.name ≡ mark_of l.marks l.name
