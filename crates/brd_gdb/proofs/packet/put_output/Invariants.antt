use Rattle.std.proofs.Common.{length}
use Rattle.brd_gdb.proofs.OutputLemmas.{ShowsFront}
use Rattle.brd_gdb.proofs.packet.put_output.Given as goal

abbrev pub invariant-loop-left : goal.invariant-loop-left
invariant-loop-left l = ShowsFront l.text l.left l.initial.out.items l.out.items

abbrev pub decreases-loop-left : goal.decreases-loop-left
decreases-loop-left l = length l.left
