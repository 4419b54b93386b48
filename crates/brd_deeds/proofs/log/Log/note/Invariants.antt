use Rattle.std.proofs.Common.{◌≡◌, take}
use Rattle.brd_deeds.specs.Past.{notes}
use Rattle.brd_deeds.proofs.log.Log.note.Given as goal

abbrev pub invariant-loop-done : goal.invariant-loop-done
invariant-loop-done l = l.self ≡ notes l.fn.stamp (take l.done-index l.dones) l.fn.self
