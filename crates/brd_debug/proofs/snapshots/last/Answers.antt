use Rattle.std.proofs.Common.{arith}
use Rattle.std.proofs.lemmas.Bool.Decides.{nat_tests}
use Rattle.brd_debug.proofs.KeptLemmas.{last-is}
use Rattle.brd_debug.proofs.snapshots.last.Goals as goal

pub returns : goal.returns
returns c = last-is c.args.kept.now _ (grind (arith, nat_tests, c.if-is_empty.ensures))
