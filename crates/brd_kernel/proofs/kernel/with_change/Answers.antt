use Rattle.std.proofs.Common.{◌∙◌, arith}
use Rattle.brd_kernel.proofs.BitLemmas.{set-bit}
use Rattle.brd_kernel.proofs.kernel.with_change.Goals as goal

pub returns : goal.returns
returns c = λ j small. set-bit c.args.changed c.args.cpu j (omega (arith, c.if-cpu-eq0.false)) c.requires ∙ grind (arith, c.if-not-other.false)
