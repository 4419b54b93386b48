use Rattle.std.proofs.Common.{arith}
use Rattle.brd_inputs.proofs.input.read_within.Goals as goal
use Rattle.brd_inputs.proofs.InputLemmas.{too_long, read_failed}

pub returns-then-n-len : goal.returns-then-n-len
returns-then-n-len g c = too_long _ _ _ _ _ _ _ c.loop.invariant.taken c.in-Ok.ensures.bytes.0 c.in-Ok.ensures.bound.0 (omega (arith, c.loop.invariant.room, c.len.ensures, c.if-n-len.true))

pub returns-then-ne : goal.returns-then-ne
returns-then-ne g c = read_failed _ _ _ _ c.of_read.ensures
