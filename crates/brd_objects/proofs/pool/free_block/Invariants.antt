-- What was passed is out.
use Rattle.std.proofs.Common.{◌≡◌, drop}
use Rattle.std.specs.Prelude.{find, not}
use Rattle.brd_objects.proofs.pool.free_block.Given as goal

abbrev pub invariant-loop-block : goal.invariant-loop-block
invariant-loop-block l = find (λ b. not b.out) l.blocks ≡ find (λ b. not b.out) (drop l.block-index l.blocks)
