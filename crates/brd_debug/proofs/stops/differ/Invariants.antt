-- The watches so far have the bytes that they had.
use Rattle.std.proofs.Common.{◌≡◌, ℕ, ◌<◌}
use Rattle.std.specs.Prelude.{slice_index, slice_index_or, None}
use Rattle.brd_mem.specs.Memory.{byte_at}
use Rattle.brd_debug.proofs.stops.differ.Given as goal

abbrev pub invariant-loop-i : goal.invariant-loop-i
invariant-loop-i l = (k : ℕ) → k < l.i → byte_at l.board.memory (slice_index l.watches k) ≡ slice_index_or l.before.bytes k None
