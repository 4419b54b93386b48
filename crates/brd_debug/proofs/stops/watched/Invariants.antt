-- The bytes of the watches so far.
use Rattle.std.proofs.Common.{◌≡◌, ℕ, ◌<◌, length}
use Rattle.std.specs.Prelude.{slice_index, slice_index_or, None}
use Rattle.brd_mem.specs.Memory.{byte_at}
use Rattle.brd_debug.proofs.stops.watched.Given as goal

abbrev pub invariant-loop-i : goal.invariant-loop-i
invariant-loop-i l = record {
  long : length l.bytes ≡ 512;
  are : (k : ℕ) → k < l.i → slice_index_or l.bytes k None ≡ byte_at l.board.memory (slice_index l.watches k);
}
