-- the bytes so far are those of memory
use Rattle.std.proofs.Common.{◌≡◌, ℕ, ◌+◌, ◌%◌, ◌^◌, ◌<◌, length}
use Rattle.std.specs.Prelude.{slice_index, Some}
use Rattle.brd_mem.specs.Memory.{byte_at}
use Rattle.brd_stub.proofs.memory.front.Given as goal

abbrev pub invariant-loop-i : goal.invariant-loop-i
invariant-loop-i l = record {
  long : length l.bytes.items ≡ l.i;
  are : (k : ℕ) → k < l.i → byte_at l.board.memory ((l.address + k) % 2 ^ 32) ≡ Some (slice_index l.bytes.items k);
}
