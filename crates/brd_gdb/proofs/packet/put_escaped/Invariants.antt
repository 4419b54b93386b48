use Rattle.std.proofs.Common.{◌≡◌, ◌+◌, ◌%◌, ◌<◌, ◌++◌, drop}
use Rattle.std.specs.Prelude.{sum}
use Rattle.brd_gdb.specs.Packets.{checksum, escaped}
use Rattle.brd_gdb.proofs.packet.put_escaped.Given as goal

-- what is put so far and the bytes that are left are all, and so are their sums
abbrev pub invariant-loop-byte : goal.invariant-loop-byte
invariant-loop-byte l = record {
  put : l.out.items ++ escaped (drop l.byte-index l.payload) ≡ l.initial.out.items ++ escaped l.payload;
  sum : (l.sum + sum (escaped (drop l.byte-index l.payload))) % 256 ≡ checksum (escaped l.payload);
  small : l.sum < 256;
}
