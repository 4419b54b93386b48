use Rattle.std.proofs.Common.{◌≡◌, ◌++◌, drop}
use Rattle.brd_gdb.specs.Hexes.{hexed}
use Rattle.brd_gdb.proofs.digits.put_hex.Given as goal

-- what is put so far and the digits of the bytes that are left are all
abbrev pub invariant-loop-byte : goal.invariant-loop-byte
invariant-loop-byte l = l.out.items ++ hexed (drop l.byte-index l.bytes) ≡ l.initial.out.items ++ hexed l.bytes
