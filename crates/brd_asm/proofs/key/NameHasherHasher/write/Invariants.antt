use Rattle.std.proofs.Common.{◌≡◌, drop}
use Rattle.brd_asm.specs.Key.{written}
use Rattle.brd_asm.proofs.key.NameHasherHasher.write.Given as goal

-- what is left, after those so far, leaves the state after all
abbrev pub invariant-loop-byte : goal.invariant-loop-byte
invariant-loop-byte l = written l.self (drop l.byte-index l.bytes) ≡ written l.fn.self l.bytes
