-- The bytes that are left end as all of them do, where there are some.
use Rattle.std.proofs.Common.{◌≡◌, drop, true}
use Rattle.brd_try.specs.Told.{ends_from}
use Rattle.brd_try.proofs.told.ends_line.Given as goal

abbrev pub invariant-loop-byte : goal.invariant-loop-byte
invariant-loop-byte l = ends_from l.ends (drop l.byte-index l.bytes) ≡ ends_from true l.bytes
