-- What the segments that are left have, after the bytes so far, makes the whole.
use Rattle.std.proofs.Common.{◌≡◌, ◌+◌, ◌^◌, ◌≤◌, min, length, drop}
use Rattle.brd_elf.specs.File.{data_of}
use Rattle.brd_elf.proofs.size.data_len.Given as goal

abbrev pub invariant-loop-segment : goal.invariant-loop-segment
invariant-loop-segment l = record {
  small : l.len ≤ 2 ^ 32;
  same : min (l.len + length (data_of (drop l.segment-index l.segments))) (2 ^ 32) ≡ min (length (data_of l.segments)) (2 ^ 32);
}
