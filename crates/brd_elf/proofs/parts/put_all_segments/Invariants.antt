-- The headers and bytes so far, and those of the segments that are left, are those of all.
use Rattle.std.proofs.Common.{◌≡◌, ◌+◌, ◌++◌, length, drop}
use Rattle.brd_elf.specs.File.{program_headers_from, data_of}
use Rattle.brd_elf.proofs.parts.put_all_segments.Given as goal

abbrev pub invariant-loop-segment : goal.invariant-loop-segment
invariant-loop-segment l = record {
  programs : l.programs.items ++ program_headers_from l.order (l.fn.start + length l.loaded.items) (drop l.segment-index l.segments) ≡ l.fn.programs.items ++ program_headers_from l.order (l.fn.start + length l.fn.loaded.items) l.segments;
  bytes : l.loaded.items ++ data_of (drop l.segment-index l.segments) ≡ l.fn.loaded.items ++ data_of l.segments;
}
