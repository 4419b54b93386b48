-- Below the page the bytes are the other's, from there on what they were.
use Rattle.std.proofs.Common.{◌≡◌, ◌*◌}
use Rattle.brd_mem.specs.Memory.{memory_of_bytes, size_of}
use Rattle.brd_mem.specs.Pages.{page_size}
use Rattle.brd_mem.proofs.PageLemmas.{halves}
use Rattle.brd_mem.proofs.ram.Ram.copy_from.Given as goal

abbrev pub invariant-loop-number : goal.invariant-loop-number
invariant-loop-number l = record {
  is : l.self ≡ memory_of_bytes l.fn.self.order (halves (l.number * page_size) l.other.bytes l.fn.self.bytes);
  size : size_of l.self ≡ size_of l.other;
}
