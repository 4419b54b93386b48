-- The words so far are those from the place on.
use Rattle.std.proofs.Common.{◌≡◌, length, take}
use Rattle.brd_mem.specs.Window.{words_at}
use Rattle.brd_lent.specs.Window.{words_of}
use Rattle.brd_lent.proofs.window.raw_at.Given as goal

abbrev pub invariant-loop-i : goal.invariant-loop-i
invariant-loop-i l = record {
  so_far : words_of l.ram.order (take l.i l.raw) ≡ words_at l.ram l.at l.i;
  count : length l.raw ≡ 64;
}
