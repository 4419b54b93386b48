-- The words so far are those from the place on.
use Rattle.std.proofs.Common.{◌≡◌, length, take}
use Rattle.brd_mem.specs.Window.{words_at}
use Rattle.brd_mem.proofs.ram.Ram.words_at.Given as goal

abbrev pub invariant-loop-i : goal.invariant-loop-i
invariant-loop-i l = record {
  so_far : take l.i l.words ≡ words_at l.self l.at l.i;
  count : length l.words ≡ 64;
}
