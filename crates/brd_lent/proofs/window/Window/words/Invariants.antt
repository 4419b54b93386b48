-- The words so far are the first ones.
use Rattle.std.proofs.Common.{◌≡◌, length, take}
use Rattle.brd_lent.proofs.window.Window.words.Given as goal

abbrev pub invariant-loop-i : goal.invariant-loop-i
invariant-loop-i l = record {
  so_far : take l.i l.words ≡ take l.i l.self;
  long : length l.self ≡ 64;
  count : length l.words ≡ 64;
}
