-- The processors so far are seen, and of the others the same is known as before.
use Rattle.std.proofs.Common.{◌≡◌, ◌≤◌, ℕ, length}
use Rattle.std.specs.Prelude.{slice_index_or, None}
use Rattle.brd_spins.specs.Since.{AreSeen}
use Rattle.brd_spins.proofs.watching.Watching.look.Given as goal

abbrev pub invariant-loop-i : goal.invariant-loop-i
invariant-loop-i l = record {
  same : l.self.playback ≡ l.fn.self.playback;
  eight : length l.self.lefts ≡ 8;
  seen : AreSeen l.fn.self.playback.board l.turnings l.i l.fn.self.playback.at l.fn.self.lefts l.self.lefts;
  rest : (place : ℕ) → l.i ≤ place → slice_index_or l.self.lefts place None ≡ slice_index_or l.fn.self.lefts place None;
}
