-- To none of the cuts so far can the turn be moved.
use Rattle.std.proofs.Common.{◌≡◌, ◌<◌, ℕ}
use Rattle.std.specs.Prelude.{true}
use Rattle.brd_shrink.specs.Turns.{is_cut, swapped}
use Rattle.brd_shrink.specs.Settled.{IsPassing}
use Rattle.brd_shrink.proofs.moving.moved_earlier.Given as goal

abbrev pub invariant-loop-at : goal.invariant-loop-at
invariant-loop-at l = (k : ℕ) → k < l.at → is_cut l.events k ≡ true → IsPassing l.wanted l.board l.events (swapped l.events k l.from l.to)
