-- To none of the cuts so far can the turn be moved.
use Rattle.std.proofs.Common.{◌≡◌, ◌<◌, ◌≤◌, ℕ}
use Rattle.std.specs.Prelude.{true}
use Rattle.brd_shrink.specs.Turns.{is_cut, swapped}
use Rattle.brd_shrink.specs.Settled.{IsPassing}
use Rattle.brd_shrink.proofs.moving.moved_later.Given as goal

abbrev pub invariant-loop-before : goal.invariant-loop-before
invariant-loop-before l =
    (k : ℕ) → l.to < k → k ≤ l.before → is_cut l.events k ≡ true → IsPassing l.wanted l.board l.events (swapped l.events l.from l.to k)
