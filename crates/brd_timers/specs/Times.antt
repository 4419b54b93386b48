-- What the times of a time handler are: what the laws say of them.
use Rattle.std.specs.Prelude.{◌≡◌, ℕ, zero, suc, ◌+◌, ◌*◌, ◌<◌, ◌≤◌}
use Rattle.brd_timers.specs.declared.timer.Timer.{Timer}
use Rattle.brd_timers.specs.Timers.{ticked}

-- a tick is one of `first`, `first + period`, `first + 2 * period`, and so on
pub record IsTime (first period tick : ℕ) : Type 0 where
  pub before : ℕ  -- how many of them come before it
  pub is : tick ≡ first + before * period

-- a tick is the first of those that comes after another
pub record IsNextTime (first period now tick : ℕ) : Type 0 where
  pub time : IsTime first period tick
  pub later : now < tick
  pub least : (other : ℕ) → IsTime first period other → now < other → tick ≤ other

-- a time handler after as many ticks from one on, if it is neither started nor stopped meanwhile
abbrev pub after_ticks : ℕ → Timer → ℕ → Timer
after_ticks now timer zero = timer
after_ticks now timer (suc ticks) = ticked (suc (now + ticks)) (after_ticks now timer ticks)
