-- As many lent steps as there are.
use Rattle.std.specs.Prelude.{◌≡◌, ℕ, ◌<◌, ◌≤◌, List, None, Some}
use Rattle.brd_exec.specs.State.{State}
use Rattle.brd_exec.specs.Lent.{lent, lent_step}

-- By a window of code so many lent steps were done: up to a limit, and if fewer, then there is no further one.
pub record DoesMost (window : List ℕ) (start most : ℕ) (old new : State) (done : ℕ) : Type 0 where
  pub led : lent done old window start ≡ Some new
  pub few : done ≤ most
  pub end : done < most → lent_step new window start ≡ None
