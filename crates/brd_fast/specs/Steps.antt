-- Only private contracts name this: steps that may be done.
use Rattle.std.specs.Prelude.{◌≡◌, ℕ, ◌-◌, ◌≤◌, Bool, true, false, Option, Some}
use Rattle.brd_mem.specs.Memory.{Memory}
use Rattle.brd_link.specs.LinkSet.{LinkSet}
use Rattle.brd_exec.specs.State.{State}
use Rattle.brd_exec.specs.Step.{effect}
use Rattle.brd_exec.specs.Went.{Machine, went_by, went}
use Rattle.brd_fast.specs.Place.{Place, state_of}

-- it came to this, or nothing was done
abbrev pub Steps : Option Machine → Machine → Bool → Machine → Type 0
Steps after old true new = after ≡ Some new
Steps after old false new = new ≡ old

-- the processor's next step was done, which goes on; or nothing was done
abbrev pub MaySteps : ℕ → Machine → Bool → Machine → Type 0
MaySteps cpu old result new = Steps (went_by (effect cpu old.state old.memory old.links)) old result new

-- the machine of a context at a place
abbrev pub machine_at : State → Memory → LinkSet → Place → Machine
machine_at s memory links place = record { state = state_of s place; memory = memory; links = links }

-- from place to place by the processor's steps alone, as many as are fewer left
pub record GoesFrom (cpu : ℕ) (s : State) (memory : Memory) (links : LinkSet) (old new : Place) : Type 0 where
  pub left : new.left ≤ old.left
  pub words : new.words ≡ old.words
  pub steps : went cpu (old.left - new.left) (machine_at s memory links old) ≡ Some (machine_at s memory links new)
