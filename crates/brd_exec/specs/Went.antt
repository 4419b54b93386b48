-- Steps of one processor that go on, one after the other, so long as no SYSCALL and no exception comes.
use Rattle.std.specs.Prelude.{ℕ, zero, suc, Option, None, Some}
use Rattle.brd_mem.specs.Memory.{Memory}
use Rattle.brd_link.specs.LinkSet.{LinkSet}
use Rattle.brd_exec.specs.State.{State}
use Rattle.brd_exec.specs.Step.{Effect, effect}

-- a processor's context, memory and the processors' links
pub record Machine : Type 0 where
  pub state : State
  pub memory : Memory
  pub links : LinkSet

abbrev pub went_by : Effect → Option Machine
went_by (Effect.Goes after memory links) = Some (record { state = after; memory = memory; links = links })
went_by (Effect.Stops stop links) = None

abbrev pub went_on : ℕ → Option Machine → Option Machine
went_on cpu None = None
went_on cpu (Some m) = went_by (effect cpu m.state m.memory m.links)

-- what n steps of a processor leave; none where one of them stops
abbrev pub went : ℕ → ℕ → Machine → Option Machine
went cpu zero m = Some m
went cpu (suc count) m = went_on cpu (went cpu count m)
