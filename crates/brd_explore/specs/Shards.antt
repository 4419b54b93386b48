-- Shards: the parts of a search that several machines share.
use Rattle.std.specs.Prelude.{◌≡◌, ℕ, ◌+◌, ◌-◌, ◌%◌, nat_lt, Bool, true, false, if◌then◌else◌, List, [], ◌∷◌}
use Rattle.std.specs.Prelude.{Option, Some, None}
use Rattle.brd_board.specs.declared.event.Event.{Event}
use Rattle.brd_explore.specs.declared.bounds.Bounds.{Bounds}
use Rattle.brd_explore.specs.declared.shard.Shard.{Shard}
use Rattle.brd_explore.specs.declared.wanted.Wanted.{Wanted}
use Rattle.brd_explore.specs.Schedules.{Place, next}
use Rattle.brd_explore.specs.Searching.{FailsAt, IsFound, LeadsAwake}
use Rattle.brd_explore.specs.Sleeping.{awake}

-- how many choices that cost are left: preemptions, ticks and raises
abbrev pub choices : Bounds → ℕ
choices left = left.preemptions + left.ticks + left.raises

-- A schedule is dealt out by its second choice that costs, or by its first if the bounds have only one: as soon as fewer
-- choices than these are left. If the bounds have none, no schedule is dealt out.
abbrev pub undealt : Bounds → ℕ
undealt bounds = if nat_lt 1 (choices bounds) then choices bounds - 1 else choices bounds

abbrev pub is_dealt : ℕ → Bounds → Bool
is_dealt least left = nat_lt (choices left) least

-- Schedules are dealt to the shards in turn, by how many events are left then: one whose number, divided by how many
-- shards there are, leaves the shard's number is the shard's. One that is never dealt out is in every shard.
abbrev pub IsInShard : Shard → ℕ → Place → List Event → Type 0
IsInShard shard least p [] = Unit {0}
IsInShard shard least p (event ∷ events) =
    (is_dealt least (next p event).left ≡ true → (next p event).left.events % shard.of ≡ shard.number)
    × (is_dealt least (next p event).left ≡ false → IsInShard shard least (next p event) events)

-- No schedule of a shard fails. A shard has those schedules within the bounds on which nothing is left out (a step of a
-- processor that sleeps is: another schedule comes to the same, which may be another shard's). So the shards together
-- say that no schedule fails, and one alone only that none of its own does.
abbrev pub NoneFailsInShard : Wanted → Shard → List Event → Place → Type 0
NoneFailsInShard wanted shard among p =
    (events : List Event) (to : Place) → LeadsAwake wanted among (awake p) events to →
    IsInShard shard (undealt p.left) p events → FailsAt wanted to → ⊥

-- What the search of a shard answers is so: the schedule is one that was found, or none of the shard fails.
abbrev pub AnswersInShard : Wanted → Shard → List Event → Place → Option (List Event) → Type 0
AnswersInShard wanted shard among from (Some events) = IsFound wanted among from events
AnswersInShard wanted shard among from None = NoneFailsInShard wanted shard among from
