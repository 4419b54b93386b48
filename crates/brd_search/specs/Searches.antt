-- What a search answers.
use Rattle.std.specs.Prelude.{◌≡◌, ◌⊎◌, ℕ, ◌-◌, ◌≤◌, ◌<◌, min, Bool, true, false, List, length, Option, Some, None}
use Rattle.brd_board.specs.declared.event.Event.{Event}
use Rattle.brd_board.specs.Board.{BoardState}
use Rattle.brd_explore.specs.declared.bounds.Bounds.{Bounds}
use Rattle.brd_explore.specs.Schedules.{start}
use Rattle.brd_explore.specs.Searching.{IsFound}
use Rattle.brd_explore.specs.Shards.{NoneFailsInShard}
use Rattle.brd_only.specs.Only.{KeepsInside, NoneFailsInside, are_none}
use Rattle.brd_search.specs.declared.plan.Plan.{Plan}
use Rattle.brd_search.specs.declared.searching.NoAnswer.{NoAnswer}
use Rattle.brd_search.specs.declared.searching.NoAnswer.TheVariants as no_answer

-- bounds leave no more than others: as many ticks and raises, of which as many are owed, and not more events and
-- preemptions
pub record AreNotMore (few many : Bounds) : Type 0 where
  pub events : few.events ≤ many.events
  pub preemptions : few.preemptions ≤ many.preemptions
  pub ticks : few.ticks ≡ many.ticks
  pub raises : few.raises ≡ many.raises
  pub owed : few.owed ≡ many.owed

-- no schedule of the plan's shard within bounds fails
abbrev pub NoneWhole : Plan → BoardState → Bounds → Type 0
NoneWhole plan b bounds = NoneFailsInShard plan.wanted plan.shard plan.among (start b bounds)

-- Where there are no regions, no schedule of the plan's shard within bounds fails; else none within bounds does that
-- keeps to the plan's regions.
abbrev pub NoneIn : (anywhere : Bool) → Plan → BoardState → Bounds → Type 0
NoneIn true plan b bounds = NoneWhole plan b bounds
NoneIn false plan b bounds = NoneFailsInside plan.wanted plan.among plan.regions (start b bounds)

-- no schedule of the plan's shard within bounds fails that keeps to the plan's regions, if it has any
abbrev pub NoneWithin : Plan → BoardState → Bounds → Type 0
NoneWithin plan b bounds = NoneIn (are_none plan.regions) plan b bounds

-- what a search within bounds has answered that knows no regions
abbrev pub AnswersWhole : Plan → BoardState → Bounds → Option (List Event) → Type 0
AnswersWhole plan b bounds (Some events) = IsFound plan.wanted plan.among (start b bounds) events
AnswersWhole plan b bounds None = NoneWhole plan b bounds

-- a schedule that was found is within bounds, keeps to the plan's regions, and fails
pub record IsFoundBy (plan : Plan) (b : BoardState) (bounds : Bounds) (events : List Event) : Type 0 where
  pub found : IsFound plan.wanted plan.among (start b bounds) events
  pub keeps : KeepsInside plan.regions (start b bounds) events

-- what a search within bounds has answered
abbrev pub AnswersWithin : Plan → BoardState → Bounds → Option (List Event) → Type 0
AnswersWithin plan b bounds (Some events) = IsFoundBy plan b bounds events
AnswersWithin plan b bounds None = NoneWithin plan b bounds

-- a schedule that was found is within bounds, which are not more than the plan's, keeps to the plan's regions, and fails
pub record FailsWithin (plan : Plan) (b : BoardState) (bounds : Bounds) (events : List Event) : Type 0 where
  pub found : IsFound plan.wanted plan.among (start b bounds) events
  pub keeps : KeepsInside plan.regions (start b bounds) events
  pub few : AreNotMore bounds plan.bounds

-- What a search answers is so: the schedule is within the bounds that are named, keeps to the plan's regions, and
-- fails; or no such schedule of the plan's shard within the plan's bounds fails.
abbrev pub Answers : Plan → BoardState → Bounds → Option (List Event) → Type 0
Answers plan b bounds (Some events) = FailsWithin plan b bounds events
Answers plan b bounds None = (bounds ≡ plan.bounds) × NoneWithin plan b plan.bounds

-- none of the shard fails within the plan's bounds with fewer preemptions than these
abbrev pub NoneBelow : Plan → BoardState → ℕ → Type 0
NoneBelow plan b preemptions =
    (fewer : ℕ) → fewer < preemptions → NoneWithin plan b (record plan.bounds { preemptions = fewer })

-- None fails with fewer preemptions than the bounds leave of a schedule that was found, and else within the plan's.
abbrev pub IsFewest : Plan → BoardState → Bounds → Option (List Event) → Type 0
IsFewest plan b bounds (Some events) = NoneBelow plan b bounds.preemptions
IsFewest plan b bounds None = Unit {0}

-- Why a search has come to no answer is so: it was stopped only by who may stop it; and if it is said that none fails
-- with up to so many preemptions, these are fewer than the plan's, and none of the shard fails within the other bounds.
-- That it isn't known by lazy schedules, or by those that keep to regions, says nothing.
abbrev pub StopsSo : Plan → BoardState → Bool → NoAnswer → Type 0
StopsSo plan b may no_answer.NoMemory = Unit {0}
StopsSo plan b may no_answer.Stopped = may ≡ true
StopsSo plan b may (no_answer.Unknown why) = 0 < plan.lazy
StopsSo plan b may no_answer.UnknownInside = are_none plan.regions ≡ false
StopsSo plan b may (no_answer.StoppedAfter preemptions) =
    (may ≡ true) × (preemptions < plan.bounds.preemptions)
    × NoneWithin plan b (record plan.bounds { preemptions = preemptions })

-- the plan's bounds, with one event fewer than a schedule has that was found, and than the bounds of it
abbrev pub shorter : Plan → Bounds → List Event → Bounds
shorter plan bounds events = record plan.bounds { events = min (length events) bounds.events - 1 }

-- A schedule is as short as any within the plan's bounds: it has no event, or none of the shard with fewer fails.
abbrev pub IsShortest : Plan → BoardState → Bounds → Option (List Event) → Type 0
IsShortest plan b bounds (Some events) =
    (min (length events) bounds.events ≡ 0) ⊎ NoneWithin plan b (shorter plan bounds events)
IsShortest plan b bounds None = Unit {0}

-- the bounds of a schedule with fewer events than one that was found, which has some
abbrev pub IsFewer : Plan → Bounds → Option (List Event) → Bounds → Type 0
IsFewer plan bounds (Some events) few = (few ≡ shorter plan bounds events) × (few.events < bounds.events)
IsFewer plan bounds None few = ⊥

-- nothing was found, or no event is left
abbrev pub IsLeast : Bounds → Option (List Event) → Type 0
IsLeast bounds (Some events) = min (length events) bounds.events ≡ 0
IsLeast bounds None = Unit {0}
