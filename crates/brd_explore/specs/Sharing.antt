-- What the search of a shard does before a schedule is dealt out. (Contracts of private functions alone name this.)
use Rattle.std.specs.Prelude.{◌≡◌, ℕ, ◌+◌, ◌%◌, ◌==◌, ◌≤◌, ◌<◌, Bool, true, false, not, ◌&&◌, ◌||◌, List, [], ◌∷◌}
use Rattle.std.specs.Prelude.{length, All}
use Rattle.brd_board.specs.declared.event.Event.{Event}
use Rattle.brd_explore.specs.declared.bounds.Bounds.{Bounds}
use Rattle.brd_explore.specs.declared.search.Search.{Search}
use Rattle.brd_explore.specs.declared.search.Turn.{Turn}
use Rattle.brd_explore.specs.declared.search.Turn.TheVariants as turn
use Rattle.brd_explore.specs.declared.shard.Deal.{Deal}
use Rattle.brd_explore.specs.declared.wanted.Wanted.{Wanted}
use Rattle.brd_explore.specs.Schedules.{Place, does, is_left, next}
use Rattle.brd_explore.specs.Ordering.{event_tried}
use Rattle.brd_explore.specs.Searching.{FailsAt, IsFound, IsOnPath, IsSame, LeadsAwake, NoneGoes, TriesOr}
use Rattle.brd_explore.specs.Searching.{place_of, spot_of, spot_of_saved}
use Rattle.brd_explore.specs.Shards.{is_dealt, IsInShard}
use Rattle.brd_explore.specs.Sleeping.{Spot, is_left_out, next_spot}

-- an event may come at a place: something is left for it, and it does something
abbrev pub may_come : Place → Event → Bool
may_come p event = is_left p event && does p.board event

-- who has so much left of the bounds after an event is dealt to nobody yet, or to the shard
abbrev pub goes_in : Deal → Bounds → Bool
goes_in deal left = not (is_dealt deal.least left) || left.events % deal.shard.of == deal.shard.number

-- something is left for an event, and it deals the schedule to no other shard
abbrev pub is_choice : Deal → Place → Event → Bool
is_choice deal p event = is_left p event && goes_in deal (next p event).left

-- the events at these positions are none to choose
abbrev pub AreOthers : Deal → List Event → Place → ℕ → ℕ → Type 0
AreOthers deal among p from to = (k : ℕ) → from ≤ k → k < to → is_choice deal p (event_tried among p.last k) ≡ false

-- no schedule of the shard from a spot fails on which nothing is left out
abbrev pub NoneDealt : Wanted → Deal → List Event → Spot → Type 0
NoneDealt wanted deal among spot =
    (events : List Event) (to : Place) → LeadsAwake wanted among spot events to →
    IsInShard deal.shard deal.least spot.place events → FailsAt wanted to → ⊥

-- none that begins with an event that does something
abbrev pub NoneDealtBy : Wanted → Deal → List Event → Spot → Event → Type 0
NoneDealtBy wanted deal among spot event =
    does spot.place.board event ≡ true → is_left spot.place event ≡ true →
    is_left_out wanted spot event ≡ false → (events : List Event) (to : Place) →
    LeadsAwake wanted among (next_spot spot event) events to →
    IsInShard deal.shard deal.least spot.place (event ∷ events) → FailsAt wanted to → ⊥

-- none that begins with one of the events from a position on
abbrev pub NoneDealtFrom : Wanted → Deal → List Event → Spot → ℕ → Type 0
NoneDealtFrom wanted deal among spot from =
    (k : ℕ) → from ≤ k → k < length among → NoneDealtBy wanted deal among spot (event_tried among spot.place.last k)

-- What a search hasn't looked at yet doesn't fail: neither from where it is nor from the places that it goes back to.
pub record NoneLeftIn (wanted : Wanted) (deal : Deal) (among : List Event) (s : Search) : Type 0 where
  pub here : NoneDealtFrom wanted deal among (spot_of s) s.at
  pub saved : All (λ f. NoneDealtFrom wanted deal among (spot_of_saved f) f.at) s.saved.items

-- what a search that goes on leaves out doesn't fail
abbrev pub LeavesOutIn : Wanted → Deal → List Event → Search → Search → Turn → Type 0
LeavesOutIn wanted deal among s t turn.On = NoneLeftIn wanted deal among t → NoneLeftIn wanted deal among s
LeavesOutIn wanted deal among s t turn.Found = Unit {0}
LeavesOutIn wanted deal among s t turn.Over = NoneLeftIn wanted deal among s

-- it has tried an event, and saved the place if there is another one to choose
abbrev pub TriesIn : Deal → List Event → Search → ℕ → Search → Bool → Type 0
TriesIn deal among s at t done =
    TriesOr (AreOthers deal among (place_of s) (at + 1) (length among)) among s at t done

-- the path of a search is a schedule that was found, from wherever it leads
abbrev pub PathFails : Wanted → List Event → Search → Search → Type 0
PathFails wanted among s t = (from : Place) → IsOnPath among from s → IsFound wanted among from t.path.items

-- a search begins where it is: nothing was tried there, and there is no place to go back to
pub record BeginsHere (s : Search) : Type 0 where
  pub at : s.at ≡ 0
  pub fresh : s.fresh ≡ true
  pub saved : s.saved.items ≡ []

-- what a search that begins here came to
abbrev pub SearchesFrom : Wanted → List Event → Search → Search → Bool → Type 0
SearchesFrom wanted among s t true = PathFails wanted among s t
SearchesFrom wanted among s t false = NoneGoes wanted among (spot_of s)

-- what the search of all schedules from a place came to, apart from the search of the shard
abbrev pub SearchesAll : Wanted → List Event → Search → Search → Bool → Type 0
SearchesAll wanted among s t true = PathFails wanted among s t
SearchesAll wanted among s t false = IsSame s t × NoneGoes wanted among (spot_of s)
