-- What fails, and what a search has left. Only the contracts of private functions name the records of a search's state.
use Rattle.std.specs.Prelude.{◌≡◌, ◌⊎◌, ℕ, zero, suc, ◌+◌, ◌-◌, ◌*◌, ◌≤◌, ◌<◌, Bool, true, false, List, [], ◌∷◌, ◌++◌}
use Rattle.std.specs.Prelude.{length, take, drop, All, Option, Some, None}
use Rattle.brd_mem.specs.Memory.{size_of}
use Rattle.brd_board.specs.declared.event.Event.{Event}
use Rattle.brd_board.specs.Board.{BoardState}
use Rattle.brd_explore.specs.declared.wanted.Wanted.{Wanted}
use Rattle.brd_explore.specs.declared.search.Search.{Search}
use Rattle.brd_explore.specs.declared.search.Saved.{Saved}
use Rattle.brd_explore.specs.declared.search.Turn.{Turn}
use Rattle.brd_explore.specs.declared.search.Turn.TheVariants as turn
use Rattle.brd_explore.specs.declared.search.Halt.{Halt}
use Rattle.brd_explore.specs.declared.search.Halt.TheVariants as halt
use Rattle.brd_explore.specs.Schedules.{Place, does, is_left, next, place_after, IsAmong, IsWithin}
use Rattle.brd_explore.specs.Ordering.{event_tried}
use Rattle.brd_explore.specs.Failures.{fails_at}
use Rattle.brd_explore.specs.Sleeping.{Spot, next_spot, asleep_after, is_left_out}

-- At a place a schedule fails.
abbrev pub FailsAt : Wanted → Place → Type 0
FailsAt wanted p = fails_at wanted p.board p.left ≡ true

-- A schedule fails.
abbrev pub Fails : Wanted → Place → List Event → Type 0
Fails wanted p events = FailsAt wanted (place_after p events)

-- A schedule that was found: it is within the bounds, has no more events than they leave, and fails.
pub record IsFound (wanted : Wanted) (among : List Event) (from : Place) (events : List Event) : Type 0 where
  pub within : IsWithin among from events
  pub few : length events ≤ from.left.events
  pub fails : Fails wanted from events

-- no schedule from a place fails
abbrev pub NoneFails : Wanted → List Event → Place → Type 0
NoneFails wanted among p = (events : List Event) → IsWithin among p events → Fails wanted p events → ⊥

-- none that begins with an event that does something
abbrev pub NoneBegins : Wanted → List Event → Place → Event → Type 0
NoneBegins wanted among p event =
    does p.board event ≡ true → is_left p event ≡ true → NoneFails wanted among (next p event)

-- A list of events leads from a spot to a place, all of them within the bounds, and none left out.
abbrev pub LeadsAwake : Wanted → List Event → Spot → List Event → Place → Type 0
LeadsAwake wanted among spot [] to = spot.place ≡ to
LeadsAwake wanted among spot (event ∷ events) to =
    IsAmong among event × (is_left spot.place event ≡ true) × (does spot.place.board event ≡ true)
    × (is_left_out wanted spot event ≡ false) × LeadsAwake wanted among (next_spot spot event) events to

-- no schedule from a spot fails on which nothing is left out
abbrev pub NoneGoes : Wanted → List Event → Spot → Type 0
NoneGoes wanted among spot =
    (events : List Event) (to : Place) → LeadsAwake wanted among spot events to → FailsAt wanted to → ⊥

-- none that begins with an event that does something
abbrev pub NoneGoesBy : Wanted → List Event → Spot → Event → Type 0
NoneGoesBy wanted among spot event =
    does spot.place.board event ≡ true → is_left spot.place event ≡ true →
    is_left_out wanted spot event ≡ false → NoneGoes wanted among (next_spot spot event)

-- none that begins with one of the events from a position on
abbrev pub NoneGoesFrom : Wanted → List Event → Spot → ℕ → Type 0
NoneGoesFrom wanted among spot from =
    (k : ℕ) → from ≤ k → k < length among → NoneGoesBy wanted among spot (event_tried among spot.place.last k)

-- nothing is left for the events at these positions
abbrev pub IsTooMuch : List Event → Place → ℕ → ℕ → Type 0
IsTooMuch among p from to = (k : ℕ) → from ≤ k → k < to → is_left p (event_tried among p.last k) ≡ false

-- where a search is, and the places to which it goes back
abbrev pub place_of : Search → Place
place_of s = record { board = s.board; left = s.left; last = s.last }

abbrev pub spot_of : Search → Spot
spot_of s = record { place = place_of s; asleep = s.asleep }

abbrev pub place_of_saved : Saved → Place
place_of_saved s = record { board = s.board; left = s.left; last = s.last }

abbrev pub spot_of_saved : Saved → Spot
spot_of_saved s = record { place = place_of_saved s; asleep = s.asleep }

-- a search begins at a place
pub record Begins (from : Place) (s : Search) : Type 0 where
  pub place : place_of s ≡ from
  pub at : s.at ≡ 0
  pub fresh : s.fresh ≡ true
  pub path : s.path.items ≡ []
  pub saved : s.saved.items ≡ []
  pub awake : s.asleep ≡ None

-- what a search hasn't looked at yet from where it is doesn't fail
abbrev pub NoneHere : Wanted → List Event → Search → Type 0
NoneHere wanted among s = NoneGoesFrom wanted among (spot_of s) s.at

-- nor does it from the saved places, but for the first ones
pub record NoneLeftFrom (wanted : Wanted) (among : List Event) (height : ℕ) (s : Search) : Type 0 where
  pub here : NoneHere wanted among s
  pub saved : All (λ f. NoneGoesFrom wanted among (spot_of_saved f) f.at) (drop height s.saved.items)

abbrev pub NoneLeft : Wanted → List Event → Search → Type 0
NoneLeft wanted among s = NoneLeftFrom wanted among 0 s

-- a list of events leads from a place to another one, all of them within the bounds
abbrev pub Leads : List Event → Place → List Event → Place → Type 0
Leads among p [] to = p ≡ to
Leads among p (event ∷ events) to =
    IsAmong among event × (is_left p event ≡ true) × (does p.board event ≡ true) × Leads among (next p event) events to

-- Each saved place is on the path, one after the other, and none before this length.
abbrev pub AreOnPath : List Event → Place → List Event → ℕ → List Saved → Type 0
AreOnPath among from path len [] = len ≤ length path
AreOnPath among from path len (f ∷ fs) =
    (len ≤ f.len) × Leads among from (take f.len path) (place_of_saved f) × AreOnPath among from path f.len fs

-- The path of a search leads to where it is.
pub record IsOnPath (among : List Event) (from : Place) (s : Search) : Type 0 where
  pub here : Leads among from s.path.items (place_of s)
  pub saved : AreOnPath among from s.path.items 0 s.saved.items

-- boards of one size and order, which can be copied to each other
pub record AreAlike (a b : BoardState) : Type 0 where
  pub size : size_of a.memory ≡ size_of b.memory
  pub order : a.memory.order ≡ b.memory.order

pub record IsSized (s : Search) : Type 0 where
  pub saved : All (λ f. AreAlike f.board s.board) s.saved.items
  pub spare : All (λ b. AreAlike b s.board) s.spare.items

-- What a turn of a search has done.

-- The events at later positions are still to be tried at a place that was saved, or something is so of them.
abbrev pub KeepsOr : Type 0 → Search → ℕ → Search → Type 0
KeepsOr Else s at t =
    ((t.saved.items ≡ s.saved.items) × Else)
    ⊎ ((f : Saved) × (t.saved.items ≡ s.saved.items ++ f ∷ []) × (place_of_saved f ≡ place_of s) × (f.at ≡ at + 1)
    × (f.len ≡ length s.path.items) × (f.asleep ≡ s.asleep))

-- it has gone on by an event that did something
pub record HasGoneOr (Else : Type 0) (among : List Event) (s : Search) (n : ℕ) (t : Search) : Type 0 where
  pub did : does s.board (event_tried among s.last n) ≡ true
  pub place : place_of t ≡ next (place_of s) (event_tried among s.last n)
  pub asleep : t.asleep ≡ asleep_after s.board s.asleep (event_tried among s.last n)
  pub at : t.at ≡ 0
  pub fresh : t.fresh ≡ true
  pub path : t.path.items ≡ s.path.items ++ event_tried among s.last n ∷ []
  pub saved : KeepsOr Else s n t

-- it has stayed, since the event did nothing
pub record HasStayed (among : List Event) (s : Search) (n : ℕ) (t : Search) : Type 0 where
  pub did : does s.board (event_tried among s.last n) ≡ false
  pub place : place_of t ≡ place_of s
  pub asleep : t.asleep ≡ s.asleep
  pub at : t.at ≡ n + 1
  pub fresh : t.fresh ≡ s.fresh
  pub path : t.path.items ≡ s.path.items
  pub saved : t.saved.items ≡ s.saved.items

-- it has stayed, and left the event out
pub record HasPassed (s : Search) (n : ℕ) (t : Search) : Type 0 where
  pub place : place_of t ≡ place_of s
  pub asleep : t.asleep ≡ s.asleep
  pub at : t.at ≡ n + 1
  pub fresh : t.fresh ≡ false
  pub path : t.path.items ≡ s.path.items
  pub saved : t.saved.items ≡ s.saved.items

abbrev pub TriesOr : Type 0 → List Event → Search → ℕ → Search → Bool → Type 0
TriesOr Else among s at t true = HasGoneOr Else among s at t
TriesOr Else among s at t false = HasStayed among s at t

-- nothing is left for the events at later positions, if the place wasn't saved
abbrev pub HasGone : List Event → Search → ℕ → Search → Type 0
HasGone among s at t = HasGoneOr (IsTooMuch among (place_of s) (at + 1) (length among)) among s at t

abbrev pub Tries : List Event → Search → ℕ → Search → Bool → Type 0
Tries among s at t done = TriesOr (IsTooMuch among (place_of s) (at + 1) (length among)) among s at t done

-- it has gone back to the place that was saved last
pub record HasGoneBack (s t : Search) : Type 0 where
  pub f : Saved
  pub saved : s.saved.items ≡ t.saved.items ++ f ∷ []
  pub place : place_of t ≡ place_of_saved f
  pub asleep : t.asleep ≡ f.asleep
  pub at : t.at ≡ f.at
  pub fresh : t.fresh ≡ false
  pub path : t.path.items ≡ take f.len s.path.items

-- what a search that goes on leaves out doesn't fail; where nothing is left nothing fails
abbrev pub LeavesOut : Wanted → List Event → Search → Search → Turn → Type 0
LeavesOut wanted among s t turn.On = NoneLeft wanted among t → NoneLeft wanted among s
LeavesOut wanted among s t turn.Found = Unit {0}
LeavesOut wanted among s t turn.Over = NoneLeft wanted among s

-- the path of a search that goes on is one from where it began; one that was found fails
abbrev pub LeadsOn : Wanted → List Event → Place → Search → Turn → Type 0
LeadsOn wanted among from t turn.On = IsOnPath among from t
LeadsOn wanted among from t turn.Found = IsFound wanted among from t.path.items
LeadsOn wanted among from t turn.Over = Unit {0}

-- whether it has gone back; if not, there is nothing to go back to
abbrev pub GoesBack : Search → Search → Bool → Type 0
GoesBack s t true = HasGoneBack s t
GoesBack s t false = s.saved.items ≡ []

-- nothing but spare boards differs
pub record IsSame (s t : Search) : Type 0 where
  pub place : place_of t ≡ place_of s
  pub asleep : t.asleep ≡ s.asleep
  pub at : t.at ≡ s.at
  pub fresh : t.fresh ≡ s.fresh
  pub path : t.path.items ≡ s.path.items
  pub saved : t.saved.items ≡ s.saved.items

-- the place after an event that has done something, or the same one
abbrev pub Takes : Search → Event → Search → Bool → Type 0
Takes s event t true =
    (does s.board event ≡ true) × (place_of t ≡ next (place_of s) event) × (t.at ≡ 0) × (t.fresh ≡ true)
    × (t.path.items ≡ s.path.items ++ event ∷ []) × (t.asleep ≡ asleep_after s.board s.asleep event)
Takes s event t false =
    (does s.board event ≡ false) × (place_of t ≡ place_of s) × (t.at ≡ s.at) × (t.fresh ≡ s.fresh)
    × (t.path.items ≡ s.path.items) × (t.asleep ≡ s.asleep)

-- How many turns a search takes at most from a place for which so many events are left, of n that may come, and of
-- which the first ones have been tried: one to go back, and for each event one to try it, and those from the place
-- after it.
abbrev pub most_turns : ℕ → ℕ → ℕ → ℕ
most_turns n zero tried = 1
most_turns n (suc left) tried = 1 + (n - tried) * (1 + most_turns n left 0)

abbrev pub most_saved : ℕ → List Saved → ℕ
most_saved n [] = 0
most_saved n (f ∷ fs) = most_turns n f.left.events f.at + most_saved n fs

abbrev pub turns_left : List Event → Search → ℕ
turns_left among s = most_turns (length among) s.left.events s.at + most_saved (length among) s.saved.items

-- a search that goes on has fewer turns left
abbrev pub HasLess : List Event → Search → Search → Turn → Type 0
HasLess among s t turn.On = turns_left among t < turns_left among s
HasLess among s t turn.Found = Unit {0}
HasLess among s t turn.Over = Unit {0}

-- how a search ends that has found a schedule, and one that hasn't
abbrev pub ended_by : Bool → Turn
ended_by true = turn.Found
ended_by false = turn.Over

-- What a search answers is so: the schedule is one that was found, or no schedule within the bounds fails.
abbrev pub Answers : Wanted → List Event → Place → Option (List Event) → Type 0
Answers wanted among from (Some events) = IsFound wanted among from events
Answers wanted among from None = NoneFails wanted among from

-- Why a search has come to no answer is so: it was stopped only by who may stop it.
abbrev pub HaltsSo : Bool → Halt → Type 0
HaltsSo may halt.NoMemory = Unit {0}
HaltsSo may halt.Stopped = may ≡ true

-- which answer follows from what a search came to
abbrev pub Finds : Search → Bool → Option (List Event) → Type 0
Finds s true found = found ≡ Some s.path.items
Finds s false found = found ≡ None
