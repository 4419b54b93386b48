-- What a search has done. (Contracts of private functions alone name this.)
use Rattle.std.specs.Prelude.{◌≡◌, ℕ, zero, suc, ◌<◌, ◌≤◌, Bool, true, false, ◌&&◌, List, length, replicate}
use Rattle.std.specs.Prelude.{slice_get, Option, Some, None}
use Rattle.brd_board.specs.declared.event.Event.{Event}
use Rattle.brd_board.specs.Board.{BoardState, after}
use Rattle.brd_explore.specs.declared.wanted.Wanted.{Wanted}
use Rattle.brd_explore.specs.Schedules.{Place, does, is_left, next, event_at}
use Rattle.brd_explore.specs.Failures.{fails_at}
use Rattle.brd_spots.specs.Spots.{spot_of, IsKnown}
use Rattle.brd_only.specs.declared.region.Regions.{Regions}
use Rattle.brd_only.specs.Only.{keeps_to}
use Rattle.brd_only.specs.declared.walk.Walk.{Walk}
use Rattle.brd_only.specs.declared.visit.Visited.{Visited}
use Rattle.brd_only.specs.declared.visit.Visited.TheVariants as visited
use Rattle.brd_only.specs.declared.finding.Round.{Round}
use Rattle.brd_only.specs.declared.finding.Round.TheVariants as round

-- What comes next.

-- something is left for an event, and it keeps to the regions
abbrev pub may_go : Regions → Place → Event → Bool
may_go regions p event = is_left p event && keeps_to regions p.board p.last event

-- no other event may come at a place than this one
abbrev pub IsAlone : List Event → Regions → Place → Event → Type 0
IsAlone among regions p event =
    (k : ℕ) → k < length among → may_go regions p (event_at among k) ≡ true → event_at among k ≡ event

-- After so many events, whatever they are that may come and do something, a place is known, and none fails before.
abbrev pub HeldBy : List Event → Regions → Wanted → List Place → ℕ → Place → Type 0
HeldBy among regions wanted spots zero p = IsKnown spots p
HeldBy among regions wanted spots (suc n) p =
    (fails_at wanted p.board p.left ≡ false)
    × ((k : ℕ) → k < length among → may_go regions p (event_at among k) ≡ true →
    does p.board (event_at among k) ≡ true → HeldBy among regions wanted spots n (next p (event_at among k)))

abbrev pub IsHeld : List Event → Regions → Wanted → List Place → Place → Type 0
IsHeld among regions wanted spots p = (n : ℕ) × HeldBy among regions wanted spots n p

-- the first of the events lead to places that are held, if they may come and do something
abbrev pub HaveGone : List Event → Regions → Wanted → List Place → Place → ℕ → Type 0
HaveGone among regions wanted spots p upto =
    (k : ℕ) → k < upto → may_go regions p (event_at among k) ≡ true → does p.board (event_at among k) ≡ true →
    IsHeld among regions wanted spots (next p (event_at among k))

-- A place has been gone through: it doesn't fail, and all events have been tried there.
pub record IsDone (among : List Event) (regions : Regions) (wanted : Wanted) (spots : List Place) (p : Place) :
    Type 0 where
  pub holds : fails_at wanted p.board p.left ≡ false
  pub gone : HaveGone among regions wanted spots p (length among)

-- Walks.

-- So many times the same event led from a place to another one; where that is held, the first one is.
pub record HasWalked (among : List Event) (regions : Regions) (wanted : Wanted) (from : Place) (event : Event)
    (to : Place) (count : ℕ) : Type 0 where
  pub board : to.board ≡ after from.board (replicate count event)
  pub held : (spots : List Place) → IsHeld among regions wanted spots to → IsHeld among regions wanted spots from
  pub few : count ≤ 10000

-- what a walk came to: a place; or nothing comes behind it
abbrev pub WalkedSo : List Event → Regions → Wanted → Place → Event → BoardState → Option Walk → Type 0
WalkedSo among regions wanted from event b None =
    (spots : List Place) → IsHeld among regions wanted spots from
WalkedSo among regions wanted from event b (Some walk) =
    HasWalked among regions wanted from event (spot_of b walk.margin) walk.count

-- What was done.

-- what a visit came to
abbrev pub VisitedSo : List Event → Regions → Wanted → List Place → Place → Visited → Type 0
VisitedSo among regions wanted spots p visited.Done = IsDone among regions wanted spots p
VisitedSo among regions wanted spots p visited.Fails = Unit {0}
VisitedSo among regions wanted spots p visited.Lost = Unit {0}

-- the first places have been gone through
abbrev pub AreDone : List Event → Regions → Wanted → List Place → ℕ → Type 0
AreDone among regions wanted spots upto =
    (at : ℕ) → at < upto → (p : Place) → slice_get spots at ≡ Some p → IsDone among regions wanted spots p

-- what a round came to
abbrev pub RoundSo : List Event → Regions → Wanted → List Place → Round → Type 0
RoundSo among regions wanted spots round.Holds = AreDone among regions wanted spots (length spots)
RoundSo among regions wanted spots (round.Fails at) = Unit {0}
RoundSo among regions wanted spots (round.Unknown why) = Unit {0}
