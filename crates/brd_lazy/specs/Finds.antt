-- What visits to places have come to, before it is added to the places. (Contracts of private functions alone name
-- this.)
use Rattle.std.specs.Prelude.{◌≡◌, ℕ, ◌<◌, ◌≤◌, List, [], ◌∷◌, ◌++◌, replicate, slice_get, Option, Some, None}
use Rattle.brd_board.specs.declared.event.Event.{Event}
use Rattle.brd_board.specs.Board.{after}
use Rattle.brd_explore.specs.declared.wanted.Wanted.{Wanted}
use Rattle.brd_explore.specs.Schedules.{IsRicher, Place}
use Rattle.brd_frames.specs.Lagging.{Sharing}
use Rattle.brd_spots.specs.Spots.{spot_of, IsKnown}
use Rattle.brd_lazy.specs.declared.finds.Find.{Find}
use Rattle.brd_lazy.specs.declared.part.Part.{Part}
use Rattle.brd_lazy.specs.declared.twins.Twin.{Twin}
use Rattle.brd_lazy.specs.declared.round.Round.{Round}
use Rattle.brd_lazy.specs.declared.round.Round.TheVariants as round
use Rattle.brd_lazy.specs.Finding.{IsDone}

-- the place to which a find leads from another one
abbrev pub led_to : Find → Place → Place
led_to find p = spot_of (after p.board (replicate find.count find.event)) find.margin

-- the place that a find is, if that is there from which it comes
abbrev pub found_from : Find → Option Place → List Place
found_from find None = []
found_from find (Some p) = led_to find p ∷ []

abbrev pub found_of : List Place → List Find → List Place
found_of spots [] = []
found_of spots (find ∷ finds) = found_from find (slice_get spots find.from) ++ found_of spots finds

-- places, and those that finds from them are
abbrev pub with_finds : List Place → List Find → List Place
with_finds spots finds = spots ++ found_of spots finds

-- The places of some indices have been gone through, as others show.
abbrev pub AreGone : Sharing → List Event → Wanted → List Place → List Place → ℕ → ℕ → Type 0
AreGone by among wanted spots seen from upto =
    (at : ℕ) → from ≤ at → at < upto → (p : Place) → slice_get spots at ≡ Some p → IsDone by among wanted seen p

-- what visits to them came to
abbrev pub GoneSo : Sharing → List Event → Wanted → List Place → List Place → ℕ → ℕ → Round → Type 0
GoneSo by among wanted spots seen from upto round.Holds = AreGone by among wanted spots seen from upto
GoneSo by among wanted spots seen from upto _ = Unit {0}

abbrev pub PartSo : Sharing → List Event → Wanted → List Place → Part → Type 0
PartSo by among wanted spots part =
    GoneSo by among wanted spots (with_finds spots part.finds.items) part.from part.upto part.came

-- each of some finds is known among places
abbrev pub AreSettled : List Place → List Find → ℕ → List Place → Type 0
AreSettled early finds upto spots =
    (k : ℕ) → k < upto → (find : Find) (p : Place) → slice_get finds k ≡ Some find →
    slice_get early find.from ≡ Some p → IsKnown spots (led_to find p)

-- two finds are of one board: that of the first one is there if that of the other one is
abbrev pub LeadAlike : List Place → Find → Find → Type 0
LeadAlike spots one other =
    (p : Place) → slice_get spots other.from ≡ Some p →
    (q : Place) × (slice_get spots one.from ≡ Some q) × ((led_to one q).board ≡ (led_to other p).board)

-- a find covers another one
abbrev pub Covers : List Place → Find → Find → Type 0
Covers spots one other =
    (p : Place) → slice_get spots other.from ≡ Some p →
    (q : Place) × (slice_get spots one.from ≡ Some q) × IsRicher (led_to one q) (led_to other p)

-- an earlier find covers one
pub record IsTwin (spots : List Place) (finds : List Find) (twin : Twin) : Type 0 where
  pub earlier : twin.by < twin.at
  pub there : (f : Find) × (slice_get finds twin.by ≡ Some f)
      × ((g : Find) → slice_get finds twin.at ≡ Some g → Covers spots f g)
