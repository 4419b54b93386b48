-- Whether a schedule comes to an end, and what the console and some words are there.
use Rattle.std.specs.Prelude.{◌≡◌, ℕ, ◌-◌, true, false, List, [], ◌∷◌}
use Rattle.std.specs.List.{fold, list_any}
use Rattle.brd_board.specs.declared.event.Event.{Event}
use Rattle.brd_board.specs.declared.event.Event.TheVariants.{Step, Tick, Raise}
use Rattle.brd_board.specs.Board.{BoardState}
use Rattle.brd_explore.specs.Failures.{is_end, is_ending}
use Rattle.brd_explore.specs.Schedules.{IsWithin, Place, place_after, start}
use Rattle.brd_explore.specs.declared.wanted.Ending.{Ending}
use Rattle.brd_explore.specs.declared.wanted.Failure.TheVariants as failure
use Rattle.brd_explore.specs.declared.wanted.Wanted.{Wanted}
use Rattle.brd_link.specs.LinkSet.{IsLinkSet}
use Rattle.brd_places.specs.declared.left.Left.{Left}
use Rattle.brd_reach.specs.Reaching.{bounds_of}

-- what is left after an event: a tick and a raise each take one
abbrev pub rest_after : Left → Event → Left
rest_after left (Step cpu) = left
rest_after left Tick = record left { ticks = left.ticks - 1 }
rest_after left (Raise line) = record left { raises = left.raises - 1; owed = left.owed - 1 }

abbrev pub rest_of : Left → List Event → Left
rest_of left events = fold rest_after left events

-- a schedule hasn't come to an end where it has led to
abbrev pub GoesOn : Place → Type 0
GoesOn p = is_end p.board p.left ≡ false

-- No schedule from a board, whose links are a set, as those of every board are, comes to an end that has no more ticks
-- and raises than so many, however many events and preemptions it has.
abbrev pub NeverEnds : BoardState → Left → List Event → Type 0
NeverEnds b left among =
    IsLinkSet b.links → (events preemptions : ℕ) (es : List Event) →
    IsWithin among (start b (bounds_of left events preemptions)) es →
    GoesOn (place_after (start b (bounds_of left events preemptions)) es)

-- where a schedule comes to an end the console and the words at some addresses are those of one of these ends
abbrev pub IsListed : List ℕ → List Ending → Place → Type 0
IsListed words finals p = is_end p.board p.left ≡ true → list_any (is_ending p.board words) finals ≡ true

-- That is so of each schedule from a board, whose links are a set, that has no more ticks and raises than so many,
-- however many events and preemptions it has.
abbrev pub AreAll : List ℕ → List Ending → BoardState → Left → List Event → Type 0
AreAll words finals b left among =
    IsLinkSet b.links → (events preemptions : ℕ) (es : List Event) →
    IsWithin among (start b (bounds_of left events preemptions)) es →
    IsListed words finals (place_after (start b (bounds_of left events preemptions)) es)

-- that there is another end than some is not to happen (private contracts alone name this)
abbrev pub no_other : List ℕ → List Ending → Wanted
no_other words finals = record { failures = failure.Unlisted words finals ∷ []; round = []; rounds = 0 }

-- that there is an end is not to happen (private contracts alone name this)
abbrev pub no_end : Wanted
no_end = record { failures = failure.Ended ∷ []; round = []; rounds = 0 }
