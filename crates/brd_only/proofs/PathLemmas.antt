-- Lists of events that are played event by event, and keep to the regions.
use Rattle.std.proofs.Common.{◌≡◌, ℕ, ◌+◌, ◌<◌, true, List, [], ◌∷◌, ◌++◌, length, sym, subst}
use Rattle.std.specs.Prelude.{if◌then◌else◌, take, get_or}
use Rattle.brd_board.specs.declared.event.Event.{Event}
use Rattle.brd_explore.specs.Schedules.{Place, next, place_after}
use Rattle.brd_spots.specs.Playing.{IsPlayed}
use Rattle.brd_spots.proofs.PlayLemmas as play
use Rattle.brd_only.specs.declared.region.Regions.{Regions}
use Rattle.brd_only.specs.Only.{keeps_to, KeepsInside}

-- One list after the other.
keeps-then : (regions : Regions) (p : Place) (es more : List Event) → KeepsInside regions p es →
    KeepsInside regions (place_after p es) more → KeepsInside regions p (es ++ more)
keeps-then regions p [] more first second = second
keeps-then regions p (e ∷ es) more first second = (
  (λ did. (
    (first.0 did).0,
    keeps-then regions (next p e) es more (first.0 did).1
        (subst (λ test. KeepsInside regions (if test then place_after (next p e) es else place_after p es) more) did
        second),
  )),
  (λ none. keeps-then regions p es more (first.1 none)
      (subst (λ test. KeepsInside regions (if test then place_after (next p e) es else place_after p es) more) none
      second)),
)

-- A schedule that is played, and keeps to the regions so far.
pub record HasKept (among : List Event) (regions : Regions) (from : Place) (events : List Event) (upto : ℕ)
    (p : Place) : Type 0 where
  pub played : play.HasPlayed among from events upto p
  pub keeps : KeepsInside regions from (take upto events)

pub kept-on : (among : List Event) (regions : Regions) (from p to : Place) (events : List Event) (upto : ℕ)
    (event : Event) → upto < length events → get_or events upto event ≡ event →
    HasKept among regions from events upto p → keeps_to regions p.board p.last event ≡ true →
    IsPlayed among p event to → HasKept among regions from events (upto + 1) to
kept-on among regions from p to events upto event less here it inside one = record {
  played = play.played-on among from p to events upto event less here it.played one;
  keeps = subst (KeepsInside regions from) (sym (play.take-next events upto event less here))
      (keeps-then regions from (take upto events) (event ∷ []) it.keeps
      (subst (λ q. KeepsInside regions q (event ∷ [])) (sym it.played.is) ((λ did. (inside, tt)), (λ none. tt))));
}
