-- Where a search for another end finds none, no schedule comes to one.
use Rattle.std.proofs.Common.{◌≡◌, ℕ, Bool, true, false, List, not, refl, sym, subst}
use Rattle.std.specs.Prelude.{◌&&◌, ◌||◌}
use Rattle.std.specs.List.{list_any}
use Rattle.std.proofs.lemmas.Bool.{false≢true}
use Rattle.brd_board.specs.declared.event.Event.{Event}
use Rattle.brd_board.specs.Board.{BoardState}
use Rattle.brd_explore.specs.declared.bounds.Bounds.{Bounds}
use Rattle.brd_explore.specs.declared.wanted.Ending.{Ending}
use Rattle.brd_explore.specs.declared.wanted.Wanted.{Wanted}
use Rattle.brd_explore.specs.Failures.{fails_at, fails_at_last, fails_by_now, fails_now, goes_fairly, is_end, is_ending}
use Rattle.brd_explore.specs.Schedules.{Place, place_after, start}
use Rattle.brd_explore.specs.Searching.{NoneFails}
use Rattle.brd_link.specs.LinkSet.{IsLinkSet}
use Rattle.brd_places.specs.declared.left.Left.{Left}
use Rattle.brd_reach.specs.Reaching.{ReachedSo, bounds_of}
use Rattle.brd_reach.specs.Endless.{AreAll, no_other}
use Rattle.brd_reach.proofs.endless.show_all.Goals as goal

listed-so : (ends has : Bool) → ends ≡ true → (((ends && (not has || false)) || false) ≡ true → ⊥) → has ≡ true
listed-so true true is contrary = refl
listed-so true false is contrary = absurd (contrary refl)
listed-so false has is contrary = absurd (false≢true is)

is-listed : (words : List ℕ) (finals : List Ending) (b : BoardState) (left : Bounds) → (fails_at (no_other words finals) b left ≡ true → ⊥) →
    is_end b left ≡ true → list_any (is_ending b words) finals ≡ true
unfolding fails_at fails_now fails_by_now fails_at_last goes_fairly
is-listed words finals b left none ends = listed-so (is_end b left) (list_any (is_ending b words) finals) ends none

all-listed : (wanted : Wanted) (words : List ℕ) (finals : List Ending) (b : BoardState) (left : Left) (among : List Event) →
    wanted ≡ no_other words finals →
    (IsLinkSet b.links → (events preemptions : ℕ) → NoneFails wanted among (start b (bounds_of left events preemptions))) →
    AreAll words finals b left among
all-listed wanted words finals b left among is none set events preemptions es within =
    let p : Place = place_after (start b (bounds_of left events preemptions)) es in
    is-listed words finals p.board p.left (λ fails. none set events preemptions es within
    (subst (λ w. fails_at w p.board p.left ≡ true) (sym is) fails))

pub returns-in-Holds : goal.returns-in-Holds
returns-in-Holds c = λ _.
    all-listed c.in_ok-wanted.wanted c.args.words c.args.finals c.args.start.now c.args.left c.args.among.now c.in_ok-wanted.ensures
    (subst (ReachedSo c.args.start.now c.args.left c.args.among.now c.in_ok-wanted.wanted) c.in-Holds.is c.in_ok-reach.ensures)
