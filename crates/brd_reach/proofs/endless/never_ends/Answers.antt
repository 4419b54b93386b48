-- Where a search for an end finds none, no schedule comes to one.
use Rattle.std.proofs.Common.{◌≡◌, ℕ, Bool, true, false, List, refl, sym, subst}
use Rattle.std.specs.Prelude.{◌&&◌, ◌||◌}
use Rattle.std.proofs.lemmas.Bool.{false≢true}
use Rattle.brd_board.specs.declared.event.Event.{Event}
use Rattle.brd_board.specs.Board.{BoardState}
use Rattle.brd_explore.specs.declared.bounds.Bounds.{Bounds}
use Rattle.brd_explore.specs.declared.wanted.Wanted.{Wanted}
use Rattle.brd_explore.specs.Failures.{fails_at, fails_at_last, fails_by_now, fails_now, goes_fairly, is_end}
use Rattle.brd_explore.specs.Schedules.{Place, place_after, start}
use Rattle.brd_explore.specs.Searching.{NoneFails}
use Rattle.brd_link.specs.LinkSet.{IsLinkSet}
use Rattle.brd_places.specs.declared.left.Left.{Left}
use Rattle.brd_reach.specs.Reaching.{ReachedSo, bounds_of}
use Rattle.brd_reach.specs.Endless.{NeverEnds, no_end}
use Rattle.brd_reach.proofs.endless.never_ends.Goals as goal

not-true : (it : Bool) → (it ≡ true → ⊥) → it ≡ false
not-true true contrary = absurd (contrary refl)
not-true false contrary = refl

end-so : (ends : Bool) → ends ≡ true → ((ends && true) || false) ≡ true
end-so true is = refl
end-so false is = absurd (false≢true is)

end-fails : (b : BoardState) (left : Bounds) → is_end b left ≡ true → fails_at no_end b left ≡ true
unfolding fails_at fails_now fails_by_now fails_at_last goes_fairly
end-fails b left is = end-so (is_end b left) is

never : (wanted : Wanted) (b : BoardState) (left : Left) (among : List Event) → wanted ≡ no_end →
    (IsLinkSet b.links → (events preemptions : ℕ) → NoneFails wanted among (start b (bounds_of left events preemptions))) →
    NeverEnds b left among
never wanted b left among is none set events preemptions es within =
    let p : Place = place_after (start b (bounds_of left events preemptions)) es in
    not-true (is_end p.board p.left) (λ ends. none set events preemptions es within
    (subst (λ w. fails_at w p.board p.left ≡ true) (sym is) (end-fails p.board p.left ends)))

pub returns-in-Holds : goal.returns-in-Holds
returns-in-Holds c = λ _.
    never c.in_ok-wanted.wanted c.args.start.now c.args.left c.args.among.now c.in_ok-wanted.ensures
    (subst (ReachedSo c.args.start.now c.args.left c.args.among.now c.in_ok-wanted.wanted) c.in-Holds.is c.in_ok-reach.ensures)
