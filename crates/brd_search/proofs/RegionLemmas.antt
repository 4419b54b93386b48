-- Searches by the schedules that keep to regions, and by those that need not.
use Rattle.std.proofs.Common.{◌≡◌, ℕ, List, [], ◌∷◌, length, refl, sym, ap, subst, Vec, Global}
use Rattle.std.specs.Prelude.{◌==◌, ◌||◌, true, option_map, Option, Some, None, Result, Ok, Err, IfOk}
use Rattle.std.proofs.lemmas.Bool.{and_parts}
use Rattle.brd_board.specs.declared.event.Event.{Event}
use Rattle.brd_board.specs.declared.event.Event.TheVariants.{Step, Tick, Raise}
use Rattle.brd_board.specs.Board.{BoardState}
use Rattle.brd_explore.specs.declared.bounds.Bounds.{Bounds}
use Rattle.brd_explore.specs.Schedules.{Place, next, start}
use Rattle.brd_only.specs.declared.region.Regions.{Regions}
use Rattle.brd_only.specs.Only.{IsFoundInside, KeepsInside, are_none, keeps_to, leaves_inside, some_are_inside}
use Rattle.brd_search.specs.Searches.{AnswersWhole, AnswersWithin, NoneIn}
use Rattle.brd_search.specs.declared.plan.Plan.{Plan}
use Rattle.brd_search.specs.declared.searching.Searched.{Searched}

-- what was found inside
pub found-in : (plan : Plan) (b : BoardState) (bounds : Bounds) (events : List Event) →
    IsFoundInside plan.wanted plan.among plan.regions (start b bounds) events → AnswersWithin plan b bounds (Some events)
found-in plan b bounds events it = record { found = it.found; keeps = it.keeps }

-- Where there are no regions, every schedule keeps to them.

keeps-event : (regions : Regions) (b : BoardState) (last : Option ℕ) (event : Event) → are_none regions ≡ true →
    keeps_to regions b last event ≡ true
keeps-event regions b last (Step cpu) none =
    ap (λ t. t || leaves_inside regions.switches b last cpu)
    (and_parts (length regions.switches == 0) (length regions.raises == 0) none).0
keeps-event regions b last Tick none = refl
keeps-event regions b last (Raise line) none =
    ap (λ t. t || some_are_inside regions.raises b) (and_parts (length regions.switches == 0) (length regions.raises == 0) none).1

keeps-all : (regions : Regions) (p : Place) (events : List Event) → are_none regions ≡ true → KeepsInside regions p events
keeps-all regions p [] none = tt
keeps-all regions p (event ∷ events) none = (
  (λ did. (keeps-event regions p.board p.last event none, keeps-all regions (next p event) events none)),
  (λ not. keeps-all regions p events none),
)

-- where there are no regions, an answer that knows of none is one
whole-one : (plan : Plan) (b : BoardState) (bounds : Bounds) (schedule : Option (List Event)) → are_none plan.regions ≡ true →
    AnswersWhole plan b bounds schedule → AnswersWithin plan b bounds schedule
whole-one plan b bounds None none it = subst (λ anywhere. NoneIn anywhere plan b bounds) (sym none) it
whole-one plan b bounds (Some events) none it = record { found = it; keeps = keeps-all plan.regions (start b bounds) events none }

pub whole-answers : {E : Type 0} (plan : Plan) (b : BoardState) (bounds : Bounds) (result : Result Searched E) →
    are_none plan.regions ≡ true →
    IfOk result (λ found. AnswersWhole plan b bounds (option_map (λ (v : Vec Event Global). v.items) found.schedule)) →
    IfOk result (λ found. AnswersWithin plan b bounds (option_map (λ (v : Vec Event Global). v.items) found.schedule))
whole-answers plan b bounds (Err why) none it = tt
whole-answers plan b bounds (Ok found) none it =
    whole-one plan b bounds (option_map (λ (v : Vec Event Global). v.items) found.schedule) none it
