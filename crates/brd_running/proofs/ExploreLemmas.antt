-- A search of what was read.
use Rattle.std.proofs.Common.{◌≡◌, ℕ, ◌<◌, ◌≤◌, true, false, List, [], length, refl, sym, ap, inl, inr, subst, arith, ◌∙◌}
use Rattle.std.specs.Prelude.{◌==◌, ◌&&◌, ◌||◌, Bool, not, Option, Some, None, is_some, IfSome, Result, Ok, Err, MatchResult, option_map}
use Rattle.brd_board.specs.declared.event.Event.{Event}
use Rattle.brd_explore.specs.declared.bounds.Bounds.{Bounds}
use Rattle.brd_image.specs.declared.building.Loaded.{Loaded}
use Rattle.brd_inputs.specs.Start.{IsLoaded}
use Rattle.brd_inputs.specs.declared.fault.CommandFault.{CommandFault}
use Rattle.brd_only.specs.declared.region.Region.{Region}
use Rattle.brd_only.specs.declared.region.Regions.{Regions}
use Rattle.brd_only.specs.Only.{are_none}
use Rattle.brd_search.specs.Plans.{IsPlan, has_regions, regions_of, text_of}
use Rattle.brd_search.specs.Searches.{Answers, IsFewest, IsShortest, StopsSo}
use Rattle.brd_search.specs.declared.searching.NoAnswer.{NoAnswer}
use Rattle.brd_search.specs.declared.searching.NoAnswer.TheVariants as no_answer
use Rattle.std.proofs.lemmas.Bool.Decides.{nat_tests}
use Rattle.std.proofs.lemmas.Bool.{cases_Bool, false≢true}
use Rattle.brd_search.specs.Shown.{shown}
use Rattle.brd_search.specs.declared.options.SearchOptions.{SearchOptions}
use Rattle.brd_search.specs.declared.plan.Plan.{Plan}
use Rattle.brd_threads.specs.Processors.{processors_of}
use Rattle.brd_board.specs.Board.{BoardState}
use Rattle.brd_mem.specs.declared.image.Symbol.{Symbol}
use Rattle.brd_places.specs.declared.left.Left.{Left}
use Rattle.brd_reach.specs.Reaching.{ReachedSo}
use Rattle.brd_reach.specs.declared.searching.Reached.TheVariants as reached
use Rattle.brd_running.specs.ExploreCommand.{IsExplored, IsReached, IsTold, IsUnknown, IsUntoldOfAll, KeepsFromExploring}
use Rattle.brd_reach.specs.declared.unknown.Unknown.{Unknown}
use Rattle.brd_reach.specs.declared.unknown.Unknown.TheVariants as unknown
use Rattle.brd_running.specs.ExploreCommand.{KeepsFromSearching, Tells, left_by, lazy_fault_of, no_answer_of}
use Rattle.brd_running.specs.Saving.{IsOfJournal}
use Rattle.brd_running.specs.declared.explore_command.Told.{Told}
use Rattle.brd_running.proofs.SavingLemmas.{of_search}

-- both were read, and make this
abbrev pub Loads : Loaded → Option (List ℕ) → Option (List ℕ) → Type 0
Loads loaded image config = IfSome image (λ i. IfSome config (λ c. IsLoaded i c loaded))

module _ (options : SearchOptions) (loaded : Loaded) where
  pub ended : (image config : Option (List ℕ)) (result : Result Told CommandFault) → Loads loaded image config
      → MatchResult result
      (λ told. IsTold options loaded told.text.items (option_map (λ text. text.items) told.journal))
      (KeepsFromSearching options loaded)
      → IfSome image (λ i. IfSome config (λ c. MatchResult result
      (λ told. IsExplored options i c told.text.items (option_map (λ text. text.items) told.journal))
      (KeepsFromExploring options i c)))
  ended None config result loads told = tt
  ended (Some i) None result loads told = tt
  ended (Some i) (Some c) (Ok it) loads told = record { loaded = loaded; loads = loads; told = told }
  ended (Some i) (Some c) (Err fault) loads keeps = inr (record { loaded = loaded; loads = loads; keeps = keeps })

-- what is told of a schedule that was found, or why it isn't
pub told_found : (options : SearchOptions) (loaded : Loaded) (plan : Plan) (bounds : Bounds) (events : List Event)
    (result : Result Told CommandFault) → (0 < plan.places → ⊥)
    → IsPlan options loaded.board (processors_of loaded.board) loaded.image.symbols plan → processors_of loaded.board ≤ 8 → Answers plan loaded.board bounds (Some events)
    → (plan.shortest ≡ false → IsFewest plan loaded.board bounds (Some events))
    → (plan.shortest ≡ true → IsShortest plan loaded.board bounds (Some events))
    → MatchResult result
    (λ told. Tells plan loaded.board (Some events) told.text.items (option_map (λ text. text.items) told.journal))
    (IsOfJournal (shown plan.wanted loaded.board events))
    → MatchResult result
    (λ told. IsTold options loaded told.text.items (option_map (λ text. text.items) told.journal))
    (KeepsFromSearching options loaded)
told_found options loaded plan bounds events (Ok told) none planned few answers fewest short tells = record {
  plan = plan;
  planned = planned;
  within = λ zero. record {
    bounds = bounds;
    schedule = Some events;
    answers = answers;
    fewest = fewest;
    short = short;
    tells = tells;
  };
  all = λ some. absurd (none some);
}
told_found options loaded plan bounds events (Err fault) none planned few answers fewest short keeps =
    of_search options loaded plan bounds events fault planned few answers keeps

-- A search whose time is over.

timed : (time : ℕ) → not (time == 0) ≡ true → 0 < time
timed time is = grind (arith, nat_tests, is)

isnt-known : (why : Unknown) → IsUnknown (lazy_fault_of why)
isnt-known unknown.Places = tt
isnt-known unknown.Long = tt
isnt-known unknown.Rounds = tt
isnt-known unknown.Fair = tt
isnt-known unknown.Waits = tt

-- where there are regions, the option says them
said : (symbols : List Symbol) (text : Option (List ℕ)) (regions : List Region) → regions_of symbols text ≡ Ok regions →
    (length regions == 0) ≡ false → is_some text ≡ true
said symbols None regions is some =
    let none : [] ≡ regions = cc in
    absurd (false≢true (sym some ∙ ap (λ (rs : List Region). length rs == 0) (sym none)))
said symbols (Some text) regions is some = refl

second : (a b : Bool) → b ≡ true → (a || b) ≡ true
second true b is = refl
second false b is = is

-- where there are some of either kind, one of the options does
some-said : (options : SearchOptions) (symbols : List Symbol) (regions : Regions) →
    regions_of symbols (text_of options.only) ≡ Ok regions.switches → regions_of symbols (text_of options.raises_at) ≡ Ok regions.raises →
    are_none regions ≡ false → has_regions options ≡ true
some-said options symbols regions switches raises some = elim (cases_Bool (length regions.switches == 0)) [
  | inl none ↦
      second (is_some (text_of options.only)) (is_some (text_of options.raises_at))
      (said symbols (text_of options.raises_at) regions.raises raises (sym (ap (λ t. t && length regions.raises == 0) none) ∙ some))
  | inr there ↦
      ap (λ t. t || is_some (text_of options.raises_at)) (said symbols (text_of options.only) regions.switches switches there)
]

pub out-of-time : (options : SearchOptions) (loaded : Loaded) (plan : Plan) (why : NoAnswer) →
    IsPlan options loaded.board (processors_of loaded.board) loaded.image.symbols plan →
    StopsSo plan loaded.board (not (plan.time == 0)) why → KeepsFromSearching options loaded (no_answer_of why)
out-of-time options loaded plan no_answer.NoMemory planned stops = tt
out-of-time options loaded plan no_answer.Stopped planned stops =
    inr (inr (inl (subst (λ (n : ℕ). 0 < n) planned.time (timed plan.time stops), tt)))
out-of-time options loaded plan (no_answer.StoppedAfter preemptions) planned stops =
    inr (inr (inl (subst (λ (n : ℕ). 0 < n) planned.time (timed plan.time stops.0), (plan, planned, stops.1, stops.2))))
out-of-time options loaded plan (no_answer.Unknown why) planned stops =
    inr (inr (inr (inl (subst (λ (n : ℕ). 0 < n) planned.lazy stops), isnt-known why)))
out-of-time options loaded plan no_answer.UnknownInside planned stops =
    inr (inr (inr (inr (some-said options loaded.image.symbols plan.regions planned.switches planned.raises_at stops), tt)))

-- A search without bounds.

untold-all : (options : SearchOptions) (loaded : Loaded) (fault : CommandFault) → 0 < options.places → IsUntoldOfAll fault →
    KeepsFromSearching options loaded fault
untold-all options loaded fault some keeps =
    elim keeps [
      | inl none ↦ subst (KeepsFromSearching options loaded) (sym none) tt
      | inr (inl long) ↦ subst (KeepsFromSearching options loaded) (sym long) some
      | inr (inr unknown) ↦ subst (KeepsFromSearching options loaded) (sym unknown.1) (inr (inl (some, unknown.2)))
    ]

pub told-all : (options : SearchOptions) (loaded : Loaded) (plan : Plan) (result : Result Told CommandFault) → 0 < plan.places →
    IsPlan options loaded.board (processors_of loaded.board) loaded.image.symbols plan →
    MatchResult result (λ told. IsReached plan loaded.board told.text.items (option_map (λ text. text.items) told.journal)) IsUntoldOfAll →
    MatchResult result (λ told. IsTold options loaded told.text.items (option_map (λ text. text.items) told.journal))
    (KeepsFromSearching options loaded)
told-all options loaded plan (Ok told) some planned it = record {
  plan = plan;
  planned = planned;
  within = λ zero. absurd (omega (arith, some, zero));
  all = λ more. it;
}
told-all options loaded plan (Err fault) some planned keeps =
    untold-all options loaded fault (subst (λ (n : ℕ). 0 < n) planned.places some) keeps

-- what is told of events that lead to a board that fails
pub told-reached : (plan : Plan) (b : BoardState) (left : Left) (events : List Event) (result : Result Told CommandFault) →
    left ≡ left_by plan.bounds → ReachedSo b left plan.among plan.wanted (reached.Fails events) →
    MatchResult result (λ told. Tells plan b (Some events) told.text.items (option_map (λ text. text.items) told.journal))
    (IsOfJournal (shown plan.wanted b events)) →
    MatchResult result (λ told. IsReached plan b told.text.items (option_map (λ text. text.items) told.journal)) IsUntoldOfAll
told-reached plan b left events (Ok told) same so tells = record {
  answer = reached.Fails events;
  so = so;
  tells = tells;
}
told-reached plan b left events (Err fault) same so (inl none) = inl none
told-reached plan b left events (Err fault) same so (inr long) = inr (inl long.0)
