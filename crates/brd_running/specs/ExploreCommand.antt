-- The command `explore`: what it writes for what it reads, which journal it saves, and how it ends.
use Rattle.std.specs.Prelude.{◌≡◌, ◌⊎◌, ℕ, ◌<◌, true, false, List, ◌++◌, map, codes, Option, None, Some, IfSome, Result}
use Rattle.std.specs.Prelude.{Ok, Err}
use Rattle.std.specs.declared.io.Error.{Error}
use Rattle.brd_board.specs.declared.event.Event.{Event}
use Rattle.brd_board.specs.Board.{BoardState, after}
use Rattle.brd_explore.specs.declared.bounds.Bounds.{Bounds}
use Rattle.brd_explore.specs.declared.wanted.Ending.{Ending}
use Rattle.brd_image.specs.declared.building.Loaded.{Loaded}
use Rattle.brd_inputs.specs.Opening.{OpensPair}
use Rattle.brd_inputs.specs.Start.{IsLoaded, KeepsFromLoading}
use Rattle.brd_inputs.specs.declared.fault.CommandFault.{CommandFault}
use Rattle.brd_inputs.specs.declared.fault.CommandFault.TheVariants.{NoMemory, Schedule, Search, Fails}
use Rattle.brd_inputs.specs.declared.inputs.Pair.{Pair}
use Rattle.brd_inputs.specs.declared.schedule_fault.ScheduleFault.TheVariants.{TooLong}
use Rattle.brd_journal.specs.Text.{text_of}
use Rattle.brd_places.specs.declared.left.Left.{Left}
use Rattle.brd_reach.specs.Endless.{AreAll, NeverEnds, rest_of}
use Rattle.brd_reach.specs.Reaching.{ReachedSo}
use Rattle.brd_reach.specs.declared.held.Final.{Final}
use Rattle.brd_reach.specs.declared.held.Held.{Held}
use Rattle.brd_reach.specs.declared.searching.Reached.{Reached}
use Rattle.brd_reach.specs.declared.searching.Reached.TheVariants as reached
use Rattle.brd_reach.specs.declared.unknown.Unknown.{Unknown}
use Rattle.brd_reach.specs.declared.unknown.Unknown.TheVariants as unknown
use Rattle.brd_search.specs.Plans.{IsPlan, KeepsFromPlanning, has_regions}
use Rattle.brd_search.specs.Searches.{Answers, IsFewest, IsShortest, NoneWithin}
use Rattle.brd_search.specs.Shown.{shown}
use Rattle.brd_search.specs.declared.fault.SearchFault.{SearchFault}
use Rattle.brd_search.specs.declared.fault.SearchFault.TheVariants.{LongBlock, MoreLazy, MorePlaces, OverInput}
use Rattle.brd_search.specs.declared.fault.SearchFault.TheVariants.{MoreOnly, OutOfTime, OutOfTimeAfter, Unlearned}
use Rattle.brd_search.specs.declared.searching.NoAnswer.{NoAnswer}
use Rattle.brd_search.specs.declared.searching.NoAnswer.TheVariants as no_answer
use Rattle.brd_search.specs.declared.options.SearchOptions.{SearchOptions}
use Rattle.brd_search.specs.declared.plan.Plan.{Plan}
use Rattle.brd_threads.specs.Processors.{processors_of}
use Rattle.brd_running.specs.Saving.{AreWritten, IsRefused, Saves, is_over}

-- a text begins with these words
abbrev pub Begins : List ℕ → List ℕ → Type 0
Begins front text = (rest : List ℕ) × (text ≡ front ++ rest)

-- What is told of what a search of a board by a plan has answered, and the journal beside it: that none fails, and no
-- journal; or that a schedule fails, and the journal of its events, and of its fair end's where it fails only there.
abbrev pub Tells : Plan → BoardState → Option (List Event) → List ℕ → Option (List ℕ) → Type 0
Tells plan b None text journal = Begins (codes "none of ") text × (journal ≡ None)
Tells plan b (Some events) text journal =
    Begins (codes "fails ") text × (journal ≡ Some (text_of b.memory.order (shown plan.wanted b events)))

-- The text and the journal tell what a search of a board within bounds has answered, which is so: the schedule is
-- within the bounds and fails, or none of the plan's shard within them does. None fails with fewer preemptions than a
-- schedule's bounds leave; or if the shortest is asked for, none with fewer events within the plan's. If the plan has
-- regions, this is said of the schedules that keep to them.
pub record IsSearched (plan : Plan) (b : BoardState) (text : List ℕ) (journal : Option (List ℕ)) : Type 0 where
  pub bounds : Bounds
  pub schedule : Option (List Event)
  pub answers : Answers plan b bounds schedule
  pub fewest : plan.shortest ≡ false → IsFewest plan b bounds schedule
  pub short : plan.shortest ≡ true → IsShortest plan b bounds schedule
  pub tells : Tells plan b schedule text journal

-- what is left of ticks and raises, by bounds
abbrev pub left_by : Bounds → Left
left_by bounds = record { ticks = bounds.ticks; raises = bounds.raises; owed = bounds.owed }

-- from the board after events no schedule comes to an end, with the ticks and raises that they leave
abbrev pub IsHopeless : Plan → BoardState → List Event → Type 0
IsHopeless plan b events = NeverEnds (after b events) (rest_of (left_by plan.bounds) events) plan.among

-- that is told, and the journal of the events
pub record TellsHung (plan : Plan) (b : BoardState) (events : List Event) (text : List ℕ) (journal : Option (List ℕ)) :
    Type 0 where
  pub hopeless : IsHopeless plan b events
  pub tells : Begins (codes "fails ") text
  pub saves : journal ≡ Some (text_of b.memory.order events)

-- what the console and the words are at some ends
abbrev pub endings_of : List Final → List Ending
endings_of finals = map (λ (one : Final). one.ending) finals

-- No schedule comes to another end than these, by the console and the words that are asked for.
abbrev pub AreAllEnds : Plan → BoardState → List Final → Type 0
AreAllEnds plan b finals = AreAll plan.values (endings_of finals) b (left_by plan.bounds) plan.among

-- What is told where none fails: that, and no journal; if the ends are asked for and there aren't too many to be listed,
-- these are all. Or events, if it is looked for, that lead to a board from which none comes to an end.
abbrev pub TellsHeld : Plan → BoardState → Held → List ℕ → Option (List ℕ) → Type 0
TellsHeld plan b held text journal =
    (Begins (codes "none ") text × (journal ≡ None)
    × (plan.finals ≡ true → held.more ≡ false → AreAllEnds plan b held.finals))
    ⊎ ((plan.livelock ≡ true) × (events : List Event) × TellsHung plan b events text journal)

-- What is told of a search for which events and preemptions have no bound: that none fails; or that a schedule fails,
-- and its journal.
abbrev pub TellsAll : Plan → BoardState → Reached → List ℕ → Option (List ℕ) → Type 0
TellsAll plan b (reached.Holds held) text journal = TellsHeld plan b held text journal
TellsAll plan b (reached.Fails events) text journal = Tells plan b (Some events) text journal
TellsAll plan b (reached.Unknown why) text journal = ⊥

-- The text and the journal tell what such a search has answered, which is so: none fails, however many events and
-- preemptions it has; or the events lead to a board that fails.
pub record IsReached (plan : Plan) (b : BoardState) (text : List ℕ) (journal : Option (List ℕ)) : Type 0 where
  pub answer : Reached
  pub so : ReachedSo b (left_by plan.bounds) plan.among plan.wanted answer
  pub tells : TellsAll plan b answer text journal

-- The text and the journal tell what a search of a board has answered, by the plan that the options ask for: within
-- bounds, or where places are asked for without any for events and preemptions.
pub record IsTold (options : SearchOptions) (loaded : Loaded) (text : List ℕ) (journal : Option (List ℕ)) : Type 0 where
  pub plan : Plan
  pub planned : IsPlan options loaded.board (processors_of loaded.board) loaded.image.symbols plan
  pub within : plan.places ≡ 0 → IsSearched plan loaded.board text journal
  pub all : 0 < plan.places → IsReached plan loaded.board text journal

-- what keeps a search through places from an answer
abbrev pub IsUnknown : SearchFault → Type 0
IsUnknown MorePlaces = Unit {0}
IsUnknown MoreLazy = Unit {0}
IsUnknown MoreOnly = Unit {0}
IsUnknown LongBlock = Unit {0}
IsUnknown Unlearned = Unit {0}
IsUnknown _ = ⊥

-- what keeps such a search from being told, its options being right
abbrev pub IsUntoldOfAll : CommandFault → Type 0
IsUntoldOfAll fault =
    (fault ≡ NoMemory) ⊎ ((fault ≡ Schedule TooLong) ⊎ ((why : SearchFault) × (fault ≡ Search why) × IsUnknown why))

-- the fault of a search by lazy schedules that hasn't found whether one fails
abbrev pub lazy_fault_of : Unknown → SearchFault
lazy_fault_of unknown.Places = MoreLazy
lazy_fault_of unknown.Long = LongBlock
lazy_fault_of _ = Unlearned

-- the fault of a search within bounds that has come to no answer
abbrev pub no_answer_of : NoAnswer → CommandFault
no_answer_of no_answer.NoMemory = NoMemory
no_answer_of no_answer.Stopped = Search OutOfTime
no_answer_of (no_answer.StoppedAfter preemptions) = Search (OutOfTimeAfter preemptions)
no_answer_of (no_answer.Unknown why) = Search (lazy_fault_of why)
no_answer_of no_answer.UnknownInside = Search MoreOnly

-- The time of a search by a plan of the options is over: nothing is known; or no schedule of the plan's shard fails
-- with up to so many preemptions, which are fewer than the plan's, and else within its bounds.
abbrev pub IsOutOfTime : SearchOptions → Loaded → SearchFault → Type 0
IsOutOfTime options loaded OutOfTime = Unit {0}
IsOutOfTime options loaded (OutOfTimeAfter preemptions) =
    (plan : Plan) × IsPlan options loaded.board (processors_of loaded.board) loaded.image.symbols plan
    × (preemptions < plan.bounds.preemptions)
    × NoneWithin plan loaded.board (record plan.bounds { preemptions = preemptions })
IsOutOfTime options loaded _ = ⊥

-- What keeps a search of a board from being told: want of memory, or what is wrong with its options; or its time, if
-- that is bounded, is over. (No journal of one within bounds is too long: a schedule has a million events at most, and
-- its fair end 20,000 rounds of 129.) Without bounds it is also what isn't known, or a journal of too many events; by
-- lazy schedules, and by those that keep to regions, what isn't known.
abbrev pub KeepsFromSearching : SearchOptions → Loaded → CommandFault → Type 0
KeepsFromSearching options loaded NoMemory = Unit {0}
KeepsFromSearching options loaded (Search fault) =
    KeepsFromPlanning options loaded.board (processors_of loaded.board) loaded.image.symbols fault
    ⊎ (((0 < options.places) × IsUnknown fault)
    ⊎ (((0 < options.time) × IsOutOfTime options loaded fault)
    ⊎ (((0 < options.lazy) ⊎ (has_regions options ≡ true)) × IsUnknown fault)))
KeepsFromSearching options loaded (Schedule TooLong) = 0 < options.places
KeepsFromSearching options loaded _ = ⊥

-- the object file and the configuration make a board, and the text and the journal tell of a search of it
pub record IsExplored (options : SearchOptions) (image config text : List ℕ) (journal : Option (List ℕ)) : Type 0 where
  pub loaded : Loaded
  pub loads : IsLoaded image config loaded
  pub told : IsTold options loaded text journal

-- they make a board, and this keeps a search of it from being told
pub record IsUntold (options : SearchOptions) (image config : List ℕ) (fault : CommandFault) : Type 0 where
  pub loaded : Loaded
  pub loads : IsLoaded image config loaded
  pub keeps : KeepsFromSearching options loaded fault

-- why nothing is told: what was read or the options have a fault
abbrev pub KeepsFromExploring : SearchOptions → List ℕ → List ℕ → CommandFault → Type 0
KeepsFromExploring options image config fault =
    KeepsFromLoading image config fault ⊎ IsUntold options image config fault

-- a search that has found a failure ends so, if its journal was saved and it was told
abbrev pub failed : Result Unit CommandFault → Result Unit CommandFault → Result Unit CommandFault
failed (Ok done) (Ok told) = Err Fails
failed (Ok done) (Err fault) = Err fault
failed (Err fault) told = Err fault

-- A journal that would be written over an input is refused. Else IMAGE is opened first, then CONFIG; where both were, a
-- file for the journal is refused that couldn't be created; else they are read. That file is created only where a
-- schedule was found that fails, and gets the journal before that is told, which is told whatever became of the file.
pub data ExploreFilesEnd {F R W : Type 0}
    (opened : F → List ℕ → Result R Error → F → Type 0) (created : F → List ℕ → Result W Error → F → Type 0)
    (closed : F → W → F → Type 0) (remaining : R → Option (List ℕ)) (contents : W → Option (List ℕ))
    (old : F) (image config : List ℕ) (options : SearchOptions) (out before after : Option (List ℕ))
    (result : Result Unit CommandFault) (new : F) : Type 0 where
  over : is_over out image config ≡ true → result ≡ Err (Search OverInput) → before ≡ after → new ≡ old →
      ExploreFilesEnd opened created closed remaining contents old image config options out before after result new
  not_opened : {fault : CommandFault} → OpensPair opened old image config (Err fault) new →
      result ≡ Err fault → before ≡ after →
      ExploreFilesEnd opened created closed remaining contents old image config options out before after result new
  no_out : {pair : Pair R} {fault : CommandFault} → OpensPair opened old image config (Ok pair) new →
      IsRefused created new out fault → result ≡ Err fault → before ≡ after →
      ExploreFilesEnd opened created closed remaining contents old image config options out before after result new
  refused : {pair : Pair R} {fault : CommandFault} → OpensPair opened old image config (Ok pair) new →
      IfSome (remaining pair.image)
      (λ file. IfSome (remaining pair.config) (λ statements. KeepsFromExploring options file statements fault)) →
      result ≡ Err fault → before ≡ after →
      ExploreFilesEnd opened created closed remaining contents old image config options out before after result new
  none : {pair : Pair R} (text : List ℕ) → OpensPair opened old image config (Ok pair) new →
      IfSome (remaining pair.image)
      (λ file. IfSome (remaining pair.config) (λ statements. IsExplored options file statements text None)) →
      AreWritten text result before after →
      ExploreFilesEnd opened created closed remaining contents old image config options out before after result new
  found : {pair : Pair R} {read : F} (text journal : List ℕ) {saved : Result Unit CommandFault}
      (told : Result Unit CommandFault) →
      OpensPair opened old image config (Ok pair) read →
      IfSome (remaining pair.image)
      (λ file. IfSome (remaining pair.config) (λ statements. IsExplored options file statements text (Some journal))) →
      Saves created closed contents read out journal saved new → AreWritten text told before after →
      result ≡ failed saved told →
      ExploreFilesEnd opened created closed remaining contents old image config options out before after result new
