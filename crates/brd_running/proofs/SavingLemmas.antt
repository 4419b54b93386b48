-- Why events are no journal: they are more than it may have runs. So many no search leaves, and no journal that is made
-- shorter.
use Rattle.std.proofs.Common.{◌≡◌, ℕ, zero, suc, ◌+◌, ◌*◌, ◌<◌, ◌≤◌, List, [], ◌∷◌, ◌++◌, length, take, Bool, true, false}
use Rattle.std.proofs.Common.{refl, sym, ap, subst, ◌∙◌, arith, inl, inr, length-append}
use Rattle.std.specs.Prelude.{nat_le, if◌then◌else◌, Some, Result, Ok, Err}
use Rattle.std.proofs.lemmas.Bool.{leb-false}
use Rattle.std.proofs.lemmas.List.{length-replicate}
use Rattle.std.proofs.Math.Nat.{suc-mul, mul-le-mul_right}
use Rattle.brd_board.specs.declared.event.Event.{Event}
use Rattle.brd_board.specs.declared.event.Event.TheVariants.{Step, Tick}
use Rattle.brd_board.specs.Board.{BoardState, after}
use Rattle.brd_explore.specs.declared.bounds.Bounds.{Bounds}
use Rattle.brd_explore.specs.declared.wanted.Wanted.{Wanted}
use Rattle.brd_image.specs.declared.building.Loaded.{Loaded}
use Rattle.brd_inputs.specs.declared.fault.CommandFault.{CommandFault}
use Rattle.brd_inputs.specs.declared.start.Start.{Start}
use Rattle.brd_journal.specs.Faults.{Gives}
use Rattle.brd_journal.specs.Journal.{JournalState, appended, most_runs}
use Rattle.brd_journal.specs.Runs.{AreCut, copies, events_of, runs_of}
use Rattle.brd_journal.specs.declared.fault.JournalFault.{JournalFault}
use Rattle.brd_journal.specs.declared.fault.JournalFault.TheVariants as journal_fault
use Rattle.brd_journal.specs.declared.run.Run.{Run}
use Rattle.brd_journal.proofs.Cutting.{runs_cut, runs_events}
use Rattle.brd_search.specs.Plans.{round_of, steps_of, times, IsPlan}
use Rattle.brd_search.specs.Searches.{Answers}
use Rattle.brd_search.specs.Shown.{fair_end, shown, stops}
use Rattle.brd_search.specs.declared.options.SearchOptions.{SearchOptions}
use Rattle.brd_search.specs.declared.plan.Plan.{Plan}
use Rattle.brd_threads.specs.Processors.{processors_of}
use Rattle.brd_running.specs.ExploreCommand.{KeepsFromSearching}
use Rattle.brd_running.specs.Saving.{IsOfJournal, KeepsFromJournal}
use Rattle.brd_running.specs.ShrinkCommand.{IsLookedFor, KeepsFromShrinking}
use Rattle.brd_running.specs.declared.shrink_command.ShrinkOptions.{ShrinkOptions}

-- ---- a journal doesn't take an event

copies_length : (event : Event) (n : ℕ) → length (copies event n) ≡ n
unfolding copies
copies_length event n = length-replicate n event

-- runs are no more than their events
few_runs : (runs : List Run) → AreCut runs → length runs ≤ length (events_of runs)
few_runs [] cut = omega arith
few_runs (run ∷ runs) cut =
    omega (
      arith,
      few_runs runs cut.3,
      length-append (copies run.event run.count) (events_of runs),
      copies_length run.event run.count,
      cut.0,
    )

fails_so : (fits : Bool) (whole : JournalState) (fault : JournalFault)
    → ◌≡◌ {A = Result JournalState JournalFault} (if fits then Ok whole else Err journal_fault.Full) (Err fault)
    → (fault ≡ journal_fault.Full) × (fits ≡ false)
fails_so true whole fault is = absurd (cc)
fails_so false whole fault is = (cc, refl)

-- The journal of the events so far doesn't take the next one.
pub kept_from : (journal next : JournalState) (event : Event) (all : List Event) (n : ℕ) (fault : JournalFault)
    → Gives (λ (done : Unit {0}). next) (Err fault) (appended journal (event ∷ [])) → journal.limit ≡ most_runs
    → length journal.events ≤ n → n < length all → KeepsFromJournal all fault
kept_from journal next event all n journal_fault.NoMemory fails limit few more = tt
kept_from journal next event all n journal_fault.Full fails limit few more =
    let longer : List Event = journal.events ++ event ∷ [] in
    let why = fails_so (nat_le (length (runs_of longer)) journal.limit) _ journal_fault.Full fails in
    omega (
      arith,
      leb-false (length (runs_of longer)) journal.limit why.1,
      few_runs (runs_of longer) (runs_cut longer),
      ap (λ (events : List Event). length events) (runs_events longer),
      length-append journal.events (event ∷ []),
      few,
      more,
      limit,
    )
kept_from journal next event all n (journal_fault.Syntax line) fails limit few more =
    let why = fails_so (nat_le (length (runs_of (journal.events ++ event ∷ []))) journal.limit) _
    (journal_fault.Syntax line) fails in
    absurd (cc)

take_few : (n : ℕ) (events : List Event) → length (take n events) ≤ n
take_few zero events = omega arith
take_few (suc n) [] = omega arith
take_few (suc n) (event ∷ events) = omega (arith, take_few n events)

pub taken_few : (all events : List Event) (n : ℕ) → events ≡ take n all → length events ≤ n
taken_few all events n is = subst (λ (es : List Event). length es ≤ n) (sym is) (take_few n all)

-- ---- how long what is shown is

times_length : (n : ℕ) (events : List Event) → length (times n events) ≡ n * length events
unfolding times
times_length zero events = omega arith
times_length (suc n) events =
    length-append (times n events) events
    ∙ ap (λ (m : ℕ). m + length events) (times_length n events)
    ∙ sym (suc-mul n (length events))

steps_length : (n : ℕ) → length (steps_of n) ≡ n
steps_length zero = refl
steps_length (suc n) = omega (arith, length-append (steps_of n) (Step (suc n) ∷ []), steps_length n)

round_length : (cpus : ℕ) → cpus ≤ 8 → length (round_of cpus) ≤ 129
round_length cpus few =
    omega (
      arith,
      length-append (times 16 (steps_of cpus)) (Tick ∷ []),
      times_length 16 (steps_of cpus),
      steps_length cpus,
      few,
    )

rounds_few : (n len : ℕ) → n ≤ 20000 → len ≤ 129 → n * len ≤ 2580000
rounds_few n len few short =
    let most : n * len ≤ 20000 * len = mul-le-mul_right len few in
    omega (arith, most, short)

-- the fair end of a search of a board of eight processors at most
fair_few : (wanted : Wanted) (cpus : ℕ) → wanted.rounds ≤ 20000 → wanted.round ≡ round_of cpus → cpus ≤ 8
    → length (fair_end wanted) ≤ 2580000
fair_few wanted cpus rounds round few =
    let short : length wanted.round ≤ 129 =
    subst (λ (es : List Event). length es ≤ 129) (sym round) (round_length cpus few) in
    subst (λ (m : ℕ). m ≤ 2580000) (sym (times_length wanted.rounds wanted.round))
    (rounds_few wanted.rounds (length wanted.round) rounds short)

either_few : (now : Bool) (events more : List Event)
    → length (if now then events else events ++ more) ≤ length events + length more
either_few true events more = omega arith
either_few false events more = omega (arith, length-append events more)

shown_few : (wanted : Wanted) (b : BoardState) (events : List Event)
    → length (shown wanted b events) ≤ length events + length (fair_end wanted)
unfolding shown
shown_few wanted b events = either_few (stops wanted (after b events)) events (fair_end wanted)

-- What is shown of a million events at most isn't too long for a journal.
pub never_too_long : (wanted : Wanted) (b : BoardState) (events : List Event) (cpus : ℕ) → wanted.rounds ≤ 20000
    → wanted.round ≡ round_of cpus → cpus ≤ 8 → length events ≤ 1000000
    → most_runs < length (shown wanted b events) → ⊥
never_too_long wanted b events cpus rounds round few events_few more =
    omega (arith, more, shown_few wanted b events, fair_few wanted cpus rounds round few, events_few)

-- ---- so no journal that is kept is too long

pub of_search : (options : SearchOptions) (loaded : Loaded) (plan : Plan) (bounds : Bounds) (events : List Event)
    (fault : CommandFault) → IsPlan options loaded.board (processors_of loaded.board) loaded.image.symbols plan
    → processors_of loaded.board ≤ 8 → Answers plan loaded.board bounds (Some events)
    → IsOfJournal (shown plan.wanted loaded.board events) fault → KeepsFromSearching options loaded fault
of_search options loaded plan bounds events fault is few answers (inl none) =
    subst (λ (f : CommandFault). KeepsFromSearching options loaded f) (sym none) tt
of_search options loaded plan bounds events fault is few answers (inr long) =
    let most : length events ≤ 1000000 = omega (
      arith,
      answers.found.few,
      answers.few.events,
      ap (λ (b : Bounds). b.events) is.bounds,
      is.most_events,
    ) in
    absurd (never_too_long plan.wanted loaded.board events (processors_of loaded.board)
    (subst (λ (n : ℕ). n ≤ 20000) (sym is.wanted.rounds) is.wanted.most) is.wanted.round few most long.1)

pub of_shrinking : (options : ShrinkOptions) (start : Start) (wanted : Wanted) (all left : List Event)
    (fault : CommandFault) → IsLookedFor options start wanted → processors_of start.board ≤ 8
    → length left ≤ length all → length all ≤ 1000000
    → IsOfJournal (shown wanted start.board left) fault → KeepsFromShrinking options start fault
of_shrinking options start wanted all left fault is few shorter most (inl none) =
    subst (λ (f : CommandFault). KeepsFromShrinking options start f) (sym none) tt
of_shrinking options start wanted all left fault is few shorter most (inr long) =
    absurd (never_too_long wanted start.board left (processors_of start.board)
    (subst (λ (n : ℕ). n ≤ 20000) (sym is.rounds) is.most) is.round few (omega (arith, shorter, most)) long.1)
