-- One event more, and why there is none.
use Rattle.std.proofs.Common.{◌≡◌, ℕ, suc, ◌+◌, ◌<◌, ◌≤◌, refl, List, [], ◌∷◌, ◌++◌, length, arith, subst, ap, Ok, Err, length-append}
use Rattle.std.specs.Prelude.{Bool, true, false, nat_le, if◌then◌else◌, Option, None, Some, is_none, unwrap_or, MatchOption, Result}
use Rattle.std.proofs.lemmas.Bool.{leb-false}
use Rattle.std.proofs.lemmas.List.{length-replicate}
use Rattle.brd_board.specs.declared.event.Event.{Event}
use Rattle.brd_board.specs.declared.event.Event.TheVariants.{Step}
use Rattle.brd_journal.specs.Journal.{JournalState, appended}
use Rattle.brd_journal.specs.Runs.{runs_of}
use Rattle.brd_journal.specs.declared.fault.JournalFault.{JournalFault}
use Rattle.brd_journal.specs.declared.fault.JournalFault.TheVariants.{Full}
use Rattle.brd_journal.specs.declared.fault.JournalFault.TheVariants as journal_fault
use Rattle.brd_journal.specs.Faults.{Gives}
use Rattle.brd_journal.specs.Journal.{most_runs}
use Rattle.brd_journal.specs.Runs.{AreCut, copies, events_of}
use Rattle.brd_journal.proofs.Cutting.{runs_cut, runs_events}
use Rattle.brd_journal.specs.declared.run.Run.{Run}
use Rattle.brd_schedule.specs.Schedule.{ArePlanned, EndsMaking, IsPlanned, IsStep, event_of, fixed, made, steps_among, steps_on}
use Rattle.brd_schedule.specs.Steps.{stepper, within}
use Rattle.brd_schedule.specs.declared.plan.Plan.{Plan}

one_more : (plan : Plan) (number : ℕ) (events : List Event) (event : Event) → ArePlanned plan number events
    → IsPlanned plan (number + length events) event → ArePlanned plan number (events ++ event ∷ [])
one_more plan number [] event are is = (subst (λ n. IsPlanned plan n event) (omega arith) is, cc)
one_more plan number (first ∷ events) event are is =
    (are.0, one_more plan (number + 1) events event are.1 (subst (λ n. IsPlanned plan n event) (omega arith) is))

chosen : (fits : Bool) (whole next : JournalState)
    → ◌≡◌ {A = Result JournalState JournalFault} (if fits then Ok whole else Err Full) (Ok next) → next ≡ whole
chosen true whole next is = cc
chosen false whole next is = cc

-- what a journal that took an event has
taken : (journal next : JournalState) (event : Event) → appended journal (event ∷ []) ≡ Ok next
    → next.events ≡ journal.events ++ event ∷ []
taken journal next event is =
    ap (λ (it : JournalState). it.events) (chosen (nat_le (length (runs_of (journal.events ++ event ∷ []))) journal.limit) _ next is)

pub one_more_of : (plan : Plan) (before : ℕ) (journal next : JournalState) (event : Event) → appended journal (event ∷ []) ≡ Ok next
    → length journal.events ≡ before → ArePlanned plan 1 journal.events → IsPlanned plan (before + 1) event
    → (length next.events ≡ before + 1) × ArePlanned plan 1 next.events
one_more_of plan before journal next event is count are planned =
    rw (taken journal next event is) (
      omega (arith, length-append journal.events (event ∷ []), count),
      one_more plan 1 journal.events event are (subst (λ n. IsPlanned plan n event) (omega (arith, count)) planned),
    )

-- a journal that took an event has the byte order that it had
pub same-order : (journal next : JournalState) (event : Event) → appended journal (event ∷ []) ≡ Ok next → next.order ≡ journal.order
same-order journal next event is =
    ap (λ (it : JournalState). it.order) (chosen (nat_le (length (runs_of (journal.events ++ event ∷ []))) journal.limit) _ next is)

-- and the limit that it had
pub same-limit : (journal next : JournalState) (event : Event) → appended journal (event ∷ []) ≡ Ok next → next.limit ≡ journal.limit
same-limit journal next event is =
    ap (λ (it : JournalState). it.limit) (chosen (nat_le (length (runs_of (journal.events ++ event ∷ []))) journal.limit) _ next is)

-- ---- the plan's very events

allowed : (plan : Plan) (steps : ℕ) (it : Option Event) → 1 ≤ plan.cpus
    → MatchOption it (IsStep plan.cpus (unwrap_or it (Step (stepper plan steps)))) (λ event. unwrap_or it (Step (stepper plan steps)) ≡ event)
unfolding stepper
allowed plan steps None some = (omega arith, omega arith)
allowed plan steps (Some event) some = refl

-- the event of a plan is one that it allows
pub planned : (plan : Plan) (steps number : ℕ) → 1 ≤ plan.cpus → IsPlanned plan number (event_of plan steps number)
planned plan steps number some = allowed plan steps (fixed plan number) some

pub made_next : (plan : Plan) (before steps : ℕ) (journal next : JournalState) (event : Event) → appended journal (event ∷ []) ≡ Ok next
    → journal.events ≡ made plan before → steps ≡ steps_among plan before → event ≡ event_of plan steps (before + 1)
    → next.events ≡ made plan (before + 1)
made_next plan before steps journal next event is same count the =
    let one : before + 1 ≡ suc before = omega arith in
    let now : event ≡ event_of plan (steps_among plan before) (suc before) = rw (← one, ← count) the in
    rw (taken journal next event is, one, same, now) refl

pub counted_next : (plan : Plan) (before steps next : ℕ) → steps ≡ steps_among plan before → next ≡ steps_on plan (before + 1) steps
    → next ≡ steps_among plan (before + 1)
counted_next plan before steps next count is =
    let one : before + 1 ≡ suc before = omega arith in
    rw one (rw (one, count) at is)

counted : (steps : ℕ) (b : Bool) → (if b then steps + 1 else steps) ≤ steps + 1
counted steps true = omega arith
counted steps false = omega arith

pub few_steps : (plan : Plan) (number steps : ℕ) → steps_on plan number steps ≤ steps + 1
few_steps plan number steps = counted steps (is_none (fixed plan number))

-- ---- why a journal doesn't take an event

copies_length : (event : Event) (n : ℕ) → length (copies event n) ≡ n
unfolding copies
copies_length event n = length-replicate n event

-- runs are no more than their events
few_runs : (runs : List Run) → AreCut runs → length runs ≤ length (events_of runs)
few_runs [] cut = omega arith
few_runs (run ∷ runs) cut =
    let more = few_runs runs cut.3 in
    omega (arith, length-append (copies run.event run.count) (events_of runs), copies_length run.event run.count, cut.0)

fails_so : (fits : Bool) (whole : JournalState) (fault : JournalFault) → ◌≡◌ {A = Result JournalState JournalFault} (if fits then Ok whole else Err Full) (Err fault)
    → (fault ≡ Full) × (fits ≡ false)
fails_so true whole fault is = absurd (cc)
fails_so false whole fault is = (cc, refl)

pub ends_making : (plan : Plan) (before : ℕ) (journal next : JournalState) (event : Event) (fault : JournalFault)
    → Gives (λ (done : Unit {0}). next) (Err fault) (appended journal (event ∷ [])) → journal.limit ≡ most_runs → length journal.events ≡ before → before < plan.events
    → EndsMaking plan fault
ends_making plan before journal next event journal_fault.NoMemory fails limit count within = tt
ends_making plan before journal next event Full fails limit count within =
    let why = fails_so (nat_le (length (runs_of (journal.events ++ event ∷ []))) journal.limit) _ Full fails in
    let more = leb-false (length (runs_of (journal.events ++ event ∷ []))) journal.limit why.1 in
    let few = few_runs (runs_of (journal.events ++ event ∷ [])) (runs_cut (journal.events ++ event ∷ [])) in
    let same = ap (λ (events : List Event). length events) (runs_events (journal.events ++ event ∷ [])) in
    omega (arith, more, few, same, length-append journal.events (event ∷ []), count, limit)
ends_making plan before journal next event (journal_fault.Syntax line) fails limit count within =
    let why = fails_so (nat_le (length (runs_of (journal.events ++ event ∷ []))) journal.limit) _ (journal_fault.Syntax line) fails in absurd (cc)
