-- An event that does nothing where it comes again is no stop then.
use Rattle.std.proofs.Common.{◌≡◌, ℕ, List, refl, sym, ap, subst, ◌∙◌, inl, inr}
use Rattle.std.proofs.lemmas.Bool.{false≢true}
use Rattle.std.specs.Prelude.{Bool, true, false, not, ◌&&◌, Option, Some, None}
use Rattle.brd_mem.specs.Memory.{byte_at}
use Rattle.brd_board.specs.declared.event.Event.{Event}
use Rattle.brd_board.specs.declared.event.Event.TheVariants.{Step, Tick, Raise}
use Rattle.brd_board.specs.declared.event.Report.{Report}
use Rattle.brd_board.specs.declared.event.Report.TheVariants as report
use Rattle.brd_board.specs.Board.{BoardState, happens}
use Rattle.brd_journal.specs.Still.{did_nothing, does_no_more, Rests}
use Rattle.brd_journal.proofs.StillLemmas.{rests, happens-leaves, raise-told}
use Rattle.brd_debug.specs.declared.stops.Stepper.{Stepper}
use Rattle.brd_debug.specs.declared.stops.Stops.{Stops}
use Rattle.brd_debug.specs.Stops.{IsBreak, executes, is_step_of, is_by, is_stepped, is_fault, is_done, has_come_out, IsTold, Differs, StopsAt}
use Rattle.brd_debug.specs.Touching.{touches}

-- what has done nothing has executed nothing

quiet-break : (breaks : List ℕ) (told : Report) → did_nothing told ≡ true → IsBreak breaks told → ⊥
quiet-break breaks (report.Ran address) none is = false≢true none
quiet-break breaks (report.Called address) none is = false≢true none
quiet-break breaks (report.Faulted address) none is = false≢true none
quiet-break breaks (report.Accepted line) none is = is
quiet-break breaks report.Idle none is = is
quiet-break breaks report.Stopped none is = is
quiet-break breaks report.NoSuch none is = is
quiet-break breaks report.Ticked none is = is
quiet-break breaks report.TimeOver none is = is
quiet-break breaks report.Raised none is = is
quiet-break breaks report.Off none is = is

quiet-executes : (told : Report) → did_nothing told ≡ true → executes told ≡ false
quiet-executes (report.Ran address) none = absurd (false≢true none)
quiet-executes (report.Called address) none = absurd (false≢true none)
quiet-executes (report.Faulted address) none = absurd (false≢true none)
quiet-executes (report.Accepted line) none = refl
quiet-executes report.Idle none = refl
quiet-executes report.Stopped none = refl
quiet-executes report.NoSuch none = refl
quiet-executes report.Ticked none = refl
quiet-executes report.TimeOver none = refl
quiet-executes report.Raised none = refl
quiet-executes report.Off none = refl

quiet-fault : (faults : Bool) (told : Report) → executes told ≡ false → is_fault faults told ≡ false
quiet-fault faults (report.Ran address) none = refl
quiet-fault faults (report.Called address) none = refl
quiet-fault faults (report.Faulted address) none = absurd (false≢true (sym none))
quiet-fault faults (report.Accepted line) none = refl
quiet-fault faults report.Idle none = refl
quiet-fault faults report.Stopped none = refl
quiet-fault faults report.NoSuch none = refl
quiet-fault faults report.Ticked none = refl
quiet-fault faults report.TimeOver none = refl
quiet-fault faults report.Raised none = refl
quiet-fault faults report.Off none = refl

not-run : (step runs : Bool) → runs ≡ false → (step && runs) ≡ true → ⊥
not-run true false none is = false≢true is
not-run false false none is = false≢true is
not-run step true none is = false≢true (sym none)

not-moved : (rests out : Bool) → rests ≡ true → (not rests && out) ≡ true → ⊥
not-moved true out none is = false≢true is
not-moved false out none is = false≢true none

quiet-stepped : (stepper : Option Stepper) (event : Event) (told : Report) (by : Bool) (after : BoardState) → executes told ≡ false →
    does_no_more event told ≡ true → is_stepped stepper event told by after ≡ true → ⊥
quiet-stepped None event told by after none rest is = false≢true is
quiet-stepped (Some (Stepper.Each cpu)) event told by after none rest is =
    not-run (is_step_of cpu event) (executes told) none is
quiet-stepped (Some (Stepper.Of who)) event told by after none rest is = not-run by (executes told) none is
quiet-stepped (Some (Stepper.Until cpu who start end)) event told by after none rest is =
    not-moved (does_no_more event told) (has_come_out cpu who start end after) rest is

quiet : (stops : Stops) (event : Event) (told : Report) (by : Bool) (after : BoardState) → (IsBreak stops.breaks told → ⊥) →
    executes told ≡ false → does_no_more event told ≡ true → IsTold stops event told by after → ⊥
quiet stops event told by after first none rest (inl is) = first is
quiet stops event told by after first none rest (inr (inl is)) = quiet-stepped stops.stepper event told by after none rest is
quiet stops event told by after first none rest (inr (inr is)) = false≢true (sym (quiet-fault stops.faults told none) ∙ is)

quiet-told : (stops : Stops) (event : Event) (told : Report) (by : Bool) (after : BoardState) → did_nothing told ≡ true →
    does_no_more event told ≡ true → IsTold stops event told by after → ⊥
quiet-told stops event told by after none = quiet stops event told by after (quiet-break stops.breaks told none) (quiet-executes told none)

-- a line that is raised executes nothing
raise-quiet : (stops : Stops) (b after : BoardState) (line : ℕ) (by : Bool) →
    IsTold stops (Raise line) (happens b (Raise line)).report by after → ⊥
raise-quiet stops b after line by = raise-told (λ told. IsTold stops (Raise line) told by after → ⊥) b line
    (quiet stops (Raise line) report.Off by after (λ wrong. wrong) refl refl)
    (quiet stops (Raise line) report.Raised by after (λ wrong. wrong) refl refl)
    (quiet stops (Raise line) report.NoSuch by after (λ wrong. wrong) refl refl)

told-none : (stops : Stops) (b after : BoardState) (event : Event) (by : Bool) → does_no_more event (happens b event).report ≡ true →
    IsTold stops event (happens (happens b event).board event).report by after → ⊥
told-none stops b after (Step cpu) by none is =
    quiet-told stops (Step cpu) (happens b (Step cpu)).report by after none none
    (subst (λ (x : BoardState). IsTold stops (Step cpu) (happens x (Step cpu)).report by after) (happens-leaves b (Step cpu) none) is)
told-none stops b after Tick by none is =
    quiet-told stops Tick (happens b Tick).report by after none none
    (subst (λ (x : BoardState). IsTold stops Tick (happens x Tick).report by after) (happens-leaves b Tick none) is)
told-none stops b after (Raise line) by none is = raise-quiet stops (happens b (Raise line)).board after line by is

differs-none : (watches : List ℕ) (b : BoardState) (event : Event) → Rests b event → Differs watches b.memory (happens b event).board.memory → ⊥
differs-none watches b event still differs =
    differs.2 (ap (λ (x : BoardState). byte_at x.memory differs.0) (sym still))

quiet-done : (touched : Bool) (told : Report) → did_nothing told ≡ true → is_done touched told ≡ true → ⊥
quiet-done touched (report.Ran address) none is = false≢true none
quiet-done touched (report.Called address) none is = false≢true is
quiet-done touched (report.Faulted address) none is = false≢true is
quiet-done touched (report.Accepted line) none is = false≢true is
quiet-done touched report.Idle none is = false≢true is
quiet-done touched report.Stopped none is = false≢true is
quiet-done touched report.NoSuch none is = false≢true is
quiet-done touched report.Ticked none is = false≢true is
quiet-done touched report.TimeOver none is = false≢true is
quiet-done touched report.Raised none is = false≢true is
quiet-done touched report.Off none is = false≢true is

never-done : (told : Report) → is_done false told ≡ true → ⊥
never-done (report.Ran address) is = false≢true is
never-done (report.Called address) is = false≢true is
never-done (report.Faulted address) is = false≢true is
never-done (report.Accepted line) is = false≢true is
never-done report.Idle is = false≢true is
never-done report.Stopped is = false≢true is
never-done report.NoSuch is = false≢true is
never-done report.Ticked is = false≢true is
never-done report.TimeOver is = false≢true is
never-done report.Raised is = false≢true is
never-done report.Off is = false≢true is

done-none : (reads accesses : List ℕ) (b : BoardState) (event : Event) → does_no_more event (happens b event).report ≡ true →
    is_done (touches reads accesses (happens b event).board event) (happens (happens b event).board event).report ≡ true → ⊥
done-none reads accesses b (Step cpu) none is =
    quiet-done (touches reads accesses (happens b (Step cpu)).board (Step cpu)) (happens b (Step cpu)).report none
    (subst (λ (x : BoardState). is_done (touches reads accesses (happens b (Step cpu)).board (Step cpu)) (happens x (Step cpu)).report ≡ true)
    (happens-leaves b (Step cpu) none) is)
done-none reads accesses b Tick none is = never-done (happens (happens b Tick).board Tick).report is
done-none reads accesses b (Raise line) none is = never-done (happens (happens b (Raise line)).board (Raise line)).report is

stops-by : (stops : Stops) (b : BoardState) (event : Event) →
    (IsTold stops event (happens b event).report (is_by stops.stepper b event) (happens b event).board → ⊥) →
    (Differs stops.watches b.memory (happens b event).board.memory → ⊥) →
    (is_done (touches stops.reads stops.accesses b event) (happens b event).report ≡ true → ⊥) → StopsAt stops b event → ⊥
stops-by stops b event first second third (concerned, inl is) = first is
stops-by stops b event first second third (concerned, inr (inl is)) = second is
stops-by stops b event first second third (concerned, inr (inr is)) = third is

pub stops-none : (stops : Stops) (b : BoardState) (event : Event) → does_no_more event (happens b event).report ≡ true →
    StopsAt stops (happens b event).board event → ⊥
stops-none stops b event none =
    stops-by stops (happens b event).board event (told-none stops b (happens (happens b event).board event).board event
    (is_by stops.stepper (happens b event).board event) none)
    (differs-none stops.watches (happens b event).board event (rests b event none))
    (done-none stops.reads stops.accesses b event none)
