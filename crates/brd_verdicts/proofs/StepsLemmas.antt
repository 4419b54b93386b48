-- The last steps of processors, while a board plays on.
use Rattle.std.proofs.Common.{◌≡◌, inl, inr, ℕ, suc, ◌+◌, ◌-◌, ◌<◌, ◌≤◌, List, length, refl, sym, ap, subst, ◌∙◌, arith}
use Rattle.std.specs.Prelude.{◌≢◌, true, false, Option, Some, None, slice_get, slice_index_or, slice_set}
use Rattle.std.proofs.lemmas.Bool.{cases_lt, cases_eq, false≢true}
use Rattle.std.proofs.lemmas.List.{get_or-set_same, get_or-set_other, length-set}
use Rattle.brd_board.specs.declared.event.Event.{Event}
use Rattle.brd_board.specs.declared.event.Event.TheVariants.{Step, Tick, Raise}
use Rattle.brd_board.specs.declared.event.Report.{Report}
use Rattle.brd_board.specs.declared.event.Report.TheVariants as report
use Rattle.brd_board.specs.Board.{BoardState, happens, after}
use Rattle.brd_journal.specs.declared.run.Run.{Run}
use Rattle.brd_journal.specs.Playing.{board_at, AllGoOn}
use Rattle.brd_journal.specs.Runs.{copies, ComesBehind}
use Rattle.brd_journal.specs.Still.{did_nothing, does_no_more}
use Rattle.brd_journal.proofs.PlayingLemmas.{run-at, run-board, rest-board}
use Rattle.brd_journal.proofs.StillLemmas.{happens-leaves}
use Rattle.brd_verdicts.specs.Steps.{kept, AreLastSteps, IsLastStep, StepsAt, StepsNone}

module _ (boot : BoardState) (events : List Event) (cpu : ℕ) where
  -- two stretches without a step, one behind the other
  none-on : (from at to : ℕ) → StepsNone boot events cpu from at → StepsNone boot events cpu at to →
      StepsNone boot events cpu from to
  none-on from at to one other p above below = elim (cases_lt p at) [
    | inl before ↦ one p above before
    | inr behind ↦ other p behind below
  ]

  -- after events that are none
  pub last-stays : (at to : ℕ) (last : Option ℕ) → at ≤ to → StepsNone boot events cpu at to →
      IsLastStep boot events at cpu last →
      IsLastStep boot events to cpu last
  last-stays at to None on none is = none-on 0 at to is none
  last-stays at to (Some p) on none is = (omega (arith, is.0, on), is.1, none-on (suc p) at to is.2 none)

  -- after one that is
  pub last-now : (to : ℕ) → 1 ≤ to → StepsAt boot events cpu (to - 1) → IsLastStep boot events to cpu (Some (to - 1))
  last-now to some is = (omega (arith, some), is, λ p above below. absurd (omega (arith, some, above, below)))

same-event : (a b : Event) → Some a ≡ Some b → a ≡ b
same-event a b is = cc

same-step : (c cpu : ℕ) → Step c ≡ Step cpu → c ≡ cpu
same-step c cpu is = cc

-- as many as before
pub kept-nine : (e : Event) (position : ℕ) (old : List (Option ℕ)) → length (kept e position old) ≡ length old
kept-nine (Step cpu) position old = length-set old cpu (Some position)
kept-nine Tick position old = refl
kept-nine (Raise line) position old = refl

did : (told : Report) (address : ℕ) → told ≡ report.Ran address → did_nothing told ≡ false
did told address is = ap did_nothing is

-- what each of some steps of a run reports, that executed an instruction
ran-at : (b : BoardState) (e : Event) (cpu count n : ℕ) → AllGoOn b e count → e ≡ Step cpu → n < count →
    did_nothing (happens (after b (copies e n)) (Step cpu)).report ≡ false
unfolding copies
ran-at b (Step c) cpu count n all is few =
    let went = all n few in
    did (happens (after b (copies (Step c) n)) (Step cpu)).report went.0
    (ap (λ (k : ℕ). (happens (after b (copies (Step c) n)) (Step k)).report) (sym (same-step c cpu is)) ∙ went.1)
ran-at b Tick cpu count n all is few = cc
ran-at b (Raise line) cpu count n all is few = cc

module _ (boot b : BoardState) (events : List Event) (at : ℕ) (rest : Run) (is : b ≡ board_at boot events at)
    (comes : ComesBehind events at rest) where
  event-at : (n p : ℕ) → n ≤ rest.count → at ≤ p → p < at + n → slice_get events p ≡ Some rest.event
  event-at n p few above below =
      let here : at + (p - at) ≡ p = omega (arith, above) in
      subst (λ (k : ℕ). slice_get events k ≡ Some rest.event) here
      (run-at events at (p - at) rest comes (omega (arith, above, below, few)))

  its-event : (n p cpu : ℕ) → n ≤ rest.count → at ≤ p → p < at + n → StepsAt boot events cpu p → rest.event ≡ Step cpu
  its-event n p cpu few above below steps =
      same-event rest.event (Step cpu) (sym (event-at n p few above below) ∙ steps.step)

  -- events of a run that are no steps of a processor
  other-none : (n cpu : ℕ) → n ≤ rest.count → rest.event ≢ Step cpu → StepsNone boot events cpu at (at + n)
  other-none n cpu few other p above below steps = other (its-event n p cpu few above below steps)

  -- events of a run that do nothing
  pub quiet-none : (n cpu : ℕ) → n ≤ rest.count → did_nothing (happens b rest.event).report ≡ true →
      StepsNone boot events cpu at (at + n)
  quiet-none n cpu few quiet p above below steps =
      let event : rest.event ≡ Step cpu = its-event n p cpu few above below steps in
      let step : did_nothing (happens b (Step cpu)).report ≡ true = subst
      (λ (e : Event). did_nothing (happens b e).report ≡ true) event quiet in
      let board : board_at boot events p ≡ b = still-at event step n p few above below in
      false≢true (sym steps.does ∙ ap (λ (x : BoardState). did_nothing (happens x (Step cpu)).report) board ∙ step)
    where
      still-at : rest.event ≡ Step cpu → did_nothing (happens b (Step cpu)).report ≡ true → (n p : ℕ) →
          n ≤ rest.count → at ≤ p → p < at + n →
          board_at boot events p ≡ b
      still-at event step n p few above below = elim (cases_lt at p) [
        | inl behind ↦
            let here : at + (p - at) ≡ p = omega (arith, above) in
            sym (ap (board_at boot events) here)
            ∙ rest-board boot b events at (p - at) rest is comes
            (subst (λ (e : Event). does_no_more e (happens b e).report ≡ true) (sym event) step)
            (omega (arith, behind)) (omega (arith, above, below, few))
            ∙ ap (λ (e : Event). (happens b e).board) event ∙ happens-leaves b (Step cpu) step
        | inr not ↦
            let same : p ≡ at = omega (arith, not, above) in ap (board_at boot events) same ∙ sym is
      ]

  -- The last steps are kept of the last event of some of a run, which is one if it is a step.
  pub kept-last : (n : ℕ) (old : List (Option ℕ)) → 1 ≤ n → n ≤ rest.count → length old ≡ 9 →
      ((cpu : ℕ) → rest.event ≡ Step cpu → did_nothing
      (happens (board_at boot events (at + n - 1)) (Step cpu)).report ≡ false) →
      AreLastSteps boot events at old → AreLastSteps boot events (at + n) (kept rest.event (at + n - 1) old)
  kept-last n old some few nine does are cpu least most =
      by rest.event refl
    where
      stays : rest.event ≢ Step cpu → IsLastStep boot events (at + n) cpu (slice_index_or old cpu None)
      stays other = last-stays boot events cpu at (at + n) (slice_index_or old cpu None) (omega arith)
          (other-none n cpu few other) (are cpu least most)

      no-tick : Tick ≡ Step cpu → ⊥
      no-tick is = cc

      no-raise : (line : ℕ) → Raise line ≡ Step cpu → ⊥
      no-raise line is = cc

      by : (e : Event) → rest.event ≡ e → IsLastStep boot events (at + n) cpu
          (slice_index_or (kept e (at + n - 1) old) cpu None)
      by Tick event = stays (λ step. no-tick (sym event ∙ step))
      by (Raise line) event = stays (λ step. no-raise line (sym event ∙ step))
      by (Step c) event = elim (cases_eq c cpu) [
        | inl same ↦
            let its : rest.event ≡ Step cpu = event ∙ ap Step same in
            let now : IsLastStep boot events (at + n) cpu (Some (at + n - 1)) =
            last-now boot events cpu (at + n) (omega (arith, some)) (record {
              step = event-at n (at + n - 1) few (omega (arith, some)) (omega (arith, some)) ∙ ap Some its;
              does = does cpu its;
            }) in
            let value : slice_index_or (slice_set old c (Some (at + n - 1))) cpu None ≡ Some (at + n - 1) =
            ap (λ (k : ℕ). slice_index_or (slice_set old c (Some (at + n - 1))) k None) (sym same)
            ∙ get_or-set_same old c (Some (at + n - 1)) None (omega (arith, same, most, nine)) in
            subst (IsLastStep boot events (at + n) cpu) (sym value) now
        | inr other ↦
            let value : slice_index_or (slice_set old c (Some (at + n - 1))) cpu None ≡ slice_index_or old cpu None =
            get_or-set_other old c cpu (Some (at + n - 1)) None (λ same. other (sym same)) in
            subst (IsLastStep boot events (at + n) cpu) (sym value)
            (stays (λ step. other (same-step c cpu (sym event ∙ step))))
      ]

  -- after steps of a run that executed instructions
  pub ran-last : (n cpu : ℕ) → 1 ≤ n → n ≤ rest.count → AllGoOn b rest.event n → rest.event ≡ Step cpu →
      did_nothing (happens (board_at boot events (at + n - 1)) (Step cpu)).report ≡ false
  ran-last n cpu some few all event =
      let here : at + (n - 1) ≡ at + n - 1 = omega (arith, some) in
      subst (λ (x : BoardState). did_nothing (happens x (Step cpu)).report ≡ false)
      (run-board boot b events at (n - 1) rest is comes (omega (arith, few)) ∙ ap (board_at boot events) here)
      (ran-at b rest.event cpu n (n - 1) all event (omega (arith, some)))

  -- after events that do nothing
  pub none-last : (n : ℕ) (old : List (Option ℕ)) → n ≤ rest.count → did_nothing (happens b rest.event).report ≡ true →
      AreLastSteps boot events at old → AreLastSteps boot events (at + n) old
  none-last n old few quiet are cpu least most =
      last-stays boot events cpu at (at + n) (slice_index_or old cpu None) (omega arith) (quiet-none n cpu few quiet)
      (are cpu least most)

  -- after one event that did something
  pub one-last : (n cpu : ℕ) → 1 ≤ n → did_nothing (happens b rest.event).report ≡ false →
      (1 < n → does_no_more rest.event (happens b rest.event).report ≡ true) → rest.event ≡ Step cpu →
      did_nothing (happens (board_at boot events (at + n - 1)) (Step cpu)).report ≡ false
  one-last n cpu some did over event =
      let step : did_nothing (happens b (Step cpu)).report ≡ false = subst
      (λ (e : Event). did_nothing (happens b e).report ≡ false) event did in
      elim (cases_lt 1 n) [
        | inl more ↦
            absurd (false≢true (sym step ∙ subst (λ (e : Event). does_no_more e (happens b e).report ≡ true) event
            (over more)))
        | inr one ↦
            let here : at ≡ at + n - 1 = omega (arith, some, one) in
            subst (λ (x : BoardState). did_nothing (happens x (Step cpu)).report ≡ false)
            (is ∙ ap (board_at boot events) here) step
      ]
