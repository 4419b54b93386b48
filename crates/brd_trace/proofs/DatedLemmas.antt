-- Since when tasks are in their states, when the board was turned off, and last exceptions, from one position to a later
-- one.
use Rattle.std.proofs.Common.{◌≡◌, ◌≢◌, ◌⊎◌, ⊎_elim, ℕ, zero, suc, ◌+◌, ◌-◌, ◌<◌, ◌≤◌, List, [], ◌∷◌, ◌++◌, length, map, take, replicate, inl, inr, refl, sym, ap, subst, ◌∙◌, arith}
use Rattle.std.proofs.lemmas.Bool.{false≢true, cases_lt}
use Rattle.std.proofs.lemmas.Bool.Decides.{nat_tests}
use Rattle.std.proofs.lemmas.List.{get_or-set_same, get_or-set_other}
use Rattle.std.specs.Prelude.{Bool, true, false, ◌==◌, if◌then◌else◌, nat_lt, slice_get, slice_set, slice_index_or, Option, None, Some, is_some, unwrap_or, All}
use Rattle.std.specs.Option.{option_map}
use Rattle.std.specs.List.{filter_map, cons_option, range_with_len}
use Rattle.std.proofs.lemmas.List.Elements.{All-cons, All-nil}
use Rattle.brd_time.specs.Time.{last_count, advanced}
use Rattle.brd_kernel.specs.Waits.{ticked_on}
use Rattle.brd_tasks.specs.declared.status.TaskState.{TaskState}
use Rattle.brd_tasks.specs.declared.status.WaitReason.{WaitReason}
use Rattle.brd_tasks.specs.declared.task.TaskView.{TaskView}
use Rattle.brd_kernel.specs.declared.processor.Standing.{Standing}
use Rattle.brd_board.specs.declared.event.Event.{Event}
use Rattle.brd_board.specs.declared.event.Event.TheVariants.{Step, Tick, Raise}
use Rattle.brd_board.specs.declared.event.Report.{Report}
use Rattle.brd_board.specs.declared.event.Report.TheVariants as report
use Rattle.brd_board.specs.Board.{BoardState, Happened, reported, then_dispatched, task_of, standing_of, happens, after}
use Rattle.brd_board.specs.Runs.{without_context}
use Rattle.brd_board.proofs.OffLemmas.{off-stays}
use Rattle.brd_journal.specs.declared.run.Run.{Run}
use Rattle.brd_journal.specs.Playing.{board_at, AllGoOn}
use Rattle.brd_journal.specs.Runs.{ComesBehind}
use Rattle.brd_journal.specs.Still.{did_nothing, does_no_more}
use Rattle.brd_journal.proofs.AfterLemmas.{after-append}
use Rattle.brd_journal.proofs.PlayingLemmas.{run-at, run-board, rest-board}
use Rattle.brd_journal.proofs.StillLemmas.{happens-leaves, raise-told}
use Rattle.brd_seen.specs.declared.tasks.TaskSeen.{TaskSeen}
use Rattle.brd_trace.specs.declared.notes.LastFault.{LastFault}
use Rattle.brd_trace.specs.declared.notes.Notes.{Notes}
use Rattle.brd_seen.specs.Seen.{seen_of, seen_in, all_seen, IsSeen}
use Rattle.brd_names.specs.Standings.{tasks_of, may_change}
use Rattle.brd_trace.specs.Noted.{Knows, KeepsKnown}
use Rattle.brd_seen.specs.Conditions.{Condition, condition_by, condition_of, Same, Other, FollowsTask}
use Rattle.brd_trace.specs.Dated.{Stays, IsSince, IsOff, RaisesAt, RaisesNone, IsLast, IsLastFault, IsDated, Follows, KeepsFault, KeepsFaults}
use Rattle.brd_names.proofs.ThereLemmas.{still-there, same-tasks}
use Rattle.brd_trace.proofs.NotedLemmas.{changes-none}
use Rattle.brd_names.proofs.AlikeLemmas.{Alike, alike-same, alike-then, unchanged}
use Rattle.brd_printer.specs.Telling.{is_ran}
use Rattle.brd_printer.proofs.RanLemmas.{ran_step}

-- ---- one event

take_next : (events : List Event) (n : ℕ) (event : Event) → slice_get events n ≡ Some event
    → take (suc n) events ≡ take n events ++ event ∷ []
take_next [] zero event is = absurd (cc)
take_next [] (suc n) event is = absurd (cc)
take_next (first ∷ events) zero event is = cc
take_next (first ∷ events) (suc n) event is = ap (λ (es : List Event). first ∷ es) (take_next events n event is)

pub board-next : (boot : BoardState) (events : List Event) (n : ℕ) (event : Event) → slice_get events n ≡ Some event
    → board_at boot events (suc n) ≡ (happens (board_at boot events n) event).board
board-next boot events n event is =
    ap (λ (es : List Event). after boot es) (take_next events n event is) ∙ after-append boot (take n events) (event ∷ [])

same-place : (n m : ℕ) → report.Faulted n ≡ report.Faulted m → n ≡ m
same-place n m is = cc

same-cpu : (n m : ℕ) → Step n ≡ Step m → n ≡ m
same-cpu n m is = cc

same-step : (event : Event) (cpu : ℕ) → Some event ≡ Some (Step cpu) → event ≡ Step cpu
same-step event cpu is = cc

-- a position whose event changes nothing of what is dated
pub record Quiet (boot : BoardState) (events : List Event) (p : ℕ) : Type 0 where
  pub alike : Alike (board_at boot events p) (board_at boot events (suc p))
  pub none : (cpu address : ℕ) → RaisesAt boot events p cpu address → ⊥

abbrev pub AllQuiet : BoardState → List Event → ℕ → ℕ → Type 0
AllQuiet boot events from to = (p : ℕ) → from ≤ p → p < to → Quiet boot events p

pub quiet-one : (boot : BoardState) (events : List Event) (p : ℕ) (event : Event) → slice_get events p ≡ Some event
    → may_change (happens (board_at boot events p) event).report ≡ false → Quiet boot events p
quiet-one boot events p event is none = record {
  alike = subst (Alike (board_at boot events p)) (sym (board-next boot events p event is))
      (unchanged (board_at boot events p) event none);
  none = λ cpu address raises.
      false≢true (sym none
      ∙ ap (λ (e : Event). may_change (happens (board_at boot events p) e).report) (same-step event cpu (sym is ∙ raises.step))
      ∙ ap may_change raises.report);
}

-- ---- events of a run that do nothing

nothing-changes : (told : Report) → did_nothing told ≡ true → may_change told ≡ false
nothing-changes report.Off none = refl
nothing-changes report.NoSuch none = refl
nothing-changes report.Stopped none = refl
nothing-changes (report.Accepted line) none = absurd (false≢true none)
nothing-changes (report.Ran address) none = refl
nothing-changes (report.Called address) none = absurd (false≢true none)
nothing-changes (report.Faulted address) none = absurd (false≢true none)
nothing-changes report.Idle none = refl
nothing-changes report.Ticked none = absurd (false≢true none)
nothing-changes report.TimeOver none = refl
nothing-changes report.Raised none = refl

again : (b : BoardState) (event : Event) → did_nothing (happens b event).report ≡ true →
    may_change (happens (happens b event).board event).report ≡ false
again b event none =
    ap (λ (x : BoardState). may_change (happens x event).report) (happens-leaves b event none)
    ∙ nothing-changes (happens b event).report none

-- once it does no more it changes nothing when it comes again
no-more-changes : (b : BoardState) (event : Event) → does_no_more event (happens b event).report ≡ true →
    may_change (happens (happens b event).board event).report ≡ false
no-more-changes b (Step cpu) over = again b (Step cpu) over
no-more-changes b Tick over = again b Tick over
no-more-changes b (Raise line) over =
    raise-told (λ told. may_change told ≡ false) (happens b (Raise line)).board line refl refl refl

pub quiet-rest : (boot b : BoardState) (events : List Event) (at count : ℕ) (rest : Run) → b ≡ board_at boot events at
    → ComesBehind events at rest → (1 < count → does_no_more rest.event (happens b rest.event).report ≡ true)
    → count ≤ rest.count → AllQuiet boot events (at + 1) (at + count)
quiet-rest boot b events at count rest is comes over few p above below =
    let n : ℕ = p - at in
    let here : at + (p - at) ≡ p = omega (arith, above) in
    let some : 1 ≤ p - at = omega (arith, above) in
    let less : p - at < rest.count = omega (arith, above, below, few) in
    let more : does_no_more rest.event (happens b rest.event).report ≡ true = over (omega (arith, above, below)) in
    let at_p : board_at boot events p ≡ (happens b rest.event).board =
    ap (board_at boot events) (sym here) ∙ rest-board boot b events at (p - at) rest is comes more some (omega (arith, less)) in
    quiet-one boot events p rest.event
    (subst (λ (k : ℕ). slice_get events k ≡ Some rest.event) here (run-at events at (p - at) rest comes less))
    (ap (λ (x : BoardState). may_change (happens x rest.event).report) at_p ∙ no-more-changes b rest.event more)

-- many ordinary instructions
pub quiet-batch : (boot b : BoardState) (events : List Event) (at count : ℕ) (rest : Run) → b ≡ board_at boot events at
    → ComesBehind events at rest → AllGoOn b rest.event count → count ≤ rest.count → AllQuiet boot events at (at + count)
quiet-batch boot b events at count rest is comes ran few p above below =
    let here : at + (p - at) ≡ p = omega (arith, above) in
    let less : p - at < count = omega (arith, above, below) in
    quiet-one boot events p rest.event
    (subst (λ (k : ℕ). slice_get events k ≡ Some rest.event) here (run-at events at (p - at) rest comes (omega (arith, less, few))))
    (ap (λ (x : BoardState). may_change (happens x rest.event).report)
    (ap (board_at boot events) (sym here) ∙ sym (run-board boot b events at (p - at) rest is comes (omega (arith, less, few))))
    ∙ changes-none _ (ran_step b rest.event count (p - at) ran less))

-- ---- conditions

condition-without : (found : Option TaskView) →
    option_map condition_by found ≡ option_map condition_by (option_map without_context found)
condition-without None = refl
condition-without (Some view) = refl

pub alike-condition : (b new : BoardState) (id : ℕ) → Alike b new → condition_of new id ≡ condition_of b id
alike-condition b new id alike =
    condition-without (task_of new id) ∙ ap (option_map condition_by) (alike.tasks id) ∙ sym (condition-without (task_of b id))

-- the condition of a task as it is seen
abbrev pub condition_seen : TaskSeen → Condition
condition_seen it = record { state = it.state; waiting = it.waiting }

same-condition : (old new : TaskSeen) → Same old new new.since → condition_seen new ≡ condition_seen old
same-condition old new same =
    ap (λ (state : TaskState). record { state = state; waiting = new.waiting }) same.state
    ∙ ap (λ (waiting : Option WaitReason). record { state = old.state; waiting = waiting }) same.waiting

some-condition : (new old : TaskSeen) → Some (condition_seen new) ≡ Some (condition_seen old) →
    (new.state ≡ old.state) × (new.waiting ≡ old.waiting)
some-condition new old is = (
  ap (λ (c : Option Condition). (unwrap_or c (condition_seen new)).state) is,
  ap (λ (c : Option Condition). (unwrap_or c (condition_seen new)).waiting) is,
)

pub seen-condition : (b : BoardState) (it : TaskSeen) → IsSeen b it → condition_of b it.id ≡ Some (condition_seen it)
seen-condition b it seen = condition-without (task_of b it.id) ∙ ap (option_map condition_by) seen

quiet-stays : (boot : BoardState) (events : List Event) (id from to : ℕ) → AllQuiet boot events from to → Stays boot events id from to
quiet-stays boot events id from to quiet p above below =
    alike-condition (board_at boot events p) (board_at boot events (suc p)) id (quiet p above below).alike

stays-on : (boot : BoardState) (events : List Event) (id from mid to : ℕ) → Stays boot events id from mid → Stays boot events id mid to →
    Stays boot events id from to
stays-on boot events id from mid to one more p above below =
    ⊎_elim (λ less. one p above less) (λ past. more p past below) (cases_lt p mid)

since-on : (boot : BoardState) (events : List Event) (id n to : ℕ) (since : Option ℕ) → n ≤ to → IsSince boot events n id since →
    Stays boot events id n to → IsSince boot events to id since
since-on boot events id n to None on is more = stays-on boot events id 0 n to is more
since-on boot events id n to (Some p) on is more =
    (omega (arith, on, is.0), is.1, stays-on boot events id (suc p) n to is.2 more)

-- ---- exceptions

none-on : (boot : BoardState) (events : List Event) (cpu from mid to : ℕ) → RaisesNone boot events cpu from mid →
    RaisesNone boot events cpu mid to → RaisesNone boot events cpu from to
none-on boot events cpu from mid to one more p address above below raises =
    ⊎_elim (λ less. one p address above less raises) (λ past. more p address past below raises) (cases_lt p mid)

last-on : (boot : BoardState) (events : List Event) (cpu n to : ℕ) (it : Option LastFault) → n ≤ to → IsLastFault boot events n cpu it →
    RaisesNone boot events cpu n to → IsLastFault boot events to cpu it
last-on boot events cpu n to None on is more = none-on boot events cpu 0 n to is more
last-on boot events cpu n to (Some it) on is more = record {
  before = omega (arith, on, is.before);
  raised = is.raised;
  who = is.who;
  after = none-on boot events cpu (suc it.position) n to is.after more;
}

quiet-none : (boot : BoardState) (events : List Event) (cpu from to : ℕ) → AllQuiet boot events from to → RaisesNone boot events cpu from to
quiet-none boot events cpu from to quiet p address above below raises = (quiet p above below).none cpu address raises

-- ---- whether it is off

alike-far : (boot : BoardState) (events : List Event) (from k : ℕ) → AllQuiet boot events from (from + k) →
    Alike (board_at boot events from) (board_at boot events (from + k))
alike-far boot events from zero quiet =
    let here : from ≡ from + zero = omega arith in
    subst (λ (n : ℕ). Alike (board_at boot events from) (board_at boot events n)) here (alike-same (board_at boot events from))
alike-far boot events from (suc k) quiet =
    let next : suc (from + k) ≡ from + suc k = omega arith in
    subst (λ (n : ℕ). Alike (board_at boot events from) (board_at boot events n)) next
    (alike-then (board_at boot events from) (board_at boot events (from + k)) (board_at boot events (suc (from + k)))
    (alike-far boot events from k (λ p above below. quiet p above (omega (arith, below))))
    (quiet (from + k) (omega arith) (omega arith)).alike)

pub alike-to : (boot : BoardState) (events : List Event) (from to : ℕ) → from ≤ to → AllQuiet boot events from to →
    Alike (board_at boot events from) (board_at boot events to)
alike-to boot events from to on quiet =
    let there : from + (to - from) ≡ to = omega (arith, on) in
    subst (λ (n : ℕ). Alike (board_at boot events from) (board_at boot events n)) there
    (alike-far boot events from (to - from) (λ p above below. quiet p above (omega (arith, below, on))))

off-on : (boot : BoardState) (events : List Event) (n to : ℕ) (off : Option ℕ) → n ≤ to → AllQuiet boot events n to → IsOff boot events n off →
    IsOff boot events to off
off-on boot events n to None on quiet is = (alike-to boot events n to on quiet).off ∙ is
off-on boot events n to (Some p) on quiet is =
    ⊎_elim (λ turned. inl (omega (arith, on, turned.0), turned.1, turned.2)) (λ from. inr from) is

-- ---- where nothing changes

pub dated-quiet : (boot : BoardState) (events : List Event) (n to : ℕ) (notes : Notes) → n ≤ to → AllQuiet boot events n to →
    IsDated boot events n notes → IsDated boot events to notes
dated-quiet boot events n to notes on quiet dated = record {
  since = λ i d less. since-on boot events _ n to _ on (dated.since i d less) (quiet-stays boot events _ n to quiet);
  off = off-on boot events n to notes.off on quiet dated.off;
  places = dated.places;
  faults = λ cpu least most. last-on boot events cpu n to _ on (dated.faults cpu least most) (quiet-none boot events cpu n to quiet);
}

pub kept-dated : (boot : BoardState) (events : List Event) (n : ℕ) (old new : Notes) → KeepsKnown old new → IsDated boot events n old →
    IsDated boot events n new
kept-dated boot events n old new kept dated = record {
  since = subst (λ tasks. All (λ (it : TaskSeen). IsSince boot events n it.id it.since) tasks.items) (sym kept.tasks) dated.since;
  off = subst (IsOff boot events n) (sym kept.off) dated.off;
  places = ap (λ faults. length faults.items) kept.faults ∙ dated.places;
  faults = λ cpu least most.
      subst (λ faults. IsLastFault boot events n cpu (slice_index_or faults.items cpu None)) (sym kept.faults) (dated.faults cpu least most);
}

-- ---- an event that may change something

-- a board that is off reports nothing else
changes-on : (off : Bool) (b : BoardState) (event : Event) → b.kernel.off ≡ off → may_change (happens b event).report ≡ true →
    b.kernel.off ≡ false
changes-on true b event is changes =
    absurd (false≢true (ap (λ (h : Happened). may_change h.report) (sym (off-stays b event is)) ∙ changes))
changes-on false b event is changes = is

none-off : (off : Option ℕ) → is_some off ≡ false → off ≡ None
none-off None is = refl
none-off (Some p) is = absurd (false≢true (sym is))

off-one : (boot : BoardState) (events : List Event) (p : ℕ) (off : Bool) → (board_at boot events p).kernel.off ≡ false →
    (board_at boot events (suc p)).kernel.off ≡ off → IsOff boot events (suc p) (if off then Some p else None)
off-one boot events p true was is = inl (omega arith, was, is)
off-one boot events p false was is = is

-- only a step reports an exception

tick-told : (P : Report → Type 0) (b : BoardState) → P report.Off → P report.Ticked → P report.TimeOver → P (happens b Tick).report
unfolding happens
tick-told P b off ticked over = told-by b.kernel.off (nat_lt b.kernel.time.count last_count)
  where
    told-by : (off counted : Bool) →
        P (if off then reported b report.Off else
        (if counted then then_dispatched (record b { kernel = ticked_on b.kernel (advanced b.kernel.time) }) report.Ticked
        else reported b report.TimeOver)).report
    told-by true counted = off
    told-by false true = ticked
    told-by false false = over

-- which step
record IsStep (event : Event) : Type 0 where
  cpu : ℕ
  is : event ≡ Step cpu

no-fault-off : (address : ℕ) → report.Off ≡ report.Faulted address → ⊥
no-fault-off address is = cc

no-fault-ticked : (address : ℕ) → report.Ticked ≡ report.Faulted address → ⊥
no-fault-ticked address is = cc

no-fault-over : (address : ℕ) → report.TimeOver ≡ report.Faulted address → ⊥
no-fault-over address is = cc

no-fault-raised : (address : ℕ) → report.Raised ≡ report.Faulted address → ⊥
no-fault-raised address is = cc

no-fault-none : (address : ℕ) → report.NoSuch ≡ report.Faulted address → ⊥
no-fault-none address is = cc

fault-step : (b : BoardState) (event : Event) (address : ℕ) → (happens b event).report ≡ report.Faulted address → IsStep event
fault-step b (Step cpu) address is = record { cpu = cpu; is = refl }
fault-step b Tick address is =
    absurd (tick-told (λ told. told ≡ report.Faulted address → ⊥) b (no-fault-off address) (no-fault-ticked address) (no-fault-over address) is)
fault-step b (Raise line) address is =
    absurd (raise-told (λ told. told ≡ report.Faulted address → ⊥) b line (no-fault-off address) (no-fault-raised address) (no-fault-none address) is)

-- whether it is one
record IsFault (told : Report) : Type 0 where
  address : ℕ
  is : told ≡ report.Faulted address

decide-fault : (told : Report) → IsFault told ⊎ ((address : ℕ) → told ≡ report.Faulted address → ⊥)
decide-fault report.Off = inr (λ address is. no-fault-off address is)
decide-fault report.NoSuch = inr (λ address is. no-fault-none address is)
decide-fault report.Stopped = inr (λ address is. cc)
decide-fault (report.Accepted line) = inr (λ address is. cc)
decide-fault (report.Ran at) = inr (λ address is. cc)
decide-fault (report.Called at) = inr (λ address is. cc)
decide-fault (report.Faulted at) = inl (record { address = at; is = refl })
decide-fault report.Idle = inr (λ address is. cc)
decide-fault report.Ticked = inr (λ address is. no-fault-ticked address is)
decide-fault report.TimeOver = inr (λ address is. no-fault-over address is)
decide-fault report.Raised = inr (λ address is. no-fault-raised address is)

module _ (boot : BoardState) (events : List Event) (p : ℕ) (event : Event) (is : slice_get events p ≡ Some event) where
  here : (q : ℕ) → p ≤ q → q < suc p → q ≡ p
  here q above below = omega (arith, above, below)

  unraised : ((address : ℕ) → (happens (board_at boot events p) event).report ≡ report.Faulted address → ⊥) → (cpu : ℕ) →
      RaisesNone boot events cpu p (suc p)
  unraised none cpu q address above below raises =
      let raised : RaisesAt boot events p cpu address =
      subst (λ (n : ℕ). RaisesAt boot events n cpu address) (here q above below) raises in
      let same : event ≡ Step cpu = same-step event cpu (sym is ∙ raised.step) in
      none address (ap (λ (e : Event). (happens (board_at boot events p) e).report) same ∙ raised.report)

  -- no other processor raises one in a step
  others-none : (cpu other : ℕ) → event ≡ Step cpu → other ≢ cpu → RaisesNone boot events other p (suc p)
  others-none cpu other steps apart q address above below raises =
      let raised : RaisesAt boot events p other address =
      subst (λ (n : ℕ). RaisesAt boot events n other address) (here q above below) raises in
      apart (same-cpu other cpu (sym (same-step event other (sym is ∙ raised.step)) ∙ steps))

  -- the one that is kept
  last-at : (cpu address : ℕ) (it : LastFault) → event ≡ Step cpu →
      (happens (board_at boot events p) event).report ≡ report.Faulted address → it.position ≡ p → it.place ≡ address →
      it.who ≡ standing_of (board_at boot events p) cpu → IsLast boot events (suc p) cpu it
  last-at cpu address it steps reports position place who =
      let raised : RaisesAt boot events p cpu address = record {
        step = is ∙ ap Some steps;
        report = ap (λ (e : Event). (happens (board_at boot events p) e).report) (sym steps) ∙ reports;
      } in
      record {
        before = omega (arith, position);
        raised = subst (λ (q : ℕ). RaisesAt boot events q cpu it.place) (sym position)
            (subst (λ (a : ℕ). RaisesAt boot events p cpu a) (sym place) raised);
        who = who ∙ ap (λ (q : ℕ). standing_of (board_at boot events q) cpu) (sym position);
        after = λ q a above below raises. absurd (omega (arith, above, below, position));
      }

  kept-at : (same : Bool) (cpu n address : ℕ) (old : List (Option LastFault)) (it : LastFault) → (n == cpu) ≡ same → event ≡ Step cpu →
      IsLast boot events (suc p) cpu it → length old ≡ 9 → n ≤ 8 → IsLastFault boot events p n (slice_index_or old n None) →
      IsLastFault boot events (suc p) n (slice_index_or (slice_set old cpu (Some it)) n None)
  kept-at true cpu n address old it test steps last places most was =
      let same : n ≡ cpu = grind (arith, nat_tests, test) in
      let less : cpu < length old = omega (arith, same, most, places) in
      subst (λ (k : ℕ). IsLastFault boot events (suc p) k (slice_index_or (slice_set old cpu (Some it)) k None)) (sym same)
      (subst (IsLastFault boot events (suc p) cpu) (sym (get_or-set_same old cpu (Some it) None less)) last)
  kept-at false cpu n address old it test steps last places most was =
      let apart : n ≢ cpu = λ same. absurd (grind (arith, nat_tests, test, same)) in
      subst (IsLastFault boot events (suc p) n) (sym (get_or-set_other old cpu n (Some it) None apart))
      (last-on boot events n p (suc p) (slice_index_or old n None) (omega arith) was (others-none cpu n steps apart))

  faults-one : (told : Report) (cpu : ℕ) (who : Option Standing) (old new : List (Option LastFault)) →
      told ≡ (happens (board_at boot events p) event).report →
      ((n : ℕ) → event ≡ Step n → (cpu ≡ n) × (who ≡ standing_of (board_at boot events p) n)) →
      KeepsFaults told p cpu who old new → length old ≡ 9 →
      ((n : ℕ) → 1 ≤ n → n ≤ 8 → IsLastFault boot events p n (slice_index_or old n None)) →
      (n : ℕ) → 1 ≤ n → n ≤ 8 → IsLastFault boot events (suc p) n (slice_index_or new n None)
  faults-one told cpu who old new tells steps keeps places was n least most =
      ⊎_elim
      (λ (fault : IsFault told).
      let reports : (happens (board_at boot events p) event).report ≡ report.Faulted fault.address = sym tells ∙ fault.is in
      let step : IsStep event = fault-step (board_at boot events p) event fault.address reports in
      let same = steps step.cpu step.is in
      let kept : KeepsFault p fault.address cpu who old new = keeps.kept fault.address fault.is in
      let own : event ≡ Step cpu = step.is ∙ ap Step (sym same.0) in
      subst (λ (xs : List (Option LastFault)). IsLastFault boot events (suc p) n (slice_index_or xs n None)) (sym kept.new_is)
      (kept-at (n == cpu) cpu n fault.address old kept.it refl own
      (last-at cpu fault.address kept.it own reports kept.position_is kept.place
      (kept.who_is ∙ same.1 ∙ ap (standing_of (board_at boot events p)) (sym same.0))) places most (was n least most)))
      (λ other.
      subst (λ (xs : List (Option LastFault)). IsLastFault boot events (suc p) n (slice_index_or xs n None)) (sym (keeps.same other))
      (last-on boot events n p (suc p) (slice_index_or old n None) (omega arith) (was n least most)
      (unraised (λ address reports. other address (tells ∙ reports)) n)))
      (decide-fault told)

  -- a task
  since-one : (mid new : TaskSeen) → IsSeen (board_at boot events p) mid → IsSeen (board_at boot events (suc p)) new →
      FollowsTask p mid new → IsSince boot events p mid.id mid.since → IsSince boot events (suc p) new.id new.since
  since-one mid new seen_mid seen_new follows since =
      let was : condition_of (board_at boot events p) new.id ≡ Some (condition_seen mid) =
      ap (condition_of (board_at boot events p)) follows.id ∙ seen-condition (board_at boot events p) mid seen_mid in
      let is_now : condition_of (board_at boot events (suc p)) new.id ≡ Some (condition_seen new) =
      seen-condition (board_at boot events (suc p)) new seen_new in
      let old : IsSince boot events p new.id mid.since =
      subst (λ (id : ℕ). IsSince boot events p id mid.since) (sym follows.id) since in
      ⊎_elim
      (λ (same : Same mid new new.since).
      let equal : condition_of (board_at boot events (suc p)) new.id ≡ condition_of (board_at boot events p) new.id =
      is_now ∙ ap Some (same-condition mid new same) ∙ sym was in
      subst (IsSince boot events (suc p) new.id) (sym same.since_is)
      (since-on boot events new.id p (suc p) mid.since (omega arith) old
      (λ q above below. subst (λ (k : ℕ). condition_of (board_at boot events (suc k)) new.id ≡ condition_of (board_at boot events k) new.id)
      (sym (here q above below)) equal)))
      (λ (other : Other p mid new new.since).
      subst (IsSince boot events (suc p) new.id) (sym other.since_is) (
        omega arith,
        (λ equal. other.apart (some-condition new mid (sym is_now ∙ equal ∙ was))),
        (λ q above below. absurd (omega (arith, above, below))),
      ))
      follows.since

pub dated-one : (boot : BoardState) (events : List Event) (p : ℕ) (event : Event) (mid new : Notes) (told : Report) (cpu : ℕ)
    (who : Option Standing) → slice_get events p ≡ Some event → told ≡ (happens (board_at boot events p) event).report →
    may_change told ≡ true → Knows (board_at boot events p) mid → Knows (board_at boot events (suc p)) new →
    Follows (board_at boot events (suc p)) p mid new → KeepsFaults told p cpu who mid.faults.items new.faults.items →
    ((n : ℕ) → event ≡ Step n → (cpu ≡ n) × (who ≡ standing_of (board_at boot events p) n)) →
    IsDated boot events p mid → IsDated boot events (suc p) new
dated-one boot events p event mid new told cpu who is tells changes noted noted_new follows keeps steps dated =
    let b : BoardState = board_at boot events p in
    let next : BoardState = board_at boot events (suc p) in
    let on : b.kernel.off ≡ false = changes-on b.kernel.off b event refl (ap may_change (sym tells) ∙ changes) in
    record {
      since = λ i d less.
          let below : i < length mid.tasks.items = omega (arith, less, follows.as_many) in
          since-one boot events p event is (slice_index_or mid.tasks.items i d) (slice_index_or new.tasks.items i d)
          (noted.tasks i d below) (noted_new.tasks i d less) (follows.tasks i d below) (dated.since i d below);
      off = subst (IsOff boot events (suc p))
          (ap (λ (off : Option ℕ). if next.kernel.off then Some (unwrap_or off p) else None) (sym (none-off mid.off (noted.off ∙ on)))
          ∙ sym follows.off)
          (off-one boot events p next.kernel.off on refl);
      places = follows.places ∙ dated.places;
      faults = faults-one boot events p event is told cpu who mid.faults.items new.faults.items tells steps keeps dated.places dated.faults;
    }

-- ---- an event, with those after it that do nothing

pub at-first : (boot : BoardState) (events : List Event) (at to : ℕ) → Quiet boot events at → AllQuiet boot events (at + 1) to →
    AllQuiet boot events at to
at-first boot events at to one more p above below =
    ⊎_elim
    (λ less. let same : at ≡ p = omega (arith, less, above) in subst (Quiet boot events) same one)
    (λ past. more p past below) (cases_lt p (at + 1))

pub event-first : (events : List Event) (at count : ℕ) (rest : Run) → ComesBehind events at rest → 1 ≤ count → count ≤ rest.count →
    slice_get events at ≡ Some rest.event
event-first events at count rest comes some few =
    let here : at + 0 ≡ at = omega arith in
    subst (λ (k : ℕ). slice_get events k ≡ Some rest.event) here (run-at events at 0 rest comes (omega (arith, some, few)))

module _ (boot : BoardState) (events : List Event) (at count : ℕ) (rest : Run) (b next : BoardState) (mid new : Notes) (told : Report)
    (cpu : ℕ) (who : Option Standing) (is : b ≡ board_at boot events at) (leaves : next ≡ (happens b rest.event).board)
    (comes : ComesBehind events at rest) (some : 1 ≤ count) (few : count ≤ rest.count)
    (over : 1 < count → does_no_more rest.event (happens b rest.event).report ≡ true)
    (reports : told ≡ (happens b rest.event).report) (noted : Knows (board_at boot events at) mid) (dated : IsDated boot events at mid) where
  first : slice_get events at ≡ Some rest.event
  first = event-first events at count rest comes some few

  tells : told ≡ (happens (board_at boot events at) rest.event).report
  tells = reports ∙ ap (λ (x : BoardState). (happens x rest.event).report) is

  next-is : next ≡ board_at boot events (suc at)
  next-is =
      leaves ∙ ap (λ (x : BoardState). (happens x rest.event).board) is ∙ sym (board-next boot events at rest.event first)

  others : AllQuiet boot events (at + 1) (at + count)
  others = quiet-rest boot b events at count rest is comes over few

  dated-changed : may_change told ≡ true → Knows next new → Follows next at mid new →
      KeepsFaults told at cpu who mid.faults.items new.faults.items →
      ((n : ℕ) → rest.event ≡ Step n → (cpu ≡ n) × (who ≡ standing_of (board_at boot events at) n)) →
      IsDated boot events (at + count) new
  dated-changed changes knows follows keeps steps =
      let one : suc at ≡ at + 1 = omega arith in
      let after_one : IsDated boot events (suc at) new =
      dated-one boot events at rest.event mid new told cpu who first tells changes noted (subst (λ x. Knows x new) next-is knows)
      (subst (λ x. Follows x at mid new) next-is follows) keeps steps dated in
      dated-quiet boot events (at + 1) (at + count) new (omega (arith, some)) others (subst (λ n. IsDated boot events n new) one after_one)

  dated-unchanged : may_change told ≡ false → KeepsKnown mid new → IsDated boot events (at + count) new
  dated-unchanged changes kept =
      dated-quiet boot events at (at + count) new (omega arith)
      (at-first boot events at (at + count) (quiet-one boot events at rest.event first (ap may_change (sym tells) ∙ changes)) others)
      (kept-dated boot events at mid new kept dated)

  dated-by : (changed : Bool) → may_change told ≡ changed → (may_change told ≡ false → KeepsKnown mid new) →
      (may_change told ≡ true → map (λ (it : TaskSeen). it.id) mid.tasks.items ≡ tasks_of next → Knows next new) →
      (may_change told ≡ true → Follows next at mid new) →
      (may_change told ≡ true → KeepsFaults told at cpu who mid.faults.items new.faults.items) →
      ((n : ℕ) → rest.event ≡ Step n → (cpu ≡ n) × (who ≡ standing_of (board_at boot events at) n)) →
      IsDated boot events (at + count) new
  dated-by true changes kept known follows keeps steps =
      dated-changed changes
      (known changes (noted.those ∙ ap tasks_of (sym is)
      ∙ sym (same-tasks b (happens b rest.event).board (still-there b rest.event)) ∙ ap tasks_of (sym leaves)))
      (follows changes) (keeps changes) steps
  dated-by false changes kept known follows keeps steps = dated-unchanged changes (kept changes)

  pub dated-on : (may_change told ≡ false → KeepsKnown mid new) →
      (may_change told ≡ true → map (λ (it : TaskSeen). it.id) mid.tasks.items ≡ tasks_of next → Knows next new) →
      (may_change told ≡ true → Follows next at mid new) →
      (may_change told ≡ true → KeepsFaults told at cpu who mid.faults.items new.faults.items) →
      ((n : ℕ) → rest.event ≡ Step n → (cpu ≡ n) × (who ≡ standing_of (board_at boot events at) n)) →
      IsDated boot events (at + count) new
  dated-on = dated-by (may_change told) refl

  -- an ordinary instruction
  pub dated-ran : is_ran told ≡ true → KeepsKnown mid new → IsDated boot events (at + count) new
  dated-ran ran kept = dated-unchanged (changes-none told ran) kept

-- many of them
pub dated-far : (boot b : BoardState) (events : List Event) (at count : ℕ) (rest : Run) (notes : Notes) → b ≡ board_at boot events at →
    ComesBehind events at rest → AllGoOn b rest.event count → count ≤ rest.count → IsDated boot events at notes →
    IsDated boot events (at + count) notes
dated-far boot b events at count rest notes is comes ran few dated =
    dated-quiet boot events at (at + count) notes (omega arith) (quiet-batch boot b events at count rest is comes ran few) dated

-- ---- at the start

abbrev nothing : Option LastFault
nothing = None

empty-at : (n cpu : ℕ) → slice_index_or (replicate n nothing) cpu nothing ≡ nothing
empty-at zero cpu = refl
empty-at (suc n) zero = refl
empty-at (suc n) (suc cpu) = empty-at n cpu

off-first : (boot : BoardState) (events : List Event) (off : Bool) → boot.kernel.off ≡ off →
    IsOff boot events 0 (if off then Some 0 else None)
off-first boot events true is = inr is
off-first boot events false is = is

none-since : (x : ℕ) (found : Option TaskView) (more : List TaskSeen) → All (λ (it : TaskSeen). it.since ≡ None) more →
    All (λ (it : TaskSeen). it.since ≡ None) (cons_option (option_map (seen_of x) found) more)
none-since x None more all = all
none-since x (Some view) more all = All-cons (λ (it : TaskSeen). it.since ≡ None) (seen_of x view) more refl all

all-since : (board : BoardState) (xs : List ℕ) → All (λ (it : TaskSeen). it.since ≡ None) (filter_map (seen_in board) xs)
all-since board [] = All-nil (λ (it : TaskSeen). it.since ≡ None)
all-since board (x ∷ xs) = none-since x (task_of board x) (filter_map (seen_in board) xs) (all-since board xs)

since-all : (board : BoardState) → All (λ (it : TaskSeen). it.since ≡ None) (all_seen board)
unfolding all_seen
since-all board = all-since board (range_with_len 1 255)

pub dated-first : (boot : BoardState) (events : List Event) (notes : Notes) → notes.tasks.items ≡ all_seen boot →
    notes.off ≡ (if boot.kernel.off then Some 0 else None) → notes.faults.items ≡ replicate 9 None → IsDated boot events 0 notes
dated-first boot events notes tasks off faults =
    let none : All (λ (it : TaskSeen). it.since ≡ None) notes.tasks.items =
    subst (All (λ (it : TaskSeen). it.since ≡ None)) (sym tasks) (since-all boot) in
    record {
      since = λ i d less. subst (IsSince boot events 0 _) (sym (none i d less)) (λ p above below. absurd (omega (arith, below)));
      off = subst (IsOff boot events 0) (sym off) (off-first boot events boot.kernel.off refl);
      places = ap length faults;
      faults = λ cpu least most.
          subst (IsLastFault boot events 0 cpu)
          (sym (ap (λ (xs : List (Option LastFault)). slice_index_or xs cpu None) faults ∙ empty-at 9 cpu))
          (λ p address above below raises. absurd (omega (arith, below)));
    }

-- ---- what is followed

pub followed : (board : BoardState) (position : ℕ) (old new : Notes) (items : List TaskSeen) → new.tasks.items ≡ items →
    length items ≡ length old.tasks.items →
    ((i : ℕ) (d : TaskSeen) → i < length old.tasks.items →
    FollowsTask position (slice_index_or old.tasks.items i d) (slice_index_or items i d)) →
    new.off ≡ (if board.kernel.off then Some (unwrap_or old.off position) else None) →
    length new.faults.items ≡ length old.faults.items → Follows board position old new
followed board position old new items are as_many follows off places = record {
  as_many = ap length are ∙ as_many;
  tasks = λ i d less.
      subst (λ (xs : List TaskSeen). FollowsTask position (slice_index_or old.tasks.items i d) (slice_index_or xs i d)) (sym are) (follows i d less);
  off = off;
  places = places;
}

pub fault-kept : (told : Report) (place position cpu : ℕ) (who : Option Standing) (old new : List (Option LastFault)) →
    told ≡ report.Faulted place → KeepsFault position place cpu who old new → KeepsFaults told position cpu who old new
fault-kept told place position cpu who old new is keeps = record {
  kept = λ address other. subst (λ (a : ℕ). KeepsFault position a cpu who old new) (same-place place address (sym is ∙ other)) keeps;
  same = λ none. absurd (none place is);
}

pub none-kept : (told : Report) (position cpu : ℕ) (who : Option Standing) (old : List (Option LastFault)) →
    ((address : ℕ) → told ≡ report.Faulted address → ⊥) → KeepsFaults told position cpu who old old
none-kept told position cpu who old none = record {
  kept = λ address is. absurd (none address is);
  same = λ none. refl;
}
