-- What a tick leaves of the lines and of the times of time handlers.
use Rattle.std.proofs.Common.{◌≡◌, ◌≤◌, ◌<◌, ◌≢◌, ℕ, zero, suc, ◌+◌, List, [], ◌∷◌, length, refl, sym, ap, subst, ◌∙◌, arith}
use Rattle.std.specs.Prelude.{Bool, true, false, ◌||◌, ◌==◌, nat_lt, if◌then◌else◌, Option, None, Some, slice_index_or, slice_set}
use Rattle.std.specs.Option.{option_map}
use Rattle.std.proofs.lemmas.Bool.Decides.{nat_tests}
use Rattle.std.proofs.lemmas.List.{length-set, get_or-set_same, get_or-set_other, get_or_past}
use Rattle.brd_tasks.specs.declared.status.WaitReason.{WaitReason}
use Rattle.brd_tasks.specs.declared.status.WaitReason.TheVariants as reason
use Rattle.brd_tasks.specs.declared.status.WaitKind.{WaitKind}
use Rattle.brd_tasks.specs.declared.status.WaitKind.TheVariants as kind
use Rattle.brd_tasks.specs.declared.task.Task.{Task}
use Rattle.brd_tasks.specs.Status.{waiting_of}
use Rattle.brd_tasks.specs.Tasks.{task_at, changed, lifted_to}
use Rattle.brd_time.specs.Time.{last_count, advanced, due_from}
use Rattle.brd_timers.specs.declared.timer.Timer.{Timer}
use Rattle.brd_timers.specs.Timers.{timer_at, is_due_in, is_due_at, ticked as timer_ticked}
use Rattle.brd_kernel.specs.declared.processor.InterruptLine.{InterruptLine}
use Rattle.brd_kernel.specs.Kernel.{KernelState, with_tasks, timer_line, line_at, quiet}
use Rattle.brd_kernel.specs.Waits.{Change, changed_of, changed_for, leaving, moving, reason_of, timed_out, all_timed_out, lifted_in, prioritized_by, priorities_of, prioritized_below, prioritized, rung_at, rung_below, rung, ticked_on, ticked}

-- The end of waits, and other priorities, leave all that a tick goes by for time handlers.

record Leaves (k new : KernelState) : Type 0 where
  lines : new.lines ≡ k.lines
  timers : new.timers ≡ k.timers
  count : new.time.count ≡ k.time.count
  standard : new.standard ≡ k.standard

leaves-all : (k : KernelState) → Leaves k k
leaves-all k = record { lines = refl; timers = refl; count = refl; standard = refl }

leaves-then : {k between new : KernelState} → Leaves k between → Leaves between new → Leaves k new
leaves-then first second = record {
  lines = second.lines ∙ first.lines;
  timers = second.timers ∙ first.timers;
  count = second.count ∙ first.count;
  standard = second.standard ∙ first.standard;
}

leaves-of : (change : Change) (k : KernelState) (what : WaitKind) → Leaves k (changed_of change k what)
leaves-of change k kind.Semaphore = record { lines = refl; timers = refl; count = refl; standard = refl }
leaves-of change k _ = record { lines = refl; timers = refl; count = refl; standard = refl }

leaves-for : (change : Change) (k : KernelState) (why : Option WaitReason) → Leaves k (changed_for change k why)
leaves-for change k None = leaves-all k
leaves-for change k (Some reason.Sleep) = leaves-all k
leaves-for change k (Some reason.Delay) = leaves-all k
leaves-for change k (Some (reason.On what object)) = leaves-of change k what

leaves-one : (k : KernelState) (id : ℕ) → Leaves k (timed_out k id)
leaves-one k id =
    let only = leaves-for (leaving id) k (reason_of k id) in
    record { lines = only.lines; timers = only.timers; count = only.count; standard = only.standard }

leaves-timed : (k : KernelState) (ids : List ℕ) → Leaves k (all_timed_out k ids)
leaves-timed k [] = leaves-all k
leaves-timed k (id ∷ ids) = leaves-then (leaves-one k id) (leaves-timed (timed_out k id) ids)

leaves-if : (test : Bool) (k one other : KernelState) → Leaves k one → Leaves k other → Leaves k (if test then one else other)
leaves-if true k one other first second = first
leaves-if false k one other first second = second

leaves-lifted : (k : KernelState) (id priority : ℕ) (why : Option WaitReason) → Leaves k (lifted_in k id priority why)
leaves-lifted k id priority why =
    let only = leaves-for (moving id priority) (with_tasks k (changed (lifted_to priority) k.tasks id)) why in
    record { lines = only.lines; timers = only.timers; count = only.count; standard = only.standard }

leaves-by : (k : KernelState) (id priority : ℕ) (found : Option Task) → Leaves k (prioritized_by k id priority found)
leaves-by k id priority None = leaves-all k
leaves-by k id priority (Some task) =
    leaves-if (task.priority == priority) k k (lifted_in k id priority (waiting_of task.status)) (leaves-all k)
    (leaves-lifted k id priority (waiting_of task.status))

leaves-below : (k : KernelState) (priorities : List ℕ) (count : ℕ) → Leaves k (prioritized_below k priorities count)
unfolding prioritized_below
leaves-below k priorities zero = leaves-all k
leaves-below k priorities (suc id) =
    let before : KernelState = prioritized_below k priorities id in
    leaves-then (leaves-below k priorities id) (leaves-by before id _ (task_at before.tasks id))

leaves-prioritized : (k : KernelState) → Leaves k (prioritized k)
leaves-prioritized k =
    leaves-if k.standard k (prioritized_below k (priorities_of k) 256) k (leaves-below k (priorities_of k) 256) (leaves-all k)

-- Time handlers, one after the other.

-- where a place isn't there, nothing is changed at it
changed-by : (small : Bool) (f : Timer → Timer) (xs : List (Option Timer)) (i : ℕ) → nat_lt i (length xs) ≡ small →
    timer_at (slice_set xs i (option_map f (timer_at xs i))) i ≡ option_map f (timer_at xs i)
changed-by true f xs i test = get_or-set_same xs i (option_map f (timer_at xs i)) None (grind (arith, nat_tests, test))
changed-by false f xs i test =
    let past : length xs ≤ i = grind (arith, nat_tests, test) in
    let past-too : length (slice_set xs i (option_map f (timer_at xs i))) ≤ i = subst (λ n. n ≤ i) (sym (length-set xs i (option_map f (timer_at xs i)))) past in
    get_or_past (slice_set xs i (option_map f (timer_at xs i))) i None past-too
    ∙ sym (ap (option_map f) (get_or_past xs i None past))

or-true : (test : Bool) → (test || true) ≡ true
or-true true = refl
or-true false = refl

or-false : (test : Bool) → (test || false) ≡ test
or-false true = refl
or-false false = refl

-- a line is pending too where a handler is due
abbrev pending_if : Bool → InterruptLine → InterruptLine
pending_if due line = record line { pending = line.pending || due }

set-if : (due : Bool) (xs : List InterruptLine) (i : ℕ) → i < length xs →
    slice_index_or (if due then slice_set xs i (record (slice_index_or xs i (quiet None)) { pending = true }) else xs) i (quiet None)
    ≡ pending_if due (slice_index_or xs i (quiet None))
set-if true xs i small =
    let line : InterruptLine = slice_index_or xs i (quiet None) in
    get_or-set_same xs i (record line { pending = true }) (quiet None) small ∙ ap (λ p. record line { pending = p }) (sym (or-true line.pending))
set-if false xs i small =
    let line : InterruptLine = slice_index_or xs i (quiet None) in
    ap (λ p. record line { pending = p }) (sym (or-false line.pending))

set-if-other : (due : Bool) (xs : List InterruptLine) (i j : ℕ) (line : InterruptLine) → j ≢ i →
    slice_index_or (if due then slice_set xs i line else xs) j (quiet None) ≡ slice_index_or xs j (quiet None)
set-if-other true xs i j line other = get_or-set_other xs i j line (quiet None) other
set-if-other false xs i j line other = refl

set-if-length : (due : Bool) (xs : List InterruptLine) (i : ℕ) (line : InterruptLine) →
    length (if due then slice_set xs i line else xs) ≡ length xs
set-if-length true xs i line = length-set xs i line
set-if-length false xs i line = refl

-- What has come of them below a place.
record IsRung (k new : KernelState) (count : ℕ) : Type 0 where
  now : new.time.count ≡ k.time.count
  long : length new.lines ≡ length k.lines
  passed : (place : ℕ) → place < count → timer_at new.timers place ≡ option_map (timer_ticked k.time.count) (timer_at k.timers place)
  waiting : (place : ℕ) → count ≤ place → timer_at new.timers place ≡ timer_at k.timers place
  rang : (place : ℕ) → place < count → timer_line place < length k.lines →
      line_at new (timer_line place) ≡ pending_if (is_due_at k.time.count k.timers place) (line_at k (timer_line place))
  quiet-yet : (place : ℕ) → count ≤ place → line_at new (timer_line place) ≡ line_at k (timer_line place)
  device : (line : ℕ) → line < 32 → line_at new line ≡ line_at k line

-- one place more: that of the handler itself, and the others

passed-more : (last : Bool) (k new : KernelState) (at place : ℕ) → IsRung k new at → (place == at) ≡ last → place < suc at →
    timer_at (rung_at new at).timers place ≡ option_map (timer_ticked k.time.count) (timer_at k.timers place)
passed-more true k new at place was test small =
    let here : place ≡ at = grind (arith, nat_tests, test) in
    ap (timer_at (rung_at new at).timers) here
    ∙ changed-by (nat_lt at (length new.timers)) (timer_ticked new.time.count) new.timers at refl
    ∙ ap (λ n. option_map (timer_ticked n) (timer_at new.timers at)) was.now
    ∙ ap (option_map (timer_ticked k.time.count)) (was.waiting at (omega arith) ∙ ap (timer_at k.timers) (sym here))
passed-more false k new at place was test small =
    let below : place < at = grind (arith, nat_tests, test, small) in
    let other : place ≢ at = λ is. omega (arith, below, is) in
    get_or-set_other new.timers at place (option_map (timer_ticked new.time.count) (timer_at new.timers at)) None other
    ∙ was.passed place below

rang-more : (last : Bool) (k new : KernelState) (at place : ℕ) → IsRung k new at → (place == at) ≡ last → place < suc at →
    timer_line place < length k.lines →
    line_at (rung_at new at) (timer_line place) ≡ pending_if (is_due_at k.time.count k.timers place) (line_at k (timer_line place))
rang-more true k new at place was test small there =
    let here : place ≡ at = grind (arith, nat_tests, test) in
    let inside : timer_line at < length new.lines = omega (arith, here, there, was.long) in
    ap (λ n. line_at (rung_at new at) (timer_line n)) here
    ∙ set-if (is_due_at new.time.count new.timers at) new.lines (timer_line at) inside
    ∙ ap (pending_if (is_due_at new.time.count new.timers at)) (was.quiet-yet at (omega arith))
    ∙ ap (λ n. pending_if (is_due_at n new.timers at) (line_at k (timer_line at))) was.now
    ∙ ap (λ t. pending_if (is_due_in k.time.count t) (line_at k (timer_line at))) (was.waiting at (omega arith))
    ∙ ap (λ n. pending_if (is_due_at k.time.count k.timers n) (line_at k (timer_line n))) (sym here)
rang-more false k new at place was test small there =
    let below : place < at = grind (arith, nat_tests, test, small) in
    set-if-other (is_due_at new.time.count new.timers at) new.lines (timer_line at) (timer_line place)
    (record (line_at new (timer_line at)) { pending = true }) (λ is. omega (arith, below, is))
    ∙ was.rang place below there

rung-more : (k new : KernelState) (at : ℕ) → IsRung k new at → IsRung k (rung_at new at) (suc at)
rung-more k new at was = record {
  now = was.now;
  long = set-if-length (is_due_at new.time.count new.timers at) new.lines (timer_line at) (record (line_at new (timer_line at)) { pending = true }) ∙ was.long;
  passed = λ place small. passed-more (place == at) k new at place was refl small;
  waiting = λ place above.
      get_or-set_other new.timers at place (option_map (timer_ticked new.time.count) (timer_at new.timers at)) None (λ is. omega (arith, above, is))
      ∙ was.waiting place (omega (arith, above));
  rang = λ place small there. rang-more (place == at) k new at place was refl small there;
  quiet-yet = λ place above.
      set-if-other (is_due_at new.time.count new.timers at) new.lines (timer_line at) (timer_line place)
      (record (line_at new (timer_line at)) { pending = true }) (λ is. omega (arith, above, is))
      ∙ was.quiet-yet place (omega (arith, above));
  device = λ line small.
      set-if-other (is_due_at new.time.count new.timers at) new.lines (timer_line at) line
      (record (line_at new (timer_line at)) { pending = true }) (λ is. omega (arith, small, is))
      ∙ was.device line small;
}

is-rung : (k : KernelState) (count : ℕ) → IsRung k (rung_below k count) count
unfolding rung_below
is-rung k zero = record {
  now = refl;
  long = refl;
  passed = λ place small. absurd (omega (arith, small));
  waiting = λ place above. refl;
  rang = λ place small there. absurd (omega (arith, small));
  quiet-yet = λ place above. refl;
  device = λ line small. refl;
}
is-rung k (suc at) = rung-more k (rung_below k at) at (is-rung k at)

-- What a tick makes of a kernel, where it is counted.

-- the kernel in which handlers are rung
abbrev before-rings : KernelState → KernelState
before-rings k = prioritized (all_timed_out (record k { time = advanced k.time }) (due_from (advanced k.time) 0))

leaves-before : (k : KernelState) → Leaves (record k { time = advanced k.time }) (before-rings k)
leaves-before k =
    let now : KernelState = record k { time = advanced k.time } in
    let ids : List ℕ = due_from (advanced k.time) 0 in
    leaves-then (leaves-timed now ids) (leaves-prioritized (all_timed_out now ids))

early-test : (n : ℕ) → n < last_count → nat_lt n last_count ≡ true
early-test n early = grind (arith, nat_tests, early)

late-test : (n : ℕ) → last_count ≤ n → nat_lt n last_count ≡ false
late-test n late = grind (arith, nat_tests, late)

counted : (k : KernelState) → k.time.count < last_count → (advanced k.time).count ≡ k.time.count + 1
counted k early = ap (λ t. (if t then record k.time { count = k.time.count + 1 } else k.time).count) (early-test k.time.count early)

ticked-is : (k : KernelState) → k.time.count < last_count → ticked k ≡ rung (before-rings k)
ticked-is k early = ap (λ t. if t then ticked_on k (advanced k.time) else k) (early-test k.time.count early)

rung-is : (k : KernelState) → k.standard ≡ true → rung k ≡ rung_below k 128
rung-is k standard = ap (λ t. if t then rung_below k 128 else k) standard

all-rung : (k : KernelState) → k.standard ≡ true → k.time.count < last_count → IsRung (before-rings k) (ticked k) 128
all-rung k standard early =
    subst (λ new. IsRung (before-rings k) new 128) (sym (ticked-is k early ∙ rung-is (before-rings k) ((leaves-before k).standard ∙ standard)))
    (is-rung (before-rings k) 128)

-- The law.

count-rung : (standard : Bool) (k : KernelState) → (if standard then rung_below k 128 else k).time.count ≡ k.time.count
count-rung true k = (is-rung k 128).now
count-rung false k = refl

pub a-tick-counts : (k : KernelState) → k.time.count < last_count → (ticked k).time.count ≡ k.time.count + 1
a-tick-counts k early =
    ap (λ new. new.time.count) (ticked-is k early)
    ∙ count-rung (before-rings k).standard (before-rings k)
    ∙ (leaves-before k).count ∙ counted k early

pub a-line-rings : (k : KernelState) (place : ℕ) → k.standard ≡ true → k.time.count < last_count → place < 128 →
    timer_line place < length k.lines →
    line_at (ticked k) (timer_line place) ≡
    record (line_at k (timer_line place)) { pending = (line_at k (timer_line place)).pending || is_due_at (k.time.count + 1) k.timers place }
a-line-rings k place standard early small there =
    let was = leaves-before k in
    let now : (before-rings k).time.count ≡ k.time.count + 1 = was.count ∙ counted k early in
    (all-rung k standard early).rang place small (subst (λ l. timer_line place < length l) (sym was.lines) there)
    ∙ ap (λ n. pending_if (is_due_at n (before-rings k).timers place) (line_at (before-rings k) (timer_line place))) now
    ∙ ap (λ t. pending_if (is_due_at (k.time.count + 1) t place) (line_at (before-rings k) (timer_line place))) was.timers
    ∙ ap (λ l. pending_if (is_due_at (k.time.count + 1) k.timers place) (slice_index_or l (timer_line place) (quiet None))) was.lines

pub a-timer-goes-on : (k : KernelState) (place : ℕ) → k.standard ≡ true → k.time.count < last_count → place < 128 →
    timer_at (ticked k).timers place ≡ option_map (timer_ticked (k.time.count + 1)) (timer_at k.timers place)
a-timer-goes-on k place standard early small =
    let was = leaves-before k in
    let now : (before-rings k).time.count ≡ k.time.count + 1 = was.count ∙ counted k early in
    (all-rung k standard early).passed place small
    ∙ ap (λ n. option_map (timer_ticked n) (timer_at (before-rings k).timers place)) now
    ∙ ap (λ t. option_map (timer_ticked (k.time.count + 1)) (timer_at t place)) was.timers

device-rung : (standard : Bool) (k : KernelState) (line : ℕ) → line < 32 → line_at (if standard then rung_below k 128 else k) line ≡ line_at k line
device-rung true k line small = (is-rung k 128).device line small
device-rung false k line small = refl

device-if : (early : Bool) (k : KernelState) (line : ℕ) → line < 32 →
    line_at (if early then ticked_on k (advanced k.time) else k) line ≡ line_at k line
device-if true k line small =
    device-rung (before-rings k).standard (before-rings k) line small
    ∙ ap (λ l. slice_index_or l line (quiet None)) (leaves-before k).lines
device-if false k line small = refl

pub a-device-stays : (k : KernelState) (line : ℕ) → line < 32 → line_at (ticked k) line ≡ line_at k line
a-device-stays k line small = device-if (nat_lt k.time.count last_count) k line small

plain-rung : (k : KernelState) → k.standard ≡ false → rung k ≡ k
plain-rung k plain = ap (λ t. if t then rung_below k 128 else k) plain

plain-if : (early : Bool) (k : KernelState) → k.standard ≡ false →
    let new : KernelState = if early then ticked_on k (advanced k.time) else k in
    (new.lines ≡ k.lines) × (new.timers ≡ k.timers)
plain-if true k plain =
    let was = leaves-before k in
    let is : rung (before-rings k) ≡ before-rings k = plain-rung (before-rings k) (was.standard ∙ plain) in
    (ap (λ new. new.lines) is ∙ was.lines, ap (λ new. new.timers) is ∙ was.timers)
plain-if false k plain = (refl, refl)

pub plain-stays : (k : KernelState) → k.standard ≡ false → ((ticked k).lines ≡ k.lines) × ((ticked k).timers ≡ k.timers)
plain-stays k plain = plain-if (nat_lt k.time.count last_count) k plain

pub over-stays : (k : KernelState) → last_count ≤ k.time.count → ticked k ≡ k
over-stays k late = ap (λ t. if t then ticked_on k (advanced k.time) else k) (late-test k.time.count late)
