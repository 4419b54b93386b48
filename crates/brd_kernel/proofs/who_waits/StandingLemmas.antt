-- Who stands in the lists of waiters, while some have left them whose waits haven't ended yet.
use Rattle.std.proofs.Common.{◌≡◌, ℕ, List, [], length, refl, sym, ap, subst, ◌∙◌, arith}
use Rattle.std.specs.Prelude.{Bool, true, false, ◌==◌, ◌&&◌, if◌then◌else◌, Option, None, Some, is_some}
use Rattle.std.proofs.lemmas.Bool.{and_parts, true≢false, false≢true}
use Rattle.std.proofs.lemmas.Bool.Decides.{nat_tests}
use Rattle.brd_queue.specs.Queue.{Plain, has, priority_in, AreApart}
use Rattle.brd_queue.proofs.PriorityLemmas.{has-priority_in}
use Rattle.brd_tasks.specs.declared.status.WaitReason.{WaitReason}
use Rattle.brd_tasks.specs.declared.status.WaitReason.TheVariants as reason
use Rattle.brd_tasks.specs.declared.status.WaitKind.{WaitKind}
use Rattle.brd_tasks.specs.declared.status.WaitKind.TheVariants as kind
use Rattle.brd_tasks.specs.declared.task.Task.{Task}
use Rattle.brd_tasks.specs.Status.{waiting_of}
use Rattle.brd_tasks.specs.Tasks.{TaskTable, task_at}
use Rattle.brd_time.specs.Time.{Time, due_of}
use Rattle.brd_kernel.specs.Kernel.{KernelState}
use Rattle.brd_kernel.specs.Waits.{reason_in, reason_of}
use Rattle.brd_kernel.specs.Waiting.{standing_for, has_list, EachIsKept, WaitsAreKept}
use Rattle.brd_kernel.proofs.who_waits.ListLemmas.{among, priority_in-absent, same-number}

abbrev pub is_same : WaitKind → WaitKind → Bool
is_same kind.Semaphore kind.Semaphore = true
is_same kind.Flag kind.Flag = true
is_same kind.Room kind.Room = true
is_same kind.Datum kind.Datum = true
is_same kind.Mutex kind.Mutex = true
is_same kind.Block kind.Block = true
is_same kind.Message kind.Message = true
is_same what other = false

same-kind : (what other : WaitKind) → is_same what other ≡ true → what ≡ other
same-kind kind.Semaphore kind.Semaphore is = refl
same-kind kind.Flag kind.Flag is = refl
same-kind kind.Room kind.Room is = refl
same-kind kind.Datum kind.Datum is = refl
same-kind kind.Mutex kind.Mutex is = refl
same-kind kind.Block kind.Block is = refl
same-kind kind.Message kind.Message is = refl
same-kind what other is = absurd (false≢true is)

kind-itself : (what : WaitKind) → is_same what what ≡ true
kind-itself kind.Semaphore = refl
kind-itself _ = refl

-- who waits for the one stands in the list of the other
abbrev pub stands_in : WaitReason → WaitReason → Bool
stands_in (reason.On what object) (reason.On other at) = is_same what other && object == at
stands_in why other = false

pub stands-same : (why other : WaitReason) → stands_in why other ≡ true → why ≡ other
stands-same (reason.On what object) (reason.On other at) is =
    let parts = and_parts (is_same what other) (object == at) is in
    ap (λ w. reason.On w object) (same-kind what other parts.0) ∙ ap (reason.On other) (same-number object at parts.1)
stands-same why other is = absurd (false≢true is)

itself : (n : ℕ) → (n == n) ≡ true
itself n = grind (arith, nat_tests)

stands-itself : (why : WaitReason) → stands_in why why ≡ has_list why
stands-itself reason.Sleep = refl
stands-itself reason.Delay = refl
stands-itself (reason.On what object) = ap (λ b. b && object == object) (kind-itself what) ∙ itself object

-- what a task waits for, and with which priority
abbrev pub waits_by : Option WaitReason → ℕ → Option (WaitReason × ℕ)
waits_by None priority = None
waits_by (Some why) priority = Some (why, priority)

abbrev pub waits : Option Task → Option (WaitReason × ℕ)
waits None = None
waits (Some task) = waits_by (waiting_of task.status) task.priority

-- the priority with which it then stands in a list
abbrev pub wanted : Option (WaitReason × ℕ) → WaitReason → Option ℕ
wanted None why = None
wanted (Some wait) why = if stands_in wait.0 why then Some wait.1 else None

-- who waits for nothing has no tick at which that ends, and who waits for time alone has one
abbrev pub IsTimedBy : WaitReason → Option ℕ → Type 0
IsTimedBy reason.Delay due = is_some due ≡ true
IsTimedBy _ due = Unit {0}

abbrev pub IsTimed : Option (WaitReason × ℕ) → Option ℕ → Type 0
IsTimed None due = due ≡ None
IsTimed (Some wait) due = IsTimedBy wait.0 due

-- All but some stand in the list of what they wait for, and in no other; those stand in no list.
pub record Stands (but : List ℕ) (t : TaskTable) (time : Time) (lists : WaitReason → List Plain) : Type 0 where
  pub rows : length t.rows ≡ 256
  pub dues : length time.dues ≡ 256
  pub apart : (why : WaitReason) → AreApart (lists why)
  pub listed : (id : ℕ) (why : WaitReason) → priority_in id (lists why) ≡ (if among id but then None else wanted (waits (task_at t id)) why)
  pub timed : (id : ℕ) → among id but ≡ false → IsTimed (waits (task_at t id)) (due_of time id)

-- It is what is kept of waits, where nobody is excepted.

nothing-in : (k : KernelState) (why : WaitReason) → has_list why ≡ false → standing_for k why ≡ []
nothing-in k reason.Sleep none = refl
nothing-in k reason.Delay none = refl
nothing-in k _ none = absurd (true≢false none)

list-there : (list : Bool) (k : KernelState) (id : ℕ) (why : WaitReason) → has_list why ≡ list → has id (standing_for k why) ≡ true →
    has_list why ≡ true
list-there true k id why is there = is
list-there false k id why is there = absurd (false≢true (sym (ap (has id) (nothing-in k why is)) ∙ there))

absent-by : (there : Bool) (id : ℕ) (xs : List Plain) → has id xs ≡ there → (has id xs ≡ true → ⊥) → priority_in id xs ≡ None
absent-by true id xs is never = absurd (never is)
absent-by false id xs is never = priority_in-absent id xs is

some-reason : (why other : WaitReason) → ◌≡◌ {A = Option WaitReason} (Some why) (Some other) → why ≡ other
some-reason why other is = cc

listed-by : (same : Bool) (k : KernelState) (id : ℕ) (task : Task) (why other : WaitReason) → WaitsAreKept k → task_at k.tasks id ≡ Some task →
    waiting_of task.status ≡ Some other → stands_in other why ≡ same →
    priority_in id (standing_for k why) ≡ (if same then Some task.priority else None)
listed-by true k id task why other was is waiting test =
    let one : other ≡ why = stands-same other why test in
    let list : has_list why ≡ true = sym (stands-itself why) ∙ ap (λ w. stands_in w why) (sym one) ∙ test in
    was.listed id task why is (waiting ∙ ap Some one) list
listed-by false k id task why other was is waiting test =
    absent-by (has id (standing_for k why)) id (standing_for k why) refl
    (λ there.
    let one : other ≡ why = some-reason other why (sym waiting ∙ sym (ap reason_in is) ∙ was.only id why there) in
    let list : has_list why ≡ true = list-there (has_list why) k id why refl there in
    false≢true (sym test ∙ ap (λ w. stands_in w why) one ∙ stands-itself why ∙ list))

listed-waiting : (k : KernelState) (id : ℕ) (task : Task) (why : WaitReason) (waiting : Option WaitReason) → WaitsAreKept k →
    task_at k.tasks id ≡ Some task →
    waiting_of task.status ≡ waiting → priority_in id (standing_for k why) ≡ wanted (waits_by waiting task.priority) why
listed-waiting k id task why None was is none =
    absent-by (has id (standing_for k why)) id (standing_for k why) refl
    (λ there. let wrong : ◌≡◌ {A = Option WaitReason} None (Some why) = sym none ∙ sym (ap reason_in is) ∙ was.only id why there in
    let no : ⊥ = cc in no)
listed-waiting k id task why (Some other) was is waiting = listed-by (stands_in other why) k id task why other was is waiting refl

listed-row : (k : KernelState) (id : ℕ) (row : Option Task) (why : WaitReason) → WaitsAreKept k → task_at k.tasks id ≡ row →
    priority_in id (standing_for k why) ≡ wanted (waits row) why
listed-row k id None why was is =
    absent-by (has id (standing_for k why)) id (standing_for k why) refl
    (λ there. let wrong : ◌≡◌ {A = Option WaitReason} None (Some why) = sym (ap reason_in is) ∙ was.only id why there in
    let no : ⊥ = cc in no)
listed-row k id (Some task) why was is = listed-waiting k id task why (waiting_of task.status) was is refl

timed-waiting : (k : KernelState) (id : ℕ) (waiting : Option WaitReason) (priority : ℕ) → WaitsAreKept k → reason_of k id ≡ waiting →
    IsTimed (waits_by waiting priority) (due_of k.time id)
timed-waiting k id None priority was is = was.timed id is
timed-waiting k id (Some reason.Delay) priority was is = was.delayed id is
timed-waiting k id (Some _) priority was is = tt

timed-row : (k : KernelState) (id : ℕ) (row : Option Task) → WaitsAreKept k → task_at k.tasks id ≡ row → IsTimed (waits row) (due_of k.time id)
timed-row k id None was is = was.timed id (ap reason_in is)
timed-row k id (Some task) was is = timed-waiting k id (waiting_of task.status) task.priority was (ap reason_in is)

abbrev pub StandsIn : List ℕ → KernelState → Type 0
StandsIn but k = Stands but k.tasks k.time (standing_for k)

pub stands : (k : KernelState) → WaitsAreKept k → StandsIn [] k
stands k was = record {
  rows = was.rows;
  dues = was.dues;
  apart = was.apart;
  listed = λ id why. listed-row k id (task_at k.tasks id) why was refl;
  timed = λ id none. timed-row k id (task_at k.tasks id) was refl;
}

kept-waits : (task : Task) (why : WaitReason) → waiting_of task.status ≡ Some why → waits (Some task) ≡ Some (why, task.priority)
kept-waits task why is = ap (λ w. waits_by w task.priority) is

pub some-if : (test : Bool) (n : ℕ) → is_some (if test then Some n else None) ≡ true → test ≡ true
some-if true n is = refl
some-if false n is = absurd (false≢true is)

reason-by : (waiting : Option WaitReason) (priority : ℕ) (why : WaitReason) → is_some (wanted (waits_by waiting priority) why) ≡ true →
    waiting ≡ Some why
reason-by None priority why there = absurd (false≢true there)
reason-by (Some other) priority why there = ap Some (stands-same other why (some-if (stands_in other why) priority there))

reason-row : (row : Option Task) (why : WaitReason) → is_some (wanted (waits row) why) ≡ true → reason_in row ≡ Some why
reason-row None why there = absurd (false≢true there)
reason-row (Some task) why there = reason-by (waiting_of task.status) task.priority why there

no-wait : (row : Option Task) → reason_in row ≡ None → waits row ≡ None
no-wait None none = refl
no-wait (Some task) none = ap (λ w. waits_by w task.priority) none

delay-wait : (row : Option Task) (due : Option ℕ) → reason_in row ≡ Some reason.Delay → IsTimed (waits row) due → is_some due ≡ true
delay-wait None due is timed = let wrong : ⊥ = cc in absurd wrong
delay-wait (Some task) due is timed = subst (λ w. IsTimed (waits_by w task.priority) due) is timed

pub kept : (k : KernelState) → StandsIn [] k → EachIsKept k → WaitsAreKept k
kept k all each = record {
  rows = all.rows;
  dues = all.dues;
  apart = all.apart;
  listed = λ id task why is waiting list.
      all.listed id why ∙ ap (λ r. wanted (waits r) why) is ∙ ap (λ w. wanted w why) (kept-waits task why waiting)
      ∙ ap (λ t. if t then Some task.priority else None) (stands-itself why ∙ list);
  only = λ id why there.
      reason-row (task_at k.tasks id) why
      (ap is_some (sym (all.listed id why)) ∙ sym (has-priority_in id (standing_for k why)) ∙ there);
  each = each;
  timed = λ id none. subst (λ w. IsTimed w (due_of k.time id)) (no-wait (task_at k.tasks id) none) (all.timed id refl);
  delayed = λ id is. delay-wait (task_at k.tasks id) (due_of k.time id) is (all.timed id refl);
}
