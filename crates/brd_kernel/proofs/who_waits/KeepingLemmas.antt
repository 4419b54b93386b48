-- What keeps it that who waits stands in the list of what it waits for: a wait ends or begins, or the task has another
-- priority.
use Rattle.std.proofs.Common.{◌≡◌, ◌<◌, ℕ, List, [], ◌∷◌, length, refl, sym, ap, subst, ◌∙◌, arith}
use Rattle.std.specs.Prelude.{Bool, true, false, ◌==◌, ◌&&◌, ◌||◌, if◌then◌else◌, Option, None, Some, is_some, slice_index_or, slice_set}
use Rattle.std.proofs.lemmas.Bool.Decides.{nat_tests}
use Rattle.std.proofs.lemmas.Grind.{get_or-set_at}
use Rattle.std.proofs.lemmas.List.{length-set, get_or-set_other}
use Rattle.brd_queue.specs.Queue.{Plain, has, priority_in, AreApart}
use Rattle.brd_queue.proofs.PriorityLemmas.{has-priority_in}
use Rattle.brd_tasks.specs.declared.status.WaitReason.{WaitReason}
use Rattle.brd_tasks.specs.declared.task.Task.{Task}
use Rattle.brd_tasks.specs.Tasks.{TaskTable, task_at}
use Rattle.brd_time.specs.Time.{Time, due_of, with_due}
use Rattle.brd_kernel.proofs.who_waits.ListLemmas.{among, same-number, if-same, cleared-at}
use Rattle.brd_kernel.proofs.who_waits.StandingLemmas.{stands_in, stands-same, some-if, waits, wanted, IsTimedBy, IsTimed, Stands}

-- the lists are the same, one by one
pub by-lists : (but : List ℕ) (t : TaskTable) (time : Time) (old new : WaitReason → List Plain) → ((why : WaitReason) → new why ≡ old why) →
    Stands but t time old → Stands but t time new
by-lists but t time old new same was = record {
  rows = was.rows;
  dues = was.dues;
  apart = λ why. subst AreApart (sym (same why)) (was.apart why);
  listed = λ id why. ap (priority_in id) (same why) ∙ was.listed id why;
  timed = was.timed;
}

-- every task waits as before
pub by-rows : (but : List ℕ) (t new : TaskTable) (time : Time) (lists : WaitReason → List Plain) → length new.rows ≡ length t.rows →
    ((at : ℕ) → waits (task_at new at) ≡ waits (task_at t at)) → Stands but t time lists → Stands but new time lists
by-rows but t new time lists long same was = record {
  rows = long ∙ was.rows;
  dues = was.dues;
  apart = was.apart;
  listed = λ id why. was.listed id why ∙ ap (λ w. if among id but then None else wanted w why) (sym (same id));
  timed = λ id in_it. subst (λ w. IsTimed w (due_of time id)) (sym (same id)) (was.timed id in_it);
}

-- a tick passes
pub by-count : (but : List ℕ) (t : TaskTable) (time new : Time) (lists : WaitReason → List Plain) → new.dues ≡ time.dues →
    Stands but t time lists → Stands but t new lists
by-count but t time new lists same was = record {
  rows = was.rows;
  dues = ap length same ∙ was.dues;
  apart = was.apart;
  listed = was.listed;
  timed = λ id in_it. subst (λ d. IsTimed (waits (task_at t id)) (slice_index_or d id None)) (sym same) (was.timed id in_it);
}

-- some leave the lists
pub by-leaving : (ids : List ℕ) (t : TaskTable) (time : Time) (old new : WaitReason → List Plain) →
    ((why : WaitReason) → AreApart (new why)) →
    ((id : ℕ) (why : WaitReason) → priority_in id (new why) ≡ (if among id ids then None else priority_in id (old why))) →
    Stands [] t time old → Stands ids t time new
by-leaving ids t time old new apart left was = record {
  rows = was.rows;
  dues = was.dues;
  apart = apart;
  listed = λ id why. left id why ∙ ap (λ p. if among id ids then None else p) (was.listed id why);
  timed = λ id in_it. was.timed id refl;
}

-- One list is written anew.

-- the list of those who wait for something is that, and every other list is as it was
abbrev pub Rewrites : WaitReason → List Plain → (WaitReason → List Plain) → (WaitReason → List Plain) → Type 0
Rewrites why list old new = (other : WaitReason) → new other ≡ (if stands_in why other then list else old other)

apart-by : (same : Bool) (list old : List Plain) → AreApart list → AreApart old → AreApart (if same then list else old)
apart-by true list old one other = one
apart-by false list old one other = other

pub apart-rewritten : (why : WaitReason) (list : List Plain) (old new : WaitReason → List Plain) → Rewrites why list old new → AreApart list →
    ((other : WaitReason) → AreApart (old other)) → (other : WaitReason) → AreApart (new other)
apart-rewritten why list old new all here there other =
    subst AreApart (sym (all other)) (apart-by (stands_in why other) list (old other) here (there other))

-- who waits in one list waits in no other
wanted-once : (wait : Option (WaitReason × ℕ)) (why other : WaitReason) → is_some (wanted wait why) ≡ true → stands_in why other ≡ false →
    wanted wait other ≡ None
wanted-once None why other there apart = refl
wanted-once (Some wait) why other there apart =
    let one : wait.0 ≡ why = stands-same wait.0 why (some-if (stands_in wait.0 why) wait.1 there) in
    ap (λ w. if stands_in w other then Some wait.1 else None) one ∙ ap (λ t. if t then Some wait.1 else None) apart

-- whoever leaves one list stands in no other
elsewhere : (out same : Bool) (t : TaskTable) (time : Time) (lists : WaitReason → List Plain) (why other : WaitReason) (ids : List ℕ)
    (list : List Plain) (id : ℕ) → Stands [] t time lists →
    among id ids ≡ out → stands_in why other ≡ same → ((at : ℕ) → among at ids ≡ true → has at (lists why) ≡ true) →
    ((at : ℕ) → priority_in at list ≡ (if among at ids then None else priority_in at (lists why))) →
    priority_in id (if same then list else lists other) ≡ (if out then None else priority_in id (lists other))
elsewhere out true t time lists why other ids list id was gone test there left =
    left id ∙ ap (λ o. if o then None else priority_in id (lists why)) gone
    ∙ ap (λ w. if out then None else priority_in id (lists w)) (stands-same why other test)
elsewhere true false t time lists why other ids list id was gone test there left =
    was.listed id other
    ∙ wanted-once (waits (task_at t id)) why other (ap is_some (sym (was.listed id why)) ∙ sym (has-priority_in id (lists why)) ∙ there id gone) test
elsewhere false false t time lists why other ids list id was gone test there left = refl

-- some leave one list
pub by-leaving-one : (ids : List ℕ) (t : TaskTable) (time : Time) (old new : WaitReason → List Plain) (why : WaitReason) (list : List Plain) →
    Rewrites why list old new → AreApart list →
    ((at : ℕ) → among at ids ≡ true → has at (old why) ≡ true) →
    ((at : ℕ) → priority_in at list ≡ (if among at ids then None else priority_in at (old why))) → Stands [] t time old → Stands ids t time new
by-leaving-one ids t time old new why list all apart there left was =
    by-leaving ids t time old new (apart-rewritten why list old new all apart was.apart)
    (λ id other. ap (priority_in id) (all other)
    ∙ elsewhere (among id ids) (stands_in why other) t time old why other ids list id was refl refl there left) was

-- A wait ends.

ended-listed : (same : Bool) (id at : ℕ) (but : List ℕ) (t : TaskTable) (time : Time) (lists : WaitReason → List Plain) (row : Option Task)
    (why : WaitReason) → (id == at) ≡ same →
    Stands (id ∷ but) t time lists → waits row ≡ (if same then None else waits (task_at t at)) →
    priority_in at (lists why) ≡ (if among at but then None else wanted (waits row) why)
ended-listed true id at but t time lists row why test was now =
    was.listed at why
    ∙ ap (λ s. if s || among at but then None else wanted (waits (task_at t at)) why) test
    ∙ sym (ap (λ w. if among at but then None else wanted w why) now ∙ if-same (among at but) None)
ended-listed false id at but t time lists row why test was now =
    was.listed at why
    ∙ ap (λ s. if s || among at but then None else wanted (waits (task_at t at)) why) test
    ∙ sym (ap (λ w. if among at but then None else wanted w why) now)

ended-timed : (same : Bool) (id at : ℕ) (but : List ℕ) (t : TaskTable) (time : Time) (lists : WaitReason → List Plain) (row : Option Task) →
    (id == at) ≡ same →
    Stands (id ∷ but) t time lists → waits row ≡ (if same then None else waits (task_at t at)) → among at but ≡ false →
    IsTimed (waits row) (if same then None else due_of time at)
ended-timed true id at but t time lists row test was now in_it = subst (λ w. IsTimed w None) (sym now) refl
ended-timed false id at but t time lists row test was now in_it =
    subst (λ w. IsTimed w (due_of time at)) (sym now) (was.timed at (ap (λ s. s || among at but) test ∙ in_it))

-- a task of which the wait has ended, and that stands in no list
pub by-ending : (id : ℕ) (but : List ℕ) (t new : TaskTable) (time : Time) (lists : WaitReason → List Plain) → length new.rows ≡ length t.rows →
    ((at : ℕ) → waits (task_at new at) ≡ (if id == at then None else waits (task_at t at))) → Stands (id ∷ but) t time lists →
    Stands but new (with_due time id None) lists
by-ending id but t new time lists long now was = record {
  rows = long ∙ was.rows;
  dues = length-set time.dues id None ∙ was.dues;
  apart = was.apart;
  listed = λ at why. ended-listed (id == at) id at but t time lists (task_at new at) why refl was (now at);
  timed = λ at in_it. subst (IsTimed (waits (task_at new at))) (sym (cleared-at time.dues id at))
      (ended-timed (id == at) id at but t time lists (task_at new at) refl was (now at) in_it);
}

-- A wait begins.

-- a task has entered the list of what it waits for, with its priority; where that has no list, the lists are as they
-- were
pub record IsEntered (id : ℕ) (why : WaitReason) (priority : ℕ) (old new : WaitReason → List Plain) : Type 0 where
  pub apart : (other : WaitReason) → AreApart (new other)
  pub listed : (at : ℕ) (other : WaitReason) →
      priority_in at (new other) ≡
      (if stands_in why other then (if id == at then Some priority else priority_in at (old other)) else priority_in at (old other))

begun-listed : (here same : Bool) (id at priority : ℕ) (t : TaskTable) (time : Time) (lists : WaitReason → List Plain) (row : Option Task)
    (why other : WaitReason) → (id == at) ≡ here →
    stands_in why other ≡ same → waits (task_at t id) ≡ None → Stands [] t time lists →
    waits row ≡ (if here then Some (why, priority) else waits (task_at t at)) →
    (if same then (if here then Some priority else priority_in at (lists other)) else priority_in at (lists other)) ≡ wanted (waits row) other
begun-listed true true id at priority t time lists row why other test stand none was now =
    sym (ap (λ w. wanted w other) now ∙ ap (λ s. if s then Some priority else None) stand)
begun-listed true false id at priority t time lists row why other test stand none was now =
    was.listed at other ∙ ap (λ n. wanted (waits (task_at t n)) other) (sym (same-number id at test)) ∙ ap (λ w. wanted w other) none
    ∙ sym (ap (λ w. wanted w other) now ∙ ap (λ s. if s then Some priority else None) stand)
begun-listed false same id at priority t time lists row why other test stand none was now =
    if-same same (priority_in at (lists other)) ∙ was.listed at other ∙ sym (ap (λ w. wanted w other) now)

begun-timed : (here : Bool) (id at priority : ℕ) (t : TaskTable) (time : Time) (lists : WaitReason → List Plain) (row : Option Task)
    (why : WaitReason) (due : Option ℕ) →
    Stands [] t time lists → waits row ≡ (if here then Some (why, priority) else waits (task_at t at)) → IsTimedBy why due →
    IsTimed (waits row) (if here then due else due_of time at)
begun-timed true id at priority t time lists row why due was now timed = subst (λ w. IsTimed w due) (sym now) timed
begun-timed false id at priority t time lists row why due was now timed = subst (λ w. IsTimed w (due_of time at)) (sym now) (was.timed at refl)

due-set : (xs : List (Option ℕ)) (id at : ℕ) (due : Option ℕ) → id < length xs →
    slice_index_or (slice_set xs id due) at None ≡ (if id == at then due else slice_index_or xs at None)
due-set xs id at due small = grind (arith, nat_tests, get_or-set_at xs id at due None, get_or-set_other xs id at due None, small)

-- a task that waited for nothing begins to wait
pub by-beginning : (id priority : ℕ) (why : WaitReason) (due : Option ℕ) (t new : TaskTable) (time : Time) (old lists : WaitReason → List Plain) →
    length new.rows ≡ length t.rows → id < 256 →
    waits (task_at t id) ≡ None → ((at : ℕ) → waits (task_at new at) ≡ (if id == at then Some (why, priority) else waits (task_at t at))) →
    IsTimedBy why due →
    IsEntered id why priority old lists → Stands [] t time old → Stands [] new (with_due time id due) lists
by-beginning id priority why due t new time old lists long small none now timed entered was = record {
  rows = long ∙ was.rows;
  dues = length-set time.dues id due ∙ was.dues;
  apart = entered.apart;
  listed = λ at other. entered.listed at other
      ∙ begun-listed (id == at) (stands_in why other) id at priority t time old (task_at new at) why other refl refl none was (now at);
  timed = λ at in_it. subst (IsTimed (waits (task_at new at))) (sym (due-set time.dues id at due (omega (arith, was.dues, small))))
      (begun-timed (id == at) id at priority t time old (task_at new at) why due was (now at) timed);
}

-- Another priority.

again-by : (test : Bool) (old p : ℕ) →
    (if is_some (if test then Some old else None) then Some p else (if test then Some old else None)) ≡ (if test then Some p else None)
again-by true old p = refl
again-by false old p = refl

again-listed : (here : Bool) (id at p : ℕ) (wait : WaitReason × ℕ) (t : TaskTable) (time : Time) (lists : WaitReason → List Plain) (row : Option Task)
    (why : WaitReason) → (id == at) ≡ here →
    waits (task_at t id) ≡ Some wait → Stands [] t time lists → waits row ≡ (if here then Some (wait.0, p) else waits (task_at t at)) →
    (if here && has id (lists why) then Some p else priority_in at (lists why)) ≡ wanted (waits row) why
again-listed true id at p wait t time lists row why test is was now =
    ap (λ n. if has id (lists why) then Some p else priority_in n (lists why)) (sym (same-number id at test))
    ∙ ap (λ h. if h then Some p else priority_in id (lists why)) (has-priority_in id (lists why))
    ∙ ap (λ q. if is_some q then Some p else q) (was.listed id why ∙ ap (λ w. wanted w why) is)
    ∙ again-by (stands_in wait.0 why) wait.1 p
    ∙ sym (ap (λ w. wanted w why) now)
again-listed false id at p wait t time lists row why test is was now = was.listed at why ∙ sym (ap (λ w. wanted w why) now)

again-timed : (here : Bool) (id at p : ℕ) (wait : WaitReason × ℕ) (t : TaskTable) (time : Time) (lists : WaitReason → List Plain)
    (row : Option Task) → (id == at) ≡ here →
    waits (task_at t id) ≡ Some wait → Stands [] t time lists → waits row ≡ (if here then Some (wait.0, p) else waits (task_at t at)) →
    IsTimed (waits row) (due_of time at)
again-timed true id at p wait t time lists row test is was now =
    subst (λ w. IsTimed w (due_of time at)) (sym now)
    (subst (λ n. IsTimedBy wait.0 (due_of time n)) (same-number id at test) (subst (λ w. IsTimed w (due_of time id)) is (was.timed id refl)))
again-timed false id at p wait t time lists row test is was now = subst (λ w. IsTimed w (due_of time at)) (sym now) (was.timed at refl)

-- a task that waits is given another priority, in the lists too in which it stands
pub by-priority : (id p : ℕ) (wait : WaitReason × ℕ) (t new : TaskTable) (time : Time) (old lists : WaitReason → List Plain) →
    length new.rows ≡ length t.rows →
    waits (task_at t id) ≡ Some wait → ((at : ℕ) → waits (task_at new at) ≡ (if id == at then Some (wait.0, p) else waits (task_at t at))) →
    ((why : WaitReason) → AreApart (lists why)) →
    ((at : ℕ) (why : WaitReason) → priority_in at (lists why) ≡ (if (id == at) && has id (old why) then Some p else priority_in at (old why))) →
    Stands [] t time old → Stands [] new time lists
by-priority id p wait t new time old lists long is now apart listed was = record {
  rows = long ∙ was.rows;
  dues = was.dues;
  apart = apart;
  listed = λ at why. listed at why ∙ again-listed (id == at) id at p wait t time old (task_at new at) why refl is was (now at);
  timed = λ at in_it. again-timed (id == at) id at p wait t time old (task_at new at) refl is was (now at);
}
