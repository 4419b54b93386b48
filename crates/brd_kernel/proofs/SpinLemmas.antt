-- Every service call, exception, accepted interrupt and tick leaves each spin lock free or with exactly one holder,
-- which stands as a holder does.
use Rattle.std.proofs.Common.{◌≡◌, ℕ, zero, suc, ◌+◌, List, [], ◌∷◌, ◌<◌, ◌≤◌, length, refl, sym, ap, subst, ◌∙◌, arith}
use Rattle.std.specs.Prelude.{Bool, true, false, not, nat_lt, nat_le, ◌==◌, ◌&&◌, ◌||◌, if◌then◌else◌, slice_index_or, slice_set, Option, None, Some, is_some, unwrap_or}
use Rattle.std.proofs.lemmas.Bool.{true≢false, false≢true}
use Rattle.std.proofs.lemmas.Bool.Decides.{nat_tests}
use Rattle.std.proofs.lemmas.List.FromFn.{length-map-range_with_len, get_or-map-range_with_len}
use Rattle.std.proofs.Math.ListN.{get_or-eq_default}
use Rattle.brd_queue.specs.Queue.{Plain}
use Rattle.brd_tasks.specs.Tasks.{ready_on, noted, without_activation, first_id}
use Rattle.brd_time.specs.Time.{last_count, advanced, due_from}
use Rattle.brd_kernel.specs.declared.processor.Processor.{Processor}
use Rattle.brd_kernel.specs.declared.processor.Spin.{Spin}
use Rattle.brd_kernel.specs.declared.processor.Spin.TheVariants as spin
use Rattle.brd_kernel.specs.declared.call.Call.{Call}
use Rattle.brd_kernel.specs.Kernel.{KernelState, with_tasks, with_processor, processor_at, is_held, running_in, running_on, executor_by, executor_in, executor_on, idle, unmarked, letting_go, holding, is_spin, holds, holder_from, spin_by, has_spin_lock, spin_of, accepts, handles, accepted_line, deliverable, with_pending}
use Rattle.brd_kernel.specs.Making.{idle_one, idle_ones}
use Rattle.brd_kernel.specs.Dispatch.{dispatched_one, dispatched}
use Rattle.brd_kernel.specs.Holding.{IsHolder, HeldAs, AreLocks}
use Rattle.brd_kernel.proofs.RingLemmas.{Outlasts, rung-keeps}
use Rattle.brd_kernel.specs.Waits.{ticked_on, ticked, faulted_task, faulted_in, ended_by_fault, quits_in, prioritized, all_timed_out}
use Rattle.brd_kernel.specs.Services.{unmarked_on, handler_ended, serve_of, caller_on}
use Rattle.brd_kernel.proofs.who_waits.ListLemmas.{same-number, written-at}
use Rattle.brd_kernel.proofs.DispatchLemmas.{at-dispatched}
use Rattle.brd_kernel.proofs.SameLemmas.{Same, same-timed, same-law, same-quits, same-prioritized, same-then}
use Rattle.brd_kernel.proofs.WalkLemmas.{HoldsOn, Holding, Keeps, Opens, Takes, Leaves-none, Law, serve-leaves}
use Rattle.brd_kernel.proofs.who_runs.RunningCallLemmas.{IsTaker, known_of, MayServe}

-- The same said by processors.

pub record IsLocking (k : KernelState) : Type 0 where
  pub there : (cpu id : ℕ) → holds id (processor_at k cpu) ≡ true → has_spin_lock k id ≡ true
  pub one : (cpu other id : ℕ) → holds id (processor_at k cpu) ≡ true → holds id (processor_at k other) ≡ true →
      other ≡ cpu
  pub holders : (cpu id : ℕ) (p : Processor) → processor_at k cpu ≡ Some p → p.spin ≡ Some id → IsHolder k.standard p

-- who holds a lock that stands so
holder-of : (k : KernelState) (id cpu : ℕ) (lock : Option Spin) → HeldAs k id lock →
    holds id (processor_at k cpu) ≡ true → lock ≡ Some (spin.Held cpu)
holder-of k id cpu None held is = absurd (false≢true (sym (held cpu) ∙ is))
holder-of k id cpu (Some spin.Free) held is = absurd (false≢true (sym (held cpu) ∙ is))
holder-of k id cpu (Some (spin.Held at)) held is =
    ap (λ n. Some (spin.Held n)) (sym (same-number cpu at (sym (held cpu) ∙ is)))

there-by : (there : Bool) (lock : Spin) (cpu : ℕ) → (if there then Some lock else None) ≡ Some (spin.Held cpu) →
    there ≡ true
there-by true lock cpu is = refl
there-by false lock cpu is = absurd (false≢true (ap is_some is))

abbrev number_of : Option Spin → ℕ
number_of None = 0
number_of (Some spin.Free) = 0
number_of (Some (spin.Held cpu)) = cpu

pub locks-locking : (k : KernelState) → AreLocks k → IsLocking k
locks-locking k was = record {
  there = λ cpu id is. there-by (has_spin_lock k id) _ cpu (holder-of k id cpu (spin_of k id) (was.held id) is);
  one = λ cpu other id is also. ap number_of
      (sym (holder-of k id other (spin_of k id) (was.held id) also)
      ∙ holder-of k id cpu (spin_of k id) (was.held id) is);
  holders = was.holders;
}

-- The holder is the first that holds it.

record Found (id from n : ℕ) (ps : List (Option Processor)) : Type 0 where
  at : ℕ
  is : n ≡ from + at
  held : holds id (slice_index_or ps at None) ≡ true

found-by : (here : Bool) (id from n : ℕ) (p : Option Processor) (ps : List (Option Processor)) → holds id p ≡ here →
    (if here then Some from else holder_from id (from + 1) ps) ≡ Some n →
    (holder_from id (from + 1) ps ≡ Some n → Found id (from + 1) n ps) → Found id from n (p ∷ ps)
found-by true id from n p ps test is rest = record {
  at = 0;
  is = let same : from ≡ n = ap (λ o. unwrap_or o 0) is in omega (arith, same);
  held = test;
}
found-by false id from n p ps test is rest =
    let later : Found id (from + 1) n ps = rest is in
    record { at = suc later.at; is = omega (arith, later.is); held = later.held }

holder-found : (id from n : ℕ) (ps : List (Option Processor)) → holder_from id from ps ≡ Some n → Found id from n ps
holder-found id from n [] is = absurd (false≢true (ap is_some is))
holder-found id from n (p ∷ ps) is = found-by (holds id p) id from n p ps refl is (holder-found id (from + 1) n ps)

none-by : (here : Bool) (id from : ℕ) (ps : List (Option Processor)) →
    (if here then Some from else holder_from id (from + 1) ps) ≡ None →
    holder_from id (from + 1) ps ≡ None
none-by true id from ps is = absurd (true≢false (ap is_some is))
none-by false id from ps is = is

none-here : (here : Bool) (id from : ℕ) (ps : List (Option Processor)) →
    (if here then Some from else holder_from id (from + 1) ps) ≡ None → here ≡ false
none-here true id from ps is = absurd (true≢false (ap is_some is))
none-here false id from ps is = refl

pub holder-none : (id from at : ℕ) (ps : List (Option Processor)) → holder_from id from ps ≡ None →
    holds id (slice_index_or ps at None) ≡ false
holder-none id from at [] is = refl
holder-none id from zero (p ∷ ps) is = none-here (holds id p) id from ps is
holder-none id from (suc at) (p ∷ ps) is = holder-none id (from + 1) at ps (none-by (holds id p) id from ps is)

-- nobody holds a lock that isn't there
absent-by : (held : Bool) (k : KernelState) (cpu id : ℕ) → holds id (processor_at k cpu) ≡ held →
    has_spin_lock k id ≡ false → IsLocking k → held ≡ false
absent-by true k cpu id is none was = absurd (false≢true (sym none ∙ was.there cpu id is))
absent-by false k cpu id is none was = refl

same-number-is : (m n : ℕ) → m ≡ n → (m == n) ≡ true
same-number-is m n is = grind (arith, nat_tests, is)

-- one holds it, and no other
only-by : (held same : Bool) (k : KernelState) (id cpu other : ℕ) → holds id (processor_at k other) ≡ held →
    (other == cpu) ≡ same →
    holds id (processor_at k cpu) ≡ true → IsLocking k → held ≡ same
only-by true true k id cpu other is test holder was = refl
only-by false false k id cpu other is test holder was = refl
only-by true false k id cpu other is test holder was =
    sym (same-number-is other cpu (was.one cpu other id holder is)) ∙ test
only-by false true k id cpu other is test holder was =
    absurd (false≢true (sym is ∙ ap (λ n. holds id (processor_at k n)) (same-number other cpu test) ∙ holder))

held-by : (there : Bool) (first : Option ℕ) (k : KernelState) (id : ℕ) → has_spin_lock k id ≡ there →
    holder_from id 0 k.processors ≡ first →
    IsLocking k → HeldAs k id (if there then Some (spin_by first) else None)
held-by false first k id none is was = λ cpu. absent-by (holds id (processor_at k cpu)) k cpu id refl none was
held-by true None k id there is was = λ cpu. holder-none id 0 cpu k.processors is
held-by true (Some n) k id there is was =
    let found : Found id 0 n k.processors = holder-found id 0 n k.processors is in
    let same : n ≡ found.at = omega (arith, found.is) in
    λ other. only-by (holds id (processor_at k other)) (other == n) k id n other refl refl
    (ap (λ m. holds id (processor_at k m)) same ∙ found.held) was

pub locking-locks : (k : KernelState) → IsLocking k → AreLocks k
locking-locks k was = record {
  held = λ id. held-by (has_spin_lock k id) (holder_from id 0 k.processors) k id refl refl was;
  holders = was.holders;
}

-- a lock that is held so is held by that processor, and the other way round
pub held-holds : (k : KernelState) (id cpu : ℕ) → IsLocking k → spin_of k id ≡ Some (spin.Held cpu) →
    holds id (processor_at k cpu) ≡ true
held-holds k id cpu was is =
    subst (HeldAs k id) is ((locking-locks k was).held id) cpu ∙ same-number-is cpu cpu refl

pub holds-held : (k : KernelState) (id cpu : ℕ) → IsLocking k → holds id (processor_at k cpu) ≡ true →
    spin_of k id ≡ Some (spin.Held cpu)
holds-held k id cpu was is = holder-of k id cpu (spin_of k id) ((locking-locks k was).held id) is

pub free-unheld : (k : KernelState) (id cpu : ℕ) → IsLocking k → spin_of k id ≡ Some spin.Free →
    holds id (processor_at k cpu) ≡ false
free-unheld k id cpu was is = subst (HeldAs k id) is ((locking-locks k was).held id) cpu

-- Where a lock is free nobody holds it, and it is there.

free-there : (there : Bool) (first : Option ℕ) → (if there then Some (spin_by first) else None) ≡ Some spin.Free →
    there ≡ true
free-there true first is = refl
free-there false first is = absurd (false≢true (ap is_some is))

-- What an event's effects write: the processor that makes a step, if any, and nothing of another; what is then held on
-- it was held there before, or was free.

-- a processor may hold a lock: it stands as a holder, and who executes there is who executed there before
pub record MayHold (k : KernelState) (cpu id : ℕ) (q : Processor) : Type 0 where
  pub holder : IsHolder k.standard q
  pub executes : executor_in (Some q) ≡ executor_on k cpu
  pub there : has_spin_lock k id ≡ true
  pub alone : (other : ℕ) → holds id (processor_at k other) ≡ true → other ≡ cpu

pub record Written (k : KernelState) (cpu : ℕ) (p : Processor) (now : Option Processor) : Type 0 where
  pub q : Processor
  pub is : now ≡ Some q
  pub running : q.running ≡ p.running
  pub may : (id : ℕ) → q.spin ≡ Some id → MayHold k cpu id q

abbrev pub OwnAfter : KernelState → ℕ → Option Processor → Option Processor → Type 0
OwnAfter k cpu None now = now ≡ None
OwnAfter k cpu (Some p) now = Written k cpu p now

pub record Wrote (k : KernelState) (cpu : ℕ) (new : KernelState) : Type 0 where
  pub spin_locks : new.spin_locks ≡ k.spin_locks
  pub standard : new.standard ≡ k.standard
  pub others : (at : ℕ) → (cpu == at) ≡ false → processor_at new at ≡ processor_at k at
  pub own : OwnAfter k cpu (processor_at k cpu) (processor_at new cpu)

spin-is : (id : ℕ) (held : Option ℕ) → is_spin id held ≡ true → held ≡ Some id
spin-is id None is = absurd (false≢true is)
spin-is id (Some other) is = ap Some (same-number other id is)

is-spin : (id : ℕ) (held : Option ℕ) → held ≡ Some id → is_spin id held ≡ true
is-spin id held is = ap (is_spin id) is ∙ same-number-is id id refl

holds-by : (k : KernelState) (cpu id : ℕ) (p : Processor) → processor_at k cpu ≡ Some p → p.spin ≡ Some id →
    holds id (processor_at k cpu) ≡ true
holds-by k cpu id p there is = ap (holds id) there ∙ is-spin id p.spin is

-- what a processor may hold that holds it already
kept-hold : (k : KernelState) (cpu id : ℕ) (p q : Processor) → processor_at k cpu ≡ Some p → p.spin ≡ Some id →
    IsHolder k.standard q → executor_in (Some q) ≡ executor_in (Some p) → IsLocking k →
    MayHold k cpu id q
kept-hold k cpu id p q there is holder same was =
    let held : holds id (processor_at k cpu) ≡ true = holds-by k cpu id p there is in
    record {
      holder = holder;
      executes = same ∙ sym (ap executor_in there);
      there = was.there cpu id held;
      alone = λ other also. was.one cpu other id held also;
    }

own-same : (k : KernelState) (cpu : ℕ) (found now : Option Processor) → processor_at k cpu ≡ found → now ≡ found →
    IsLocking k → OwnAfter k cpu found now
own-same k cpu None now there same was = same
own-same k cpu (Some p) now there same was = record {
  q = p;
  is = same;
  running = refl;
  may = λ id is. kept-hold k cpu id p p there is (was.holders cpu id p there is) refl was;
}

-- nothing of processors and spin locks is written
pub same-wrote : (k : KernelState) (cpu : ℕ) (new : KernelState) → IsLocking k → Same new k → Wrote k cpu new
same-wrote k cpu new was same = record {
  spin_locks = same.spin_locks;
  standard = same.standard;
  others = λ at other. ap (λ ps. slice_index_or ps at None) same.processors;
  own = own-same k cpu (processor_at k cpu) (processor_at new cpu) refl
      (ap (λ ps. slice_index_or ps cpu None) same.processors) was;
}

-- a processor is written anew
put-wrote : (k : KernelState) (cpu : ℕ) (p q : Processor) (new : KernelState) →
    new.processors ≡ slice_set k.processors cpu (Some q) →
    new.spin_locks ≡ k.spin_locks → new.standard ≡ k.standard → processor_at k cpu ≡ Some p → q.running ≡ p.running →
    ((id : ℕ) → q.spin ≡ Some id → MayHold k cpu id q) →
    Wrote k cpu new
put-wrote k cpu p q new same locks standard there running may =
    let written : (at : ℕ) → processor_at new at ≡ (if cpu == at then Some q else processor_at k at) =
    λ at. ap (λ ps. slice_index_or ps at None) same ∙ written-at k.processors cpu at p (Some q) there in
    record {
      spin_locks = locks;
      standard = standard;
      others = λ at other. written at ∙ ap (λ t. if t then Some q else processor_at k at) other;
      own = subst (λ found. OwnAfter k cpu found (processor_at new cpu)) (sym there)
          (record {
            q = q;
            is = written cpu ∙ ap (λ t. if t then Some q else processor_at k cpu) (same-number-is cpu cpu refl);
            running = running;
            may = may;
          });
    }

-- who holds none may hold what it holds
holds-none : {X : Type 0} (held : Option ℕ) (id : ℕ) → held ≡ None → held ≡ Some id → X
holds-none held id none is = absurd (false≢true (ap is_some (sym none ∙ is)))

-- Marks.

-- on a processor that holds on executes who did, and it stands as a holder

same-executor : (p q : Processor) → q.running ≡ p.running → HoldsOn p q → executor_in (Some q) ≡ executor_in (Some p)
same-executor p q running on =
    ap (λ stopped. if stopped then None else executor_by q.running q.handling) on.on
    ∙ ap (λ handling. if p.stopped then None else executor_by q.running handling) on.handling
    ∙ ap (λ task. if p.stopped then None else executor_by task p.handling) running

holds-on : (standard : Bool) (p q : Processor) → HoldsOn p q → q.running ≡ p.running → IsHolder standard p →
    IsHolder standard q
holds-on standard p q on running was = record {
  locked = on.locked was.locked;
  executes = ap is_some (same-executor p q running on) ∙ was.executes;
  plain = λ none. on.handling ∙ was.plain none;
}

-- one that may take a spin lock does, once it is CPU-locked
taken-holder : (standard : Bool) (p : Processor) (id : ℕ) → IsTaker standard p → IsHolder standard (holding id p)
taken-holder standard p id may = record { locked = refl; executes = may.executes; plain = may.plain }

abbrev spin_in : Option Processor → Option ℕ
spin_in None = None
spin_in (Some p) = p.spin

marked-wrote : (k : KernelState) (cpu : ℕ) (here p q : Processor) → processor_at k cpu ≡ Some here →
    processor_at k cpu ≡ Some p →
    q.running ≡ p.running → Holding (known_of k.standard here (caller_on k cpu)) k p q → IsLocking k →
    Wrote k cpu (with_processor k cpu q)
marked-wrote k cpu here p q found there running (Keeps on) was =
    put-wrote k cpu p q (with_processor k cpu q) refl refl refl there running
    (λ id is. let held : p.spin ≡ Some id = sym on.spin ∙ is in
    kept-hold k cpu id p q there held (holds-on k.standard p q on running (was.holders cpu id p there held))
    (same-executor p q running on) was)
marked-wrote k cpu here p q found there running (Opens none same) was =
    put-wrote k cpu p q (with_processor k cpu q) refl refl refl there running
    (λ id is. holds-none q.spin id (same ∙ ap spin_in (sym there ∙ found) ∙ none) is)
marked-wrote k cpu here p q found there running (Takes id free may is) was =
    put-wrote k cpu p q (with_processor k cpu q) refl refl refl there running
    (λ other held. let named : id ≡ other = ap (λ o. unwrap_or o 0) (ap (λ (r : Processor). r.spin) (sym is) ∙ held) in
    let one : here ≡ p = ap (λ o. unwrap_or o p) (sym found ∙ there) in
    subst (λ n. MayHold k cpu n q) named
    (record {
      holder = subst (IsHolder k.standard) (sym is) (taken-holder k.standard p id (subst (IsTaker k.standard) one may));
      executes = ap (λ (r : Processor). executor_in (Some r)) is ∙ sym (ap executor_in there);
      there = free-there (has_spin_lock k id) (holder_from id 0 k.processors) free;
      alone = λ at also. absurd (false≢true (sym (free-unheld k id at was free) ∙ also));
    }))
marked-wrote k cpu here p q found there running (Leaves-none none) was =
    put-wrote k cpu p q (with_processor k cpu q) refl refl refl there running (λ id is. holds-none q.spin id none is)

-- Ends.

unmarked-wrote : (k out : KernelState) (cpu : ℕ) (found : Option Processor) → processor_at k cpu ≡ found → Same out k →
    IsLocking k →
    Wrote k cpu (unmarked_on out cpu found)
unmarked-wrote k out cpu None there same was = same-wrote k cpu out was same
unmarked-wrote k out cpu (Some p) there same was =
    put-wrote k cpu p (unmarked p) (with_processor out cpu (unmarked p))
    (ap (λ ps. slice_set ps cpu (Some (unmarked p))) same.processors) same.spin_locks same.standard
    there refl (λ id is. holds-none None id refl is)

returned-wrote : (k : KernelState) (cpu : ℕ) (p : Processor) → processor_at k cpu ≡ Some p →
    Wrote k cpu (handler_ended k cpu p)
returned-wrote k cpu p there =
    put-wrote k cpu p (record (letting_go p) { handling = None }) (handler_ended k cpu p) refl refl refl there refl
    (λ id is. holds-none None id refl is)

-- Service calls.

spin-law : (k : KernelState) (cpu : ℕ) (p : Processor) → processor_at k cpu ≡ Some p → IsLocking k →
    Law (known_of k.standard p (caller_on k cpu)) (Wrote k cpu) k cpu (caller_on k cpu)
spin-law k cpu p found was =
    let caller : ℕ = caller_on k cpu in
    same-law (Wrote k cpu) k cpu caller
    (record {
      same = λ new is. same-wrote k cpu new was is;
      exits = λ may. unmarked-wrote k (quits_in k caller) cpu (processor_at k cpu) refl (same-quits k caller) was;
      marks = λ q new there running how. marked-wrote k cpu p q new found there running how was;
      returns = λ q there. returned-wrote k cpu q there;
    })

-- what is written since is the same
wrote-same : (k : KernelState) (cpu : ℕ) (now new : KernelState) → Same new now → Wrote k cpu now → Wrote k cpu new
wrote-same k cpu now new same was = record {
  spin_locks = same.spin_locks ∙ was.spin_locks;
  standard = same.standard ∙ was.standard;
  others = λ at other. ap (λ ps. slice_index_or ps at None) same.processors ∙ was.others at other;
  own = subst (OwnAfter k cpu (processor_at k cpu)) (sym (ap (λ ps. slice_index_or ps cpu None) same.processors)) was.own;
}

-- a call that the gate lets through
pub serve-wrote : (k : KernelState) (cpu : ℕ) (p : Processor) (c : Call) → processor_at k cpu ≡ Some p →
    MayServe k.standard p (caller_on k cpu) c →
    IsLocking k → Wrote k cpu (serve_of k cpu c).kernel
serve-wrote k cpu p c there may was =
    serve-leaves (Wrote k cpu) k cpu (spin-law k cpu p there was) (λ new wrote. wrote-same k cpu new (prioritized new) (same-prioritized new) wrote) c may

-- Exceptions.

stopped-wrote : (k : KernelState) (cpu : ℕ) (p : Processor) → processor_at k cpu ≡ Some p →
    Wrote k cpu (with_processor k cpu (record (letting_go p) { stopped = true }))
stopped-wrote k cpu p there =
    put-wrote k cpu p (record (letting_go p) { stopped = true })
    (with_processor k cpu (record (letting_go p) { stopped = true })) refl refl refl there refl
    (λ id is. holds-none None id refl is)

faulted-task-wrote : (k : KernelState) (cpu : ℕ) (p : Processor) (running : Option ℕ) → processor_at k cpu ≡ Some p →
    IsLocking k →
    Wrote k cpu (faulted_task k cpu p running)
faulted-task-wrote k cpu p None there was = same-wrote k cpu k was (record { processors = refl; spin_locks = refl; standard = refl })
faulted-task-wrote k cpu p (Some id) there was =
    let on : KernelState = with_tasks k (noted without_activation k.tasks id) in
    let only : Same (quits_in on id) on = same-quits on id in
    put-wrote k cpu p (unmarked p) (with_processor (quits_in on id) cpu (unmarked p))
    (ap (λ ps. slice_set ps cpu (Some (unmarked p))) only.processors)
    only.spin_locks only.standard there refl (λ other is. holds-none None other refl is)

faulted-by : (handling : Bool) (k : KernelState) (cpu : ℕ) (p : Processor) → processor_at k cpu ≡ Some p →
    IsLocking k → Wrote k cpu
    (if handling then with_processor k cpu (record (letting_go p) { stopped = true })
    else faulted_task k cpu p p.running)
faulted-by true k cpu p there was = stopped-wrote k cpu p there
faulted-by false k cpu p there was = faulted-task-wrote k cpu p p.running there was

faulted-wrote : (k : KernelState) (cpu : ℕ) (found : Option Processor) → processor_at k cpu ≡ found → IsLocking k →
    Wrote k cpu (faulted_in k cpu found)
faulted-wrote k cpu None there was = same-wrote k cpu k was (record { processors = refl; spin_locks = refl; standard = refl })
faulted-wrote k cpu (Some p) there was = faulted-by (is_some p.handling) k cpu p there was

pub fault-wrote : (k : KernelState) (cpu : ℕ) → IsLocking k → Wrote k cpu (ended_by_fault k cpu)
fault-wrote k cpu was =
    let left : KernelState = faulted_in k cpu (processor_at k cpu) in
    wrote-same k cpu left (prioritized left) (same-prioritized left) (faulted-wrote k cpu (processor_at k cpu) refl was)

-- Interrupts: a holder accepts none.

unlocked : (handling locked stopped : Bool) → not (handling || locked || stopped) ≡ true → locked ≡ false
unlocked handling locked stopped accepts = grind (arith, accepts)

handles-wrote : (k : KernelState) (cpu line : ℕ) (found : Option Processor) → processor_at k cpu ≡ found →
    accepts found ≡ true → IsLocking k →
    Wrote k cpu (handles k cpu line found)
handles-wrote k cpu line None there accept was = absurd (false≢true accept)
handles-wrote k cpu line (Some p) there accept was =
    put-wrote k cpu p (record p { handling = Some line }) (handles k cpu line (Some p)) refl refl refl there refl
    (λ id is. absurd
    (false≢true
    (sym (unlocked (is_some p.handling) p.locked p.stopped accept) ∙ (was.holders cpu id p there is).locked)))

accepts-by : (accept : Bool) (pending : Option ℕ) (line : ℕ) → (if accept then pending else None) ≡ Some line →
    accept ≡ true
accepts-by true pending line is = refl
accepts-by false pending line is = absurd (false≢true (ap is_some is))

pub accept-wrote : (k : KernelState) (cpu line : ℕ) → deliverable k cpu ≡ Some line → IsLocking k →
    Wrote k cpu (accepted_line k cpu line)
accept-wrote k cpu line is was =
    handles-wrote k cpu line (processor_at k cpu) refl (accepts-by (accepts (processor_at k cpu)) _ line is) was

-- Ticks, which write no processor, and lines that are raised.

same-rings : (k : KernelState) → Outlasts (λ new. Same new k)
same-rings k new timers lines same = record { processors = same.processors; spin_locks = same.spin_locks; standard = same.standard }

pub same-ticked : (k : KernelState) → Same (ticked_on k (advanced k.time)) k
same-ticked k =
    let ended : KernelState = all_timed_out (record k { time = advanced k.time }) (due_from (advanced k.time) 0) in
    let only : Same (prioritized ended) (record k { time = advanced k.time }) =
    same-then (same-prioritized ended) (same-timed (record k { time = advanced k.time }) (due_from (advanced k.time) 0)) in
    rung-keeps (λ new. Same new k) (prioritized ended) (same-rings k)
    (record { processors = only.processors; spin_locks = only.spin_locks; standard = only.standard })

pub same-pending : (k : KernelState) (line : ℕ) → Same (with_pending k line) k
same-pending k line = record { processors = refl; spin_locks = refl; standard = refl }

-- What is left holds.

pub locking-same : (k new : KernelState) → Same new k → IsLocking k → IsLocking new
locking-same k new same was = record {
  there = λ cpu id is. ap (λ l. slice_index_or l id false) same.spin_locks
      ∙ was.there cpu id (ap (λ ps. holds id (slice_index_or ps cpu None)) (sym same.processors) ∙ is);
  one = λ cpu other id is also. was.one cpu other id
      (ap (λ ps. holds id (slice_index_or ps cpu None)) (sym same.processors) ∙ is)
      (ap (λ ps. holds id (slice_index_or ps other None)) (sym same.processors) ∙ also);
  holders = λ cpu id p there is. subst (λ standard. IsHolder standard p) (sym same.standard)
      (was.holders cpu id p (ap (λ ps. slice_index_or ps cpu None) (sym same.processors) ∙ there) is);
}

ticked-if : (test : Bool) (k new : KernelState) → Same new k → IsLocking k → IsLocking (if test then new else k)
ticked-if true k new same was = locking-same k new same was
ticked-if false k new same was = was

pub locking-ticked : (k : KernelState) → IsLocking k → IsLocking (ticked k)
locking-ticked k was = ticked-if (nat_lt k.time.count last_count) k (ticked_on k (advanced k.time)) (same-ticked k) was

-- what the processor that was written holds
record Own (k : KernelState) (cpu id : ℕ) (now : Option Processor) : Type 0 where
  q : Processor
  is : now ≡ Some q
  may : MayHold k cpu id q

own-by : (k : KernelState) (cpu id : ℕ) (found now : Option Processor) → OwnAfter k cpu found now →
    holds id now ≡ true → Own k cpu id now
own-by k cpu id None now after is = absurd (false≢true (sym (ap (holds id) after) ∙ is))
own-by k cpu id (Some p) now after is =
    record {
      q = after.q;
      is = after.is;
      may = after.may id
          (spin-is id after.q.spin (sym (ap (holds id) after.is) ∙ is));
    }

own-of : (k new : KernelState) (cpu id at : ℕ) → Wrote k cpu new → (cpu == at) ≡ true →
    holds id (processor_at new at) ≡ true → Own k cpu id (processor_at new at)
own-of k new cpu id at wrote test is =
    let same : cpu ≡ at = same-number cpu at test in
    subst (λ n. Own k cpu id (processor_at new n)) same
    (own-by k cpu id (processor_at k cpu) (processor_at new cpu) wrote.own
    (ap (λ n. holds id (processor_at new n)) same ∙ is))

wrote-there : (here : Bool) (k new : KernelState) (cpu at id : ℕ) → (cpu == at) ≡ here → Wrote k cpu new → IsLocking k →
    holds id (processor_at new at) ≡ true → has_spin_lock k id ≡ true
wrote-there true k new cpu at id test wrote was is = (own-of k new cpu id at wrote test is).may.there
wrote-there false k new cpu at id test wrote was is = was.there at id (ap (holds id) (sym (wrote.others at test)) ∙ is)

wrote-one : (here there : Bool) (k new : KernelState) (cpu at other id : ℕ) → (cpu == at) ≡ here →
    (cpu == other) ≡ there → Wrote k cpu new → IsLocking k →
    holds id (processor_at new at) ≡ true → holds id (processor_at new other) ≡ true → other ≡ at
wrote-one true true k new cpu at other id test also wrote was is held =
    sym (same-number cpu other also) ∙ same-number cpu at test
wrote-one true false k new cpu at other id test also wrote was is held =
    (own-of k new cpu id at wrote test is).may.alone other (ap (holds id) (sym (wrote.others other also)) ∙ held)
    ∙ same-number cpu at test
wrote-one false true k new cpu at other id test also wrote was is held =
    sym (same-number cpu other also)
    ∙ sym ((own-of k new cpu id other wrote also held).may.alone at (ap (holds id) (sym (wrote.others at test)) ∙ is))
wrote-one false false k new cpu at other id test also wrote was is held =
    was.one at other id (ap (holds id) (sym (wrote.others at test)) ∙ is)
    (ap (holds id) (sym (wrote.others other also)) ∙ held)

wrote-holder : (here : Bool) (k new : KernelState) (cpu at id : ℕ) (p : Processor) → (cpu == at) ≡ here →
    Wrote k cpu new → IsLocking k →
    processor_at new at ≡ Some p → p.spin ≡ Some id → IsHolder k.standard p
wrote-holder true k new cpu at id p test wrote was there is =
    let mine : Own k cpu id (processor_at new at) = own-of k new cpu id at wrote test (holds-by new at id p there is) in
    subst (IsHolder k.standard) (ap (λ o. unwrap_or o p) (sym mine.is ∙ there)) mine.may.holder
wrote-holder false k new cpu at id p test wrote was there is =
    was.holders at id p (sym (wrote.others at test) ∙ there) is

pub wrote-locking : (k new : KernelState) (cpu : ℕ) → Wrote k cpu new → IsLocking k → IsLocking new
wrote-locking k new cpu wrote was = record {
  there = λ at id is. ap (λ l. slice_index_or l id false) wrote.spin_locks
      ∙ wrote-there (cpu == at) k new cpu at id refl wrote was is;
  one = λ at other id is also. wrote-one (cpu == at) (cpu == other) k new cpu at other id refl refl wrote was is also;
  holders = λ at id p there is. subst (λ standard. IsHolder standard p) (sym wrote.standard)
      (wrote-holder (cpu == at) k new cpu at id p refl wrote was there is);
}

-- whoever runs goes on, until the dispatch

own-runs : (k : KernelState) (cpu : ℕ) (found now : Option Processor) → OwnAfter k cpu found now →
    running_in now ≡ running_in found
own-runs k cpu None now after = ap running_in after
own-runs k cpu (Some p) now after = ap running_in after.is ∙ after.running

runs-by : (here : Bool) (k new : KernelState) (cpu at : ℕ) → (cpu == at) ≡ here → Wrote k cpu new →
    running_on new at ≡ running_on k at
runs-by true k new cpu at test wrote =
    subst (λ n. running_on new n ≡ running_on k n) (same-number cpu at test)
    (own-runs k cpu (processor_at k cpu) (processor_at new cpu) wrote.own)
runs-by false k new cpu at test wrote = ap running_in (wrote.others at test)

pub wrote-runs : (k new : KernelState) (cpu at : ℕ) → Wrote k cpu new → running_on new at ≡ running_on k at
wrote-runs k new cpu at wrote = runs-by (cpu == at) k new cpu at refl wrote

-- and who executes on a processor that holds a lock then is who executed there

executes-by : (here : Bool) (k new : KernelState) (cpu at id : ℕ) → (cpu == at) ≡ here → Wrote k cpu new →
    holds id (processor_at new at) ≡ true → executor_on new at ≡ executor_on k at
executes-by true k new cpu at id test wrote held =
    let mine : Own k cpu id (processor_at new at) = own-of k new cpu id at wrote test held in
    ap executor_in mine.is ∙ mine.may.executes ∙ ap (executor_on k) (same-number cpu at test)
executes-by false k new cpu at id test wrote held = ap executor_in (wrote.others at test)

pub wrote-executes : (k new : KernelState) (cpu at id : ℕ) → Wrote k cpu new → holds id (processor_at new at) ≡ true →
    executor_on new at ≡ executor_on k at
wrote-executes k new cpu at id wrote held = executes-by (cpu == at) k new cpu at id refl wrote held

-- The dispatch.

held-if : (held : Bool) (p : Processor) (ready : List Plain) (id : ℕ) →
    holds id (Some (if held then p else record p { running = first_id ready })) ≡ is_spin id p.spin
held-if true p ready id = refl
held-if false p ready id = refl

dispatched-holds : (found : Option Processor) (ready : List Plain) (id : ℕ) →
    holds id (dispatched_one found ready) ≡ holds id found
dispatched-holds None ready id = refl
dispatched-holds (Some p) ready id = held-if (is_held p) p ready id

-- a dispatch frees no lock, and takes none
pub dispatch-holds : (k : KernelState) (cpu id : ℕ) →
    holds id (processor_at (dispatched k) cpu) ≡ holds id (processor_at k cpu)
dispatch-holds k cpu id =
    ap (holds id) (at-dispatched k cpu) ∙ dispatched-holds (processor_at k cpu) (ready_on k.tasks cpu) id

locked-held : (handling locked disabled stopped : Bool) → locked ≡ true →
    (handling || locked || disabled || stopped) ≡ true
locked-held handling locked disabled stopped is = grind (arith, is)

holder-held : (standard : Bool) (p : Processor) → IsHolder standard p → is_held p ≡ true
holder-held standard p is = locked-held (is_some p.handling) p.locked p.disabled p.stopped is.locked

stays-by : (k : KernelState) (cpu id : ℕ) (found : Option Processor) → processor_at k cpu ≡ found →
    holds id found ≡ true → IsLocking k →
    dispatched_one found (ready_on k.tasks cpu) ≡ found
stays-by k cpu id None there is was = refl
stays-by k cpu id (Some p) there is was =
    ap (λ h. Some (if h then p else record p { running = first_id (ready_on k.tasks cpu) }))
    (holder-held k.standard p (was.holders cpu id p there (spin-is id p.spin is)))

-- a holder stays as it is
pub holder-stays : (k : KernelState) (cpu id : ℕ) → IsLocking k → holds id (processor_at k cpu) ≡ true →
    processor_at (dispatched k) cpu ≡ processor_at k cpu
holder-stays k cpu id was is = at-dispatched k cpu ∙ stays-by k cpu id (processor_at k cpu) refl is was

pub dispatch-locking : (k : KernelState) → IsLocking k → IsLocking (dispatched k)
dispatch-locking k was = record {
  there = λ cpu id is. was.there cpu id (sym (dispatch-holds k cpu id) ∙ is);
  one = λ cpu other id is also. was.one cpu other id (sym (dispatch-holds k cpu id) ∙ is)
      (sym (dispatch-holds k other id) ∙ also);
  holders = λ cpu id p there is.
      let held : holds id (processor_at k cpu) ≡ true =
      sym (dispatch-holds k cpu id) ∙ holds-by (dispatched k) cpu id p there is in
      was.holders cpu id p (sym (holder-stays k cpu id was held) ∙ there) is;
}

-- As the kernel is made nobody holds a lock.

idle-holds : (there : Bool) (id : ℕ) → holds id (if there then Some idle else None) ≡ false
idle-holds true id = refl
idle-holds false id = refl

ones-length : (processors n : ℕ) → length (idle_ones processors n) ≡ n
unfolding idle_ones
ones-length processors n = length-map-range_with_len (idle_one processors) 0 n

none-hold : (small : Bool) (processors n cpu id : ℕ) → nat_lt cpu n ≡ small →
    holds id (slice_index_or (idle_ones processors n) cpu None) ≡ false
unfolding idle_ones
none-hold true processors n cpu id test =
    let small : cpu < n = grind (arith, nat_tests, test) in
    ap (holds id) (get_or-map-range_with_len (idle_one processors) 0 n cpu cpu None small (omega arith))
    ∙ idle-holds (nat_le 1 cpu && nat_le cpu processors) id
none-hold false processors n cpu id test =
    let past : length (idle_ones processors n) ≤ cpu = grind (arith, nat_tests, test, ones-length processors n) in
    ap (holds id) (get_or-eq_default (idle_ones processors n) None past)

pub made-locking : (k : KernelState) (processors : ℕ) → k.processors ≡ idle_ones processors 9 → IsLocking k
made-locking k processors ones =
    let none : (cpu id : ℕ) → holds id (processor_at k cpu) ≡ false =
    λ cpu id. ap (λ ps. holds id (slice_index_or ps cpu None)) ones
    ∙ none-hold (nat_lt cpu 9) processors 9 cpu id refl in
    record {
      there = λ cpu id is. absurd (false≢true (sym (none cpu id) ∙ is));
      one = λ cpu other id is also. absurd (false≢true (sym (none cpu id) ∙ is));
      holders = λ cpu id p there is. absurd (false≢true (sym (none cpu id) ∙ holds-by k cpu id p there is));
    }
