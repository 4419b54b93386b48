-- What the gate has shown of a call that it lets through.
use Rattle.std.proofs.Common.{◌≡◌, ℕ, List, [], ◌∷◌, map, drop, refl, sym, ap, subst, ◌∙◌, arith}
use Rattle.std.specs.Prelude.{Bool, true, false, not, ◌==◌, ◌&&◌, if◌then◌else◌, find, slice_index_or, Option, None, Some, is_some, unwrap_or, Result, Ok, Err}
use Rattle.std.specs.Option.{option_map}
use Rattle.std.proofs.lemmas.Bool.{false≢true, true≢false}
use Rattle.std.proofs.lemmas.Bool.Decides.{nat_tests}
use Rattle.brd_exec.specs.State.{State, read}
use Rattle.brd_kernel.specs.declared.processor.Processor.{Processor}
use Rattle.brd_kernel.specs.declared.call.Call.{Call}
use Rattle.brd_kernel.specs.declared.call.Ercd.{Ercd}
use Rattle.brd_kernel.specs.Kernel.{executor_by, executor_in}
use Rattle.brd_kernel.specs.Services.{named}
use Rattle.brd_kernel.proofs.who_runs.RunningCallLemmas.{IsFree, MayServe, IsTaskOf, IsTaker, known_of, none-held}
use Rattle.brd_kernel.proofs.ThereLemmas.{first-of, second-of}
use Rattle.brd_kernel.proofs.WalkLemmas.{CallerStop, GoesOn, Locks, Unlocks, MayWait, Waits, Names, Ends, stop_of, MayStop}
use Rattle.brd_sysgate.specs.declared.gate.Agent.{Agent}
use Rattle.brd_sysgate.specs.declared.gate.Agent.TheVariants.{Task, Handler}
use Rattle.brd_sysgate.specs.declared.place.Place.{Place}
use Rattle.brd_sysgate.specs.declared.place.Place.TheVariants as place
use Rattle.brd_sysgate.specs.Gate.{Service, table_of, a0, is_oneself, may_call, arguments_of, allowed, read_of, agent_by}

-- Of each row of the table of a board that has the profile, or not: from where a call may come by what it may do to its
-- caller (a handler takes spin locks with the profile alone); and one that may be about its caller names it by its
-- first argument. Both are computed over the whole table.

abbrev fits : Bool → CallerStop → Place → Bool
fits standard GoesOn from = true
fits standard Locks place.Task = true
fits standard Locks place.Handler = standard
fits standard Locks _ = false
fits standard Unlocks place.NotHolding = true
fits standard Unlocks place.NotHoldingHandler = true
fits standard Unlocks _ = false
fits standard (MayWait timeout) place.Waiting = true
fits standard (MayWait timeout) _ = timeout == 0
fits standard Waits place.Waiting = true
fits standard Waits _ = false
fits standard (Names t) place.OnTask = true
fits standard (Names t) _ = false
fits standard Ends place.LockedTask = true
fits standard Ends _ = false

abbrev named_by : CallerStop → ℕ → ℕ
named_by (Names t) first = t
named_by _ first = first

abbrev all_fit : Bool → List ℕ → List Service → Bool
all_fit standard a [] = true
all_fit standard a (s ∷ services) = fits standard (stop_of (s.call a)) s.place && all_fit standard a services

table-fits : (standard : Bool) (a : List ℕ) → all_fit standard a (table_of standard) ≡ true
table-fits true a = refl
table-fits false a = refl

abbrev names : List ℕ → List Service → List ℕ
names a services = map (λ s. named_by (stop_of (s.call a)) (a0 a)) services

table-names : (standard : Bool) (a : List ℕ) → names a (table_of standard) ≡ map (λ s. a0 a) (table_of standard)
table-names true a = refl
table-names false a = refl

-- so a call that comes from where it may, may be served
abbrev PlacesMay : Bool → Processor → ℕ → Agent → ℕ → Type 0
PlacesMay standard p id agent first =
    (stop : CallerStop) (from : Place) → fits standard stop from ≡ true → named_by stop first ≡ first →
    may_call agent from first ≡ true → MayStop (known_of standard p id) id stop

abbrev pub MayBe : Bool → Processor → ℕ → Result Call Ercd → Type 0
MayBe standard p id (Ok c) = MayServe standard p id c
MayBe standard p id (Err code) = Unit {0}

passed : (ok standard : Bool) (p : Processor) (id : ℕ) (c : Call) (code : Ercd) → (ok ≡ true → MayServe standard p id c) →
    MayBe standard p id (if ok then Ok c else Err code)
passed true standard p id c code may = may refl
passed false standard p id c code may = tt

found-by : (here standard : Bool) (p : Processor) (id number : ℕ) (agent : Agent) (a : List ℕ) (s : Service) (services : List Service) →
    (may_call agent s.place (a0 a) ≡ true → MayServe standard p id (s.call a)) →
    MayBe standard p id (allowed agent (a0 a) (option_map (λ x. record { place = x.place; call = x.call a }) (find (λ x. x.number == number) services))) →
    MayBe standard p id (allowed agent (a0 a) (option_map (λ x. record { place = x.place; call = x.call a })
    (if here then Some s else find (λ x. x.number == number) services)))
found-by true standard p id number agent a s services first rest =
    passed (may_call agent s.place (a0 a)) standard p id (s.call a) _ first
found-by false standard p id number agent a s services first rest = rest

found : (standard : Bool) (p : Processor) (id number : ℕ) (agent : Agent) (a : List ℕ) (services : List Service) →
    PlacesMay standard p id agent (a0 a) → all_fit standard a services ≡ true → names a services ≡ map (λ s. a0 a) services →
    MayBe standard p id (allowed agent (a0 a) (option_map (λ x. record { place = x.place; call = x.call a }) (find (λ x. x.number == number) services)))
found standard p id number agent a [] may fit name = tt
found standard p id number agent a (s ∷ services) may fit name =
    let stop : CallerStop = stop_of (s.call a) in
    found-by (s.number == number) standard p id number agent a s services
    (may stop s.place (first-of (fits standard stop s.place) (all_fit standard a services) fit) (ap (λ l. slice_index_or l 0 (a0 a)) name))
    (found standard p id number agent a services may (second-of (fits standard stop s.place) (all_fit standard a services) fit) (ap (drop 1) name))

-- A handler only polls, takes spin locks with the profile alone, and unlocks its processor where that holds none.

polls : {X : Type 0} (timeout : ℕ) → (timeout == 0) ≡ true → (timeout == 0) ≡ false → X
polls timeout poll waits = absurd (true≢false (sym poll ∙ waits))

none-held-by : (held : Option ℕ) → not (is_some held) ≡ true → held ≡ None
none-held-by None ok = refl
none-held-by (Some id) ok = absurd (false≢true ok)

handler-may : (standard : Bool) (p : Processor) (id first : ℕ) → is_some (executor_in (Some p)) ≡ true →
    PlacesMay standard p id (Handler p.locked (is_some p.spin)) first
handler-may standard p id first executes GoesOn from fit name ok = tt
handler-may standard p id first executes Locks place.Task fit name ok = absurd (false≢true ok)
handler-may standard p id first executes Locks place.Handler fit name ok =
    record { executes = executes; plain = λ none. absurd (false≢true (sym none ∙ fit)) }
handler-may standard p id first executes Locks _ fit name ok = absurd (false≢true fit)
handler-may standard p id first executes Unlocks place.NotHolding fit name ok = absurd (false≢true ok)
handler-may standard p id first executes Unlocks place.NotHoldingHandler fit name ok = none-held-by p.spin ok
handler-may standard p id first executes Unlocks _ fit name ok = absurd (false≢true fit)
handler-may standard p id first executes (MayWait timeout) place.Waiting fit name ok = absurd (false≢true ok)
handler-may standard p id first executes (MayWait timeout) _ fit name ok = polls timeout fit
handler-may standard p id first executes Waits place.Waiting fit name ok = absurd (false≢true ok)
handler-may standard p id first executes Waits _ fit name ok = absurd (false≢true fit)
handler-may standard p id first executes (Names t) place.OnTask fit name ok = absurd (false≢true ok)
handler-may standard p id first executes (Names t) _ fit name ok = absurd (false≢true fit)
handler-may standard p id first executes Ends place.LockedTask fit name ok = absurd (false≢true ok)
handler-may standard p id first executes Ends _ fit name ok = absurd (false≢true fit)

-- A task that may wait, and one that may name itself, has a processor that isn't held.

free-task : (p : Processor) (id : ℕ) → p.running ≡ Some id → is_some p.handling ≡ false → p.stopped ≡ false → p.locked ≡ false →
    p.disabled ≡ false → IsFree p id
free-task p id runs handling stopped locked disabled = record {
  running = runs;
  free = none-held (is_some p.handling) p.locked p.disabled p.stopped handling locked disabled stopped;
}

task-waits : (p : Processor) (id : ℕ) → p.running ≡ Some id → is_some p.handling ≡ false → p.stopped ≡ false →
    (not p.locked && not p.disabled) ≡ true → IsFree p id
task-waits p id runs handling stopped ok =
    free-task p id runs handling stopped (grind (arith, ok)) (grind (arith, ok))

oneself : (id t : ℕ) → (named id t == id) ≡ true → is_oneself id t ≡ true
unfolding named is_oneself
oneself id t is = grind (arith, nat_tests, is)

task-names : (p : Processor) (id t : ℕ) → p.running ≡ Some id → is_some p.handling ≡ false → p.stopped ≡ false →
    (not p.locked && not (p.disabled && is_oneself id t)) ≡ true → (named id t == id) ≡ true → IsFree p id
task-names p id t runs handling stopped ok names =
    let own : is_oneself id t ≡ true = oneself id t names in
    free-task p id runs handling stopped (grind (arith, ok)) (grind (arith, ok, own))

-- what the gate says of a task
record Gated (standard : Bool) (p : Processor) (id first : ℕ) : Type 0 where
  waits : (not p.locked && not p.disabled) ≡ true → IsFree p id
  named : (t : ℕ) → t ≡ first → (not p.locked && not (p.disabled && is_oneself id first)) ≡ true → (named id t == id) ≡ true → IsFree p id
  of_task : IsTaskOf p id
  takes : IsTaker standard p

gated : (standard : Bool) (p : Processor) (id first : ℕ) → Gated standard p id first →
    PlacesMay standard p id (Task id p.locked p.disabled (is_some p.spin)) first
gated standard p id first is GoesOn from fit name ok = tt
gated standard p id first is Locks place.Task fit name ok = is.takes
gated standard p id first is Locks place.Handler fit name ok = absurd (false≢true ok)
gated standard p id first is Locks _ fit name ok = absurd (false≢true fit)
gated standard p id first is Unlocks place.NotHolding fit name ok = none-held-by p.spin ok
gated standard p id first is Unlocks place.NotHoldingHandler fit name ok = absurd (false≢true ok)
gated standard p id first is Unlocks _ fit name ok = absurd (false≢true fit)
gated standard p id first is (MayWait timeout) place.Waiting fit name ok = λ waits. is.waits ok
gated standard p id first is (MayWait timeout) _ fit name ok = polls timeout fit
gated standard p id first is Waits place.Waiting fit name ok = is.waits ok
gated standard p id first is Waits _ fit name ok = absurd (false≢true fit)
gated standard p id first is (Names t) place.OnTask fit name ok = is.named t name ok
gated standard p id first is (Names t) _ fit name ok = absurd (false≢true fit)
gated standard p id first is Ends place.LockedTask fit name ok = is.of_task
gated standard p id first is Ends _ fit name ok = absurd (false≢true fit)

task-may : (standard : Bool) (p : Processor) (id first : ℕ) → is_some (executor_in (Some p)) ≡ true → p.running ≡ Some id →
    p.handling ≡ None → p.stopped ≡ false → PlacesMay standard p id (Task id p.locked p.disabled (is_some p.spin)) first
task-may standard p id first executes runs none stopped =
    let handling : is_some p.handling ≡ false = ap is_some none in
    gated standard p id first (record {
      waits = task-waits p id runs handling stopped;
      named = λ t is ok own. task-names p id t runs handling stopped
          (subst (λ n. (not p.locked && not (p.disabled && is_oneself id n)) ≡ true) (sym is) ok) own;
      of_task = record {
        running = runs;
        unmarked_free = none-held (is_some p.handling) false false p.stopped handling refl refl stopped;
      };
      takes = record { executes = executes; plain = λ plain. none };
    })

-- who executes where no interrupt is handled is the running task
running-task : (running : Option ℕ) → is_some (executor_by running None) ≡ true → running ≡ Some (unwrap_or running 0)
running-task None is = absurd (false≢true is)
running-task (Some id) is = refl

may-by : (handling : Option ℕ) (standard : Bool) (p : Processor) (first : ℕ) → p.handling ≡ handling → p.stopped ≡ false →
    is_some (executor_in (Some p)) ≡ true → is_some (executor_by p.running handling) ≡ true →
    PlacesMay standard p (unwrap_or p.running 0) (agent_by (unwrap_or p.running 0) p handling) first
may-by (Some line) standard p first is stopped executes by = handler-may standard p (unwrap_or p.running 0) first executes
may-by None standard p first is stopped executes by =
    task-may standard p (unwrap_or p.running 0) first executes (running-task p.running by) is stopped

-- the call that is read from a context of a processor on which somebody executes
pub read-may : (standard : Bool) (p : Processor) (s : State) → p.stopped ≡ false → is_some (executor_by p.running p.handling) ≡ true →
    MayBe standard p (unwrap_or p.running 0) (read_of s (record { agent = agent_by (unwrap_or p.running 0) p p.handling; standard = standard }))
read-may standard p s stopped by =
    let executes : is_some (executor_in (Some p)) ≡ true =
    ap (λ off. is_some (if off then None else executor_by p.running p.handling)) stopped ∙ by in
    found standard p (unwrap_or p.running 0) (read s 2) (agent_by (unwrap_or p.running 0) p p.handling) (arguments_of s) (table_of standard)
    (may-by p.handling standard p (a0 (arguments_of s)) refl stopped executes by) (table-fits standard (arguments_of s))
    (table-names standard (arguments_of s))
