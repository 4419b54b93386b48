-- Behind every board to which events lead from a place of a tree there is a place of the tree.
use Rattle.std.proofs.Common.{◌≡◌, ℕ, zero, suc, Bool, true, false, List, [], ◌∷◌, ◌++◌, length-set, refl, sym, ap, subst, ◌∙◌, ◌⊎◌, inl, inr}
use Rattle.std.specs.Prelude.{if◌then◌else◌, ◌-◌, ◌<◌, ◌==◌, not, Option, None, Some, is_some, is_ok}
use Rattle.std.specs.Option.{option_map}
use Rattle.std.proofs.lemmas.Bool.{false≢true, true≢false, and_parts, eqb-true}
use Rattle.brd_base.specs.Space.{base}
use Rattle.brd_mem.specs.Memory.{with_bytes}
use Rattle.brd_exec.specs.State.{State}
use Rattle.brd_tasks.specs.declared.task.Task.{Task}
use Rattle.brd_tasks.specs.Status.{is_dormant}
use Rattle.brd_tasks.specs.Tasks.{task_at}
use Rattle.brd_kernel.specs.declared.processor.Executor.{Executor}
use Rattle.brd_kernel.specs.declared.processor.Executor.TheVariants as executor
use Rattle.brd_kernel.specs.declared.call.Call.{Call}
use Rattle.brd_kernel.specs.declared.call.Call.TheVariants as call
use Rattle.brd_kernel.specs.Kernel.{KernelState, executor_on, deliverable}
use Rattle.brd_kernel.specs.Always.{HasPlace}
use Rattle.brd_kernel.specs.Services.{named, caller_on, serve_by}
use Rattle.brd_board.specs.declared.event.Event.{Event}
use Rattle.brd_board.specs.declared.event.Event.TheVariants.{Step, Tick, Raise}
use Rattle.brd_board.specs.declared.event.Report.TheVariants as report
use Rattle.brd_board.specs.Board.{BoardState, Happened, reported, happens_on, happens, after}
use Rattle.brd_frames.specs.Agents as agents
use Rattle.brd_frames.specs.Agents.{Agent, agent_by, agent_on, context_in, with_context_in, with_agent}
use Rattle.brd_frames.specs.Apart.{is_steady, Calls, starts, Starts, Terminates, Executes}
use Rattle.brd_frames.specs.Ending.{is_live, is_live_at}
use Rattle.brd_frames.specs.Touching.{with_change, put_at}
use Rattle.brd_frames.specs.Going.{Gone, goes, IsNext}
use Rattle.brd_frames.specs.Commuting.{IsUnlinked, EndsNoLink}
use Rattle.brd_frames.specs.Lagging.{Sharing, Keeps, IsInvisible, Lags, Path, is_same_agent, without}
use Rattle.brd_frames.specs.Reducing.{IsQuiet, EndsMortals, PayAll, IsTree, ReductionLaw}
use Rattle.brd_frames.proofs.CommuteLemmas.{agent-steps}
use Rattle.brd_frames.proofs.EndLemmas.{lives-on}
use Rattle.brd_frames.proofs.StartLemmas.{calls-so}
use Rattle.brd_frames.proofs.LagLemmas.{leads, leads-kernel, leads-steady, Sees, sees-touches, sees-keeps, sees-invisible, sees-goes, sees-later, deliverable-put, executor-put, same-own, pull, AllApart, lags-over}

-- What lags has the same kernel, but for contexts, and the same links.

off-put : (k : KernelState) (who : Agent) (s : State) → (with_context_in k who s).off ≡ k.off
off-put k (agents.Task id) s = refl
off-put k (agents.Handler at) s = refl

place-put : (k : KernelState) (who : Agent) (s : State) (cpu : ℕ) (x : Executor) → HasPlace k cpu x → HasPlace (with_context_in k who s) cpu x
place-put k (agents.Task id) s cpu executor.Handler has = has
place-put k (agents.Task id) s cpu (executor.Task at) has = subst (λ n. at < n) (sym (length-set k.tasks.contexts id s)) has
place-put k (agents.Handler at) s cpu executor.Handler has = subst (λ n. cpu < n) (sym (length-set k.handler_contexts at s)) has
place-put k (agents.Handler at) s cpu (executor.Task id) has = has

task-put : (k : KernelState) (who : Agent) (s : State) (id : ℕ) → task_at (with_context_in k who s).tasks id ≡ task_at k.tasks id
task-put k (agents.Task at) s id = refl
task-put k (agents.Handler at) s id = refl

-- one board has the same of this as another one
pub record Like (one two : BoardState) : Type 0 where
  pub off : two.kernel.off ≡ one.kernel.off
  pub executors : (cpu : ℕ) → executor_on two.kernel cpu ≡ executor_on one.kernel cpu
  pub deliverables : (cpu : ℕ) → deliverable two.kernel cpu ≡ deliverable one.kernel cpu
  pub steady : (z : Agent) → is_steady two.kernel z ≡ is_steady one.kernel z
  pub tasks : (id : ℕ) → task_at two.kernel.tasks id ≡ task_at one.kernel.tasks id
  pub places : (cpu : ℕ) (x : Executor) → HasPlace one.kernel cpu x → HasPlace two.kernel cpu x
  pub links : two.links ≡ one.links

like-same : (b : BoardState) → Like b b
like-same b = record {
  off = refl;
  executors = λ cpu. refl;
  deliverables = λ cpu. refl;
  steady = λ z. refl;
  tasks = λ id. refl;
  places = λ cpu x has. has;
  links = refl;
}

like-then : (a b c : BoardState) → Like a b → Like b c → Like a c
like-then a b c first second = record {
  off = second.off ∙ first.off;
  executors = λ cpu. second.executors cpu ∙ first.executors cpu;
  deliverables = λ cpu. second.deliverables cpu ∙ first.deliverables cpu;
  steady = λ z. second.steady z ∙ first.steady z;
  tasks = λ id. second.tasks id ∙ first.tasks id;
  places = λ cpu x has. second.places cpu x (first.places cpu x has);
  links = second.links ∙ first.links;
}

pub like-invisible : (by : Sharing) (b : BoardState) (who : Agent) (new : BoardState) → IsInvisible by b who new → Like b new
like-invisible by b who new it =
    let led = leads b who new it.goes in
    let k = leads-kernel b who new led in
    record {
      off = ap (λ (x : KernelState). x.off) k ∙ off-put b.kernel who led.gone.context;
      executors = λ cpu. ap (λ x. executor_on x cpu) k ∙ executor-put b.kernel who led.gone.context cpu;
      deliverables = λ cpu. ap (λ x. deliverable x cpu) k ∙ deliverable-put b.kernel who led.gone.context cpu;
      steady = λ z. leads-steady b who new z led;
      tasks = λ id. ap (λ (x : KernelState). task_at x.tasks id) k ∙ task-put b.kernel who led.gone.context id;
      places = λ cpu x has. subst (λ kernel. HasPlace kernel cpu x) (sym k) (place-put b.kernel who led.gone.context cpu x has);
      links = ap (λ (x : BoardState). x.links) led.is;
    }

pub like-lags : (by : Sharing) (b new : BoardState) (steps : List Agent) → Lags by b steps new → Like b new
like-lags by b new [] lags = subst (λ x. Like b x) (sym lags) (like-same b)
like-lags by b new (who ∷ more) lags =
    like-then b lags.0 new (like-invisible by b who lags.0 lags.1) (like-lags by lags.0 new more lags.3)

pub like-path : (by : Sharing) (b new : BoardState) (who : Agent) (count : ℕ) → Path by b who count new → Like b new
like-path by b new who zero path = subst (λ x. Like b x) (sym path) (like-same b)
like-path by b new who (suc count) path =
    like-then b path.0 new (like-invisible by b who path.0 path.1) (like-path by path.0 new who count path.2)

pub like-next : (one two : BoardState) (cpu : ℕ) (who : Agent) → Like one two → IsNext one cpu who → IsNext two cpu who
like-next one two cpu who like next = record {
  executor = next.executor;
  is = next.is;
  goes_on = record {
    on = like.off ∙ next.goes_on.on;
    executes = like.executors cpu ∙ next.goes_on.executes;
    uninterrupted = like.deliverables cpu ∙ next.goes_on.uninterrupted;
    place = like.places cpu next.executor next.goes_on.place;
  };
}

like-executes : (one two : BoardState) (event : Event) (who : Agent) → Like one two → Executes two event who → Executes one event who
like-executes one two event who like it = record {
  cpu = it.cpu;
  steps = it.steps;
  executes = sym (ap (option_map (agent_by it.cpu)) (like.executors it.cpu)) ∙ it.executes;
  uninterrupted = sym (like.deliverables it.cpu) ∙ it.uninterrupted;
}

-- Others.

-- none of these agents is this one
abbrev pub Others : Agent → List Agent → Type 0
Others who [] = Unit {0}
Others who (other ∷ others) = (who ≡ other → ⊥) × Others who others

others-if : (who other : Agent) (others : List Agent) (same : Bool) → is_same_agent other who ≡ same → Others who others →
    Others who (if same then others else other ∷ others)
others-if who other others true is rest = rest
others-if who other others false is rest =
    ((λ same. true≢false (sym (ap (is_same_agent other) same ∙ same-own other) ∙ is)), rest)

pub without-others : (who : Agent) (steps : List Agent) → Others who (without who steps)
without-others who [] = tt
without-others who (other ∷ more) = others-if who other (without who more) (is_same_agent other who) refl (without-others who more)

-- What one sees, others' invisible instructions don't change.

sees-same : (b : BoardState) (who : Agent) → Sees b b who
sees-same b who = record { context = refl; agree = record { order = refl; size = refl; bytes = λ address above is. refl } }

sees-then : (a b c : BoardState) (who : Agent) → Sees a b who → Sees b c who → Sees a c who
sees-then a b c who first second = record {
  context = second.context ∙ first.context;
  agree = record {
    order = second.agree.order ∙ first.agree.order;
    size = second.agree.size ∙ first.agree.size;
    bytes = λ address above is.
        second.agree.bytes address above (sees-touches a b who address first ∙ is) ∙ first.agree.bytes address above is;
  };
}

sees-lags : (by : Sharing) (b new : BoardState) (who : Agent) (steps : List Agent) → Lags by b steps new → Keeps by b who → Others who steps →
    Sees b new who
sees-lags by b new who [] lags keeps others = subst (λ x. Sees b x who) (sym lags) (sees-same b who)
sees-lags by b new who (x ∷ more) lags keeps others =
    let later = sees-later by b x who lags.0 lags.1 keeps others.0 in
    sees-then b lags.0 new who later (sees-lags by lags.0 new who more lags.3 (sees-keeps by b lags.0 who later keeps) others.1)

lags-more : (by : Sharing) (b middle new : BoardState) (who : Agent) (steps : List Agent) → Lags by b steps middle → IsInvisible by middle who new →
    is_steady middle.kernel who ≡ true → Lags by b (steps ++ who ∷ []) new
lags-more by b middle new who [] lags it steady =
    subst (λ (x : BoardState). (next : BoardState) × IsInvisible by x who next × (is_steady x.kernel who ≡ true) × (new ≡ next)) lags
    (new, it, steady, refl)
lags-more by b middle new who (x ∷ more) lags it steady =
    (lags.0, lags.1, lags.2, lags-more by lags.0 middle new who more lags.3 it steady)

-- Who acts.

pub one-agent : (b : BoardState) (event : Event) (x y : Agent) → Executes b event x → Executes b event y → x ≡ y
one-agent b event x y one two =
    let steps : Step one.cpu ≡ Step two.cpu = sym one.steps ∙ two.steps in
    let cpu : one.cpu ≡ two.cpu = cc in
    let both : Some x ≡ Some y = sym one.executes ∙ ap (agent_on b.kernel) cpu ∙ two.executes in
    cc

step-cpu : (one two : ℕ) → Step one ≡ Step two → one ≡ two
step-cpu one two is = cc

nobody : (b : BoardState) (cpu : ℕ) (who : Agent) → executor_on b.kernel cpu ≡ None → Executes b (Step cpu) who → ⊥
nobody b cpu who on acts =
    let none : executor_on b.kernel acts.cpu ≡ None = ap (executor_on b.kernel) (sym (step-cpu cpu acts.cpu acts.steps)) ∙ on in
    false≢true (ap is_some (sym (ap (option_map (agent_by acts.cpu)) none) ∙ acts.executes))

interrupted : (b : BoardState) (cpu line : ℕ) (who : Agent) → deliverable b.kernel cpu ≡ Some line → Executes b (Step cpu) who → ⊥
interrupted b cpu line who is acts =
    false≢true (ap is_some (sym acts.uninterrupted ∙ ap (deliverable b.kernel) (sym (step-cpu cpu acts.cpu acts.steps)) ∙ is))

pub acts-by : (b : BoardState) (cpu : ℕ) (by : Option Executor) (line : Option ℕ) → executor_on b.kernel cpu ≡ by → deliverable b.kernel cpu ≡ line →
    ((who : Executor) × (executor_on b.kernel cpu ≡ Some who) × (deliverable b.kernel cpu ≡ None)) ⊎ IsQuiet b (Step cpu)
acts-by b cpu None line on is = inr (λ who acts. nobody b cpu who on acts)
acts-by b cpu (Some who) None on is = inl (who, on, is)
acts-by b cpu (Some who) (Some line) on is = inr (λ other acts. interrupted b cpu line other is acts)

-- a call of ter_tsk is somebody's instruction
pub quiet-ends : (b : BoardState) (event : Event) (id : ℕ) → IsQuiet b event → Terminates b event id → ⊥
quiet-ends b event id quiet it =
    let so = calls-so b it.cpu it.calls.address it.calls.steps in
    quiet (agent_by it.cpu so.who) (record {
      cpu = it.cpu;
      steps = it.steps;
      executes = ap (option_map (agent_by it.cpu)) so.executes;
      uninterrupted = so.uninterrupted;
    })

-- Who is live: nobody starts a task that isn't dormant, but by terminating it.

abbrev pub Lives : BoardState → Agent → Type 0
Lives b (agents.Task id) = is_live_at b id ≡ true
Lives b (agents.Handler cpu) = Unit {0}

abbrev pub AllLive : BoardState → List Agent → Type 0
AllLive b [] = Unit {0}
AllLive b (who ∷ more) = Lives b who × AllLive b more

-- none of these agents is mortal: so it is of those that lag
abbrev AllLast : Sharing → List Agent → Type 0
AllLast by [] = Unit {0}
AllLast by (who ∷ more) = (by.mortal who ≡ false) × AllLast by more

lags-last : (by : Sharing) (b new : BoardState) (steps : List Agent) → Lags by b steps new → AllLast by steps
lags-last by b new [] lags = tt
lags-last by b new (who ∷ more) lags = (lags.1.lasting, lags-last by lags.0 new more lags.3)

-- so no event terminates them that terminates mortal tasks alone
spared : (by : Sharing) (b : BoardState) (event : Event) (id : ℕ) → EndsMortals by b event → by.mortal (agents.Task id) ≡ false →
    Terminates b event id → ⊥
spared by b event id mortals lasts ends = false≢true (sym lasts ∙ mortals id ends)

lives-like : (one two : BoardState) (who : Agent) → Like one two → Lives one who → Lives two who
lives-like one two (agents.Task id) like live = ap is_live (like.tasks id) ∙ live
lives-like one two (agents.Handler cpu) like live = tt

pub all-like : (one two : BoardState) (steps : List Agent) → Like one two → AllLive one steps → AllLive two steps
all-like one two [] like live = tt
all-like one two (who ∷ more) like live = (lives-like one two who like live.0, all-like one two more like live.1)

live-if : (b : BoardState) (who : Agent) (others : List Agent) (same : Bool) → Lives b who → AllLive b others →
    AllLive b (if same then others else who ∷ others)
live-if b who others true live rest = rest
live-if b who others false live rest = (live, rest)

pub live-without : (b : BoardState) (who : Agent) (steps : List Agent) → AllLive b steps → AllLive b (without who steps)
live-without b who [] live = tt
live-without b who (other ∷ more) live =
    live-if b other (without who more) (is_same_agent other who) live.0 (live-without b who more live.1)

live-more : (b : BoardState) (steps : List Agent) (who : Agent) → AllLive b steps → Lives b who → AllLive b (steps ++ who ∷ [])
live-more b [] who live last = (last, tt)
live-more b (other ∷ more) who live last = (live.0, live-more b more who live.1 last)

awake : (task : Task) (found : Option Task) → found ≡ Some task → is_live found ≡ true → is_dormant task.status ≡ true → ⊥
awake task None there live dormant = false≢true live
awake task (Some other) there live dormant =
    let same : other ≡ task = cc in
    false≢true (sym (ap (λ (x : Task). not (is_dormant x.status)) same ∙ ap not dormant) ∙ live)

-- a call that starts a task activates a dormant one, or is ter_tsk of it
starts-how : (c : Call) (by id : ℕ) (task : Task) → starts c by id task ≡ true → (is_dormant task.status ≡ true) ⊎ (c ≡ call.TerTsk id)
starts-how (call.ActTsk t) by id task is = inl (and_parts (named by t == id) (is_dormant task.status) is).1
starts-how (call.IactTsk t) by id task is = inl (and_parts (t == id) (is_dormant task.status) is).1
starts-how (call.MactTsk t to) by id task is = inl (and_parts (named by t == id) (is_dormant task.status) is).1
starts-how (call.ImactTsk t to) by id task is = inl (and_parts (t == id) (is_dormant task.status) is).1
starts-how (call.TerTsk t) by id task is =
    inr (ap (λ n. call.TerTsk n) (eqb-true t id (and_parts (t == id) (is_some task.activation) is).0))
starts-how _ by id task is = absurd (false≢true is)

terminates-so : (b : BoardState) (event : Event) (who : Agent) (it : Starts b event who) → it.call ≡ call.TerTsk it.id →
    Terminates b event it.id
terminates-so b event who it is = record {
  cpu = it.cpu;
  steps = it.steps;
  calls = subst (Calls b it.cpu) is it.calls;
  serves = sym (ap (λ c. is_ok (serve_by b.kernel it.cpu (caller_on b.kernel it.cpu) c)) is) ∙ it.serves;
}

never-starts : (by : Sharing) (b : BoardState) (event : Event) (who : Agent) → Lives b who → by.mortal who ≡ false → EndsMortals by b event →
    Starts b event who → ⊥
never-starts by b event who live lasts mortals it =
    elim (starts-how it.call (caller_on b.kernel it.cpu) it.id it.task it.starts) [
      | inl dormant ↦ awake it.task (task_at b.kernel.tasks it.id) it.there (subst (Lives b) it.is live) dormant
      | inr terminates ↦
          spared by b event it.id mortals (sym (ap by.mortal it.is) ∙ lasts) (terminates-so b event who it terminates)
    ]

-- who is live and isn't mortal stays so, over others' events that terminate mortal tasks alone
lives-over : (by : Sharing) (b : BoardState) (event : Event) (who : Agent) → (Executes b event who → ⊥) → EndsMortals by b event →
    by.mortal who ≡ false → Lives b who → Lives (happens b event).board who
lives-over by b event (agents.Task id) other mortals lasts live = lives-on b event id other (spared by b event id mortals lasts) live
lives-over by b event (agents.Handler cpu) other mortals lasts live = tt

all-over : (by : Sharing) (b : BoardState) (event : Event) (steps : List Agent) → ((x : Agent) → Executes b event x → Others x steps) →
    EndsMortals by b event → AllLast by steps → AllLive b steps → AllLive (happens b event).board steps
all-over by b event [] other mortals last live = tt
all-over by b event (who ∷ more) other mortals last live = (
  lives-over by b event who (λ acts. (other who acts).0 refl) mortals last.0 live.0,
  all-over by b event more (λ x acts. (other x acts).1) mortals last.1 live.1,
)

-- All that lag and are live are apart from an event that is no instruction of them and terminates mortal tasks alone.
all-apart : (by : Sharing) (b new place : BoardState) (event : Event) (steps : List Agent) → Lags by b steps new → Like place b →
    ((x : Agent) → Executes place event x → Others x steps) → EndsMortals by place event → AllLive place steps → AllApart place event steps
all-apart by b new place event [] lags like other mortals live = tt
all-apart by b new place event (who ∷ more) lags like other mortals live = (
  record {
    steady = sym (like.steady who) ∙ lags.2;
    elsewhere = λ acts. (other who acts).0 refl;
    lasting = never-starts by place event who live.0 lags.1.lasting mortals;
  },
  all-apart by lags.0 new place event more lags.3 (like-then place b lags.0 like (like-invisible by b who lags.0 lags.1))
      (λ x acts. (other x acts).1) mortals live.1,
)

-- One event.

-- a place that lags behind a board, the agents that lag being live there
record Behind (by : Sharing) (In : BoardState → Type 0) (b : BoardState) : Type 0 where
  place : BoardState
  lagging : List Agent
  there : In place
  lags : Lags by place lagging b
  live : AllLive place lagging

-- What an event leaves of agents that lag: one board lags behind the other by the same instructions still.
pub record Over (by : Sharing) (middle b : BoardState) (event : Event) (others : List Agent) : Type 0 where
  pub lags : Lags by (happens middle event).board others (happens b event).board
  pub live : AllLive (happens middle event).board others
  pub report : (happens b event).report ≡ (happens middle event).report

-- That is so of an event in which none of those executes that lag.
pub over-others : (by : Sharing) (b middle : BoardState) (event : Event) (others : List Agent) →
    Lags by middle others b → AllLive middle others → ((x : Agent) → Executes middle event x → Others x others × Keeps by middle x) →
    EndsMortals by middle event → Over by middle b event others
over-others by b middle event others lags live acts mortals =
    let over = lags-over by middle b event others lags (λ x it. (acts x it).1)
    (all-apart by middle b middle event others lags (like-same middle) (λ x it. (acts x it).0) mortals live) in
    record {
      lags = over.0;
      live = all-over by middle event others (λ x it. (acts x it).0) mortals (lags-last by middle b others lags) live;
      report = over.1;
    }

-- by such an event
by-others : (by : Sharing) (In : BoardState → Type 0) (b middle : BoardState) (event : Event) (others : List Agent) →
    Lags by middle others b → AllLive middle others → ((x : Agent) → Executes middle event x → Others x others × Keeps by middle x) →
    EndsMortals by middle event → In (happens middle event).board → Behind by In (happens b event).board
by-others by In b middle event others lags live acts mortals there =
    let over = over-others by b middle event others lags live acts mortals in
    record { place = (happens middle event).board; lagging = others; there = there; lags = over.lags; live = over.live }

by-quiet : (by : Sharing) (Left : Type 0) (pays : Left → Event → Left → Type 0) (In : Left → BoardState → Type 0) (left rest : Left)
    (b : BoardState) (event : Event) (it : Behind by (In left) b) → IsTree by Left pays In → pays left event rest →
    IsQuiet it.place event → Behind by (In rest) (happens b event).board
by-quiet by Left pays In left rest b event it tree paid quiet =
    by-others by (In rest) b it.place event it.lagging it.lags it.live (λ x acts. absurd (quiet x acts))
    (λ id ends. absurd (quiet-ends it.place event id quiet ends)) (tree.quiet left rest it.place event it.there paid quiet)

same-stored : (gone other : Gone) → Some gone ≡ Some other → gone.stored ≡ other.stored
same-stored gone other is = let same : gone ≡ other = cc in ap (λ (x : Gone). x.stored) same

ends-there : (by : Sharing) (b new : BoardState) (cpu : ℕ) (who : Agent) (next : BoardState) → IsInvisible by b who next → Sees b new who →
    new.links ≡ b.links → EndsNoLink b cpu who → EndsNoLink new cpu who
ends-there by b new cpu who next it sees links ends gone address is stored =
    let led = leads b who next it.goes in
    let other : Gone = record led.gone { memory = with_bytes new.memory (led.put.first - base) led.put.bytes } in
    let again : goes (context_in new.kernel who) new.memory ≡ Some other =
    ap (λ s. goes s new.memory) sees.context ∙ led.put.again new.memory sees.agree in
    subst (λ l. IsUnlinked l cpu address) (sym links)
    (ends led.gone address led.means (sym (same-stored gone other (sym is ∙ again)) ∙ stored))

by-invisible : (by : Sharing) (In : BoardState → Type 0) (b middle new : BoardState) (cpu count : ℕ) (x : Executor) (others : List Agent)
    (it : Behind by In b) → IsNext it.place cpu (agent_by cpu x) → is_steady it.place.kernel (agent_by cpu x) ≡ true →
    Lives it.place (agent_by cpu x) → Path by it.place (agent_by cpu x) count middle → Lags by middle others b →
    Others (agent_by cpu x) others → EndsNoLink middle cpu (agent_by cpu x) → IsInvisible by middle (agent_by cpu x) new →
    Behind by In (happens b (Step cpu)).board
by-invisible by In b middle new cpu count x others it next steady live path lags apart ends inv =
    let y : Agent = agent_by cpu x in
    let sees : Sees middle b y = sees-lags by middle b y others lags inv.keeps apart in
    let led = leads middle y new inv.goes in
    let later : BoardState = with_agent (with_change b (put_at (led.put.first - base) led.put.bytes)) y led.gone.context in
    let here : IsInvisible by b y later = sees-invisible by middle b y new later sees inv (sees-goes middle b y new led sees) in
    let behind : Like middle b = like-lags by middle b others lags in
    let like : Like it.place b = like-then it.place middle b (like-path by it.place middle y count path) behind in
    let happened = agent-steps b later cpu y (like-next it.place b cpu y like next) here.goes
    (ends-there by middle b cpu y new inv sees behind.links ends) in
    record {
      place = it.place;
      lagging = it.lagging ++ y ∷ [];
      there = it.there;
      lags = subst (Lags by it.place (it.lagging ++ y ∷ [])) (sym (ap (λ (done : Happened). done.board) happened))
          (lags-more by it.place b later y it.lagging it.lags here (like.steady y ∙ steady));
      live = live-more it.place it.lagging y it.live live;
    }

by-visible : (by : Sharing) (In : BoardState → Type 0) (b middle : BoardState) (cpu : ℕ) (y : Agent) (others : List Agent) →
    Executes middle (Step cpu) y → Lags by middle others b → AllLive middle others → Others y others → Keeps by middle y →
    EndsMortals by middle (Step cpu) → In (happens middle (Step cpu)).board → Behind by In (happens b (Step cpu)).board
by-visible by In b middle cpu y others acts lags live apart keeps mortals there =
    by-others by In b middle (Step cpu) others lags live
    (λ z other. subst (λ w. Others w others × Keeps by middle w) (one-agent middle (Step cpu) y z acts other) (apart, keeps)) mortals there

pub executor-lives : (b : BoardState) (cpu : ℕ) (x : Executor) → ((id : ℕ) → x ≡ executor.Task id → is_live_at b id ≡ true) → Lives b (agent_by cpu x)
executor-lives b cpu executor.Handler live = tt
executor-lives b cpu (executor.Task id) live = live id refl

by-acts : (by : Sharing) (Left : Type 0) (pays : Left → Event → Left → Type 0) (In : Left → BoardState → Type 0) (left : Left)
    (b : BoardState) (cpu : ℕ) (x : Executor) (it : Behind by (In left) b) → IsTree by Left pays In → pays left (Step cpu) left →
    it.place.kernel.off ≡ false → executor_on it.place.kernel cpu ≡ Some x → deliverable it.place.kernel cpu ≡ None →
    Behind by (In left) (happens b (Step cpu)).board
by-acts by Left pays In left b cpu x it tree paid off on none =
    let y : Agent = agent_by cpu x in
    let next : IsNext it.place cpu y = record {
      executor = x;
      is = refl;
      goes_on = record { on = off; executes = on; uninterrupted = none; place = tree.contexts left it.place cpu x it.there paid on };
    } in
    let pulled = pull by it.place b y it.lagging it.lags in
    let apart : Others y (without y it.lagging) = without-others y it.lagging in
    let block = tree.blocks left it.place pulled.middle cpu y pulled.count it.there paid next pulled.path in
    let like : Like it.place pulled.middle = like-path by it.place pulled.middle y pulled.count pulled.path in
    elim block.1 [
      | inl seen ↦
          by-invisible by (In left) b pulled.middle seen.0 cpu pulled.count x (without y it.lagging) it next
          (tree.steady left it.place cpu x it.there paid on)
          (executor-lives it.place cpu x (λ id is. tree.live left it.place cpu id it.there paid (on ∙ ap Some is)))
          pulled.path pulled.lags apart seen.2 seen.1
      | inr on_place ↦
          by-visible by (In left) b pulled.middle cpu y (without y it.lagging)
          (record {
            cpu = cpu;
            steps = refl;
            executes = ap (option_map (agent_by cpu)) (like.executors cpu ∙ on);
            uninterrupted = like.deliverables cpu ∙ none;
          })
          pulled.lags (all-like it.place pulled.middle (without y it.lagging) like (live-without it.place y it.lagging it.live))
          apart block.0 on_place.1 on_place.0
    ]

off-stays : (b : BoardState) (event : Event) → b.kernel.off ≡ true → (happens b event).board ≡ b
unfolding happens
off-stays b event is = ap (λ test. (if test then reported b report.Off else happens_on b event).board) is

by-step : (by : Sharing) (Left : Type 0) (pays : Left → Event → Left → Type 0) (In : Left → BoardState → Type 0) (left : Left)
    (b : BoardState) (cpu : ℕ) (it : Behind by (In left) b) → IsTree by Left pays In → pays left (Step cpu) left → (off : Bool) →
    it.place.kernel.off ≡ off → Behind by (In left) (happens b (Step cpu)).board
by-step by Left pays In left b cpu it tree paid true is =
    let like : Like it.place b = like-lags by it.place b it.lagging it.lags in
    subst (Behind by (In left)) (sym (off-stays b (Step cpu) (like.off ∙ is))) it
by-step by Left pays In left b cpu it tree paid false is =
    elim (acts-by it.place cpu (executor_on it.place.kernel cpu) (deliverable it.place.kernel cpu) refl refl) [
      | inl acts ↦ by-acts by Left pays In left b cpu acts.0 it tree paid is acts.1 acts.2
      | inr quiet ↦ by-quiet by Left pays In left left b (Step cpu) it tree paid quiet
    ]

pub tick-step : (cpu : ℕ) → Tick ≡ Step cpu → ⊥
tick-step cpu is = let wrong : ⊥ = cc in wrong

pub raise-step : (line cpu : ℕ) → Raise line ≡ Step cpu → ⊥
raise-step line cpu is = let wrong : ⊥ = cc in wrong

by-event : (by : Sharing) (Left : Type 0) (pays : Left → Event → Left → Type 0) (In : Left → BoardState → Type 0) (left rest : Left)
    (b : BoardState) (event : Event) → Behind by (In left) b → IsTree by Left pays In → pays left event rest →
    Behind by (In rest) (happens b event).board
by-event by Left pays In left rest b (Step cpu) it tree paid =
    let same : rest ≡ left = tree.steps left rest cpu paid in
    subst (λ r. Behind by (In r) (happens b (Step cpu)).board) (sym same)
    (by-step by Left pays In left b cpu it tree (subst (pays left (Step cpu)) same paid) it.place.kernel.off refl)
by-event by Left pays In left rest b Tick it tree paid =
    by-quiet by Left pays In left rest b Tick it tree paid (λ who acts. tick-step acts.cpu acts.steps)
by-event by Left pays In left rest b (Raise line) it tree paid =
    by-quiet by Left pays In left rest b (Raise line) it tree paid (λ who acts. raise-step line acts.cpu acts.steps)

reached : (by : Sharing) (Left : Type 0) (pays : Left → Event → Left → Type 0) (In : Left → BoardState → Type 0) (left rest : Left)
    (b : BoardState) (events : List Event) → IsTree by Left pays In → Behind by (In left) b → PayAll Left pays left events rest →
    Behind by (In rest) (after b events)
reached by Left pays In left rest b [] tree it paid = subst (λ r. Behind by (In r) b) paid it
reached by Left pays In left rest b (event ∷ events) tree it paid =
    reached by Left pays In paid.0 rest (happens b event).board events tree
    (by-event by Left pays In left paid.0 b event it tree paid.1) paid.2

pub reduced : ReductionLaw
reduced by Left pays In left rest b events tree there paid =
    let it = reached by Left pays In left rest b events tree
    (record { place = b; lagging = []; there = there; lags = refl; live = tt }) paid in
    record { place = it.place; lagging = it.lagging; there = it.there; lags = it.lags }
