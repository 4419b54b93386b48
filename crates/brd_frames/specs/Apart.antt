-- Which events are apart from an agent: they neither read nor write its context, and so can't tell one of its contexts
-- from another.
use Rattle.std.specs.Prelude.{◌≡◌, ℕ, ◌==◌, Bool, true, false, not, ◌&&◌, List, [], ◌∷◌, Option, None, Some, is_some}
use Rattle.std.specs.Prelude.{is_ok, Ok}
use Rattle.brd_exec.specs.State.{State}
use Rattle.brd_tasks.specs.declared.task.Task.{Task}
use Rattle.brd_tasks.specs.Status.{is_dormant}
use Rattle.brd_tasks.specs.Tasks.{task_at}
use Rattle.brd_kernel.specs.declared.call.Call.{Call}
use Rattle.brd_kernel.specs.declared.call.Call.TheVariants as call
use Rattle.brd_kernel.specs.declared.processor.Processor.{Processor}
use Rattle.brd_kernel.specs.Kernel.{KernelState, processor_at, deliverable}
use Rattle.brd_kernel.specs.Row.{served}
use Rattle.brd_kernel.specs.Services.{named, caller_on, ter_tsk, serve_by}
use Rattle.brd_sysgate.specs.Gate.{caller_of, read_of}
use Rattle.brd_board.specs.declared.event.Event.{Event}
use Rattle.brd_board.specs.declared.event.Event.TheVariants.{Step}
use Rattle.brd_board.specs.declared.event.Report.TheVariants as report
use Rattle.brd_board.specs.Board.{BoardState, happens, after, registers_of}
use Rattle.brd_frames.specs.Steady.{is_waiting_task}
use Rattle.brd_frames.specs.Agents as agents
use Rattle.brd_frames.specs.Agents.{Agent, agent_on, with_agent, happened_with}

abbrev pub is_handling : Option Processor → Bool
is_handling None = false
is_handling (Some p) = is_some p.handling

-- An agent is steady: a task that doesn't wait, so that no wait of it can end; or a handler that is at work, so that no
-- other can begin in its place.
abbrev pub is_steady : KernelState → Agent → Bool
is_steady k (agents.Task id) = not (is_waiting_task (task_at k.tasks id))
is_steady k (agents.Handler cpu) = is_handling (processor_at k cpu)

-- A processor's next step makes a service call: it executes a SYSCALL, and the gate lets the call through.
pub record Calls (b : BoardState) (cpu : ℕ) (call : Call) : Type 0 where
  pub context : State
  pub address : ℕ
  pub executes : registers_of b cpu ≡ Some context
  pub steps : (happens b (Step cpu)).report ≡ report.Called address
  pub asks : read_of context (caller_of b.kernel cpu) ≡ Ok call

-- An event terminates a task: it is a step that calls ter_tsk of it, and the call isn't refused.
pub record Terminates (b : BoardState) (event : Event) (id : ℕ) : Type 0 where
  pub cpu : ℕ
  pub steps : event ≡ Step cpu
  pub calls : Calls b cpu (call.TerTsk id)
  pub serves : is_ok (served (ter_tsk b.kernel cpu (caller_on b.kernel cpu) id)) ≡ true

-- A call of a caller starts a task, unless it is refused: it activates the task while that is dormant, or terminates it
-- while a request to start it is queued.
abbrev pub starts : Call → ℕ → ℕ → Task → Bool
starts (call.ActTsk t) caller id task = named caller t == id && is_dormant task.status
starts (call.IactTsk t) caller id task = t == id && is_dormant task.status
starts (call.MactTsk t to) caller id task = named caller t == id && is_dormant task.status
starts (call.ImactTsk t to) caller id task = t == id && is_dormant task.status
starts (call.TerTsk t) caller id task = t == id && is_some task.activation
starts _ caller id task = false

-- An event starts an agent: it is a step that makes such a call, and the call isn't refused.
pub record Starts (b : BoardState) (event : Event) (who : Agent) : Type 0 where
  pub id : ℕ
  pub cpu : ℕ
  pub call : Call
  pub task : Task
  pub is : who ≡ agents.Task id
  pub steps : event ≡ Step cpu
  pub calls : Calls b cpu call
  pub there : task_at b.kernel.tasks id ≡ Some task
  pub starts : starts call (caller_on b.kernel cpu) id task ≡ true
  pub serves : is_ok (serve_by b.kernel cpu (caller_on b.kernel cpu) call) ≡ true

-- An event is an instruction of an agent: it is a step of a processor on which the agent executes, and no interrupt is
-- accepted there.
pub record Executes (b : BoardState) (event : Event) (who : Agent) : Type 0 where
  pub cpu : ℕ
  pub steps : event ≡ Step cpu
  pub executes : agent_on b.kernel cpu ≡ Some who
  pub uninterrupted : deliverable b.kernel cpu ≡ None

-- An event is apart from an agent: the agent is steady, and the event is no instruction of it and doesn't start it.
-- (The event may end it, suspend it, interrupt it or move it to another processor.)
pub record IsApart (b : BoardState) (event : Event) (who : Agent) : Type 0 where
  pub steady : is_steady b.kernel who ≡ true
  pub elsewhere : Executes b event who → ⊥
  pub lasting : Starts b event who → ⊥

-- each of these events is, where it happens
abbrev pub AreApart : BoardState → List Event → Agent → Type 0
AreApart b [] who = Unit {0}
AreApart b (event ∷ events) who = IsApart b event who × AreApart (happens b event).board events who

-- An event that is apart from an agent does the same on a board with another context of the agent, and leaves that.
abbrev pub FrameLaw : Type 0
FrameLaw =
    (b : BoardState) (event : Event) (who : Agent) (s : State) → IsApart b event who →
    happens (with_agent b who s) event ≡ happened_with (happens b event) who s

-- An event that starts an agent does the same whatever its context was, unless it is an instruction of the agent.
abbrev pub StartLaw : Type 0
StartLaw =
    (b : BoardState) (event : Event) (who : Agent) (s : State) → Starts b event who → (Executes b event who → ⊥) →
    happens (with_agent b who s) event ≡ happens b event

-- An agent that an event is apart from is steady after it, too.
abbrev pub SteadyLaw : Type 0
SteadyLaw =
    (b : BoardState) (event : Event) (who : Agent) → IsApart b event who →
    is_steady (happens b event).board.kernel who ≡ true

abbrev pub FramesLaw : Type 0
FramesLaw =
    (b : BoardState) (events : List Event) (who : Agent) (s : State) → AreApart b events who →
    after (with_agent b who s) events ≡ with_agent (after b events) who s
