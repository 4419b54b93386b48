-- What a step of a processor is, by who may touch which word, and who is mortal.
use Rattle.std.specs.Prelude.{◌≡◌, ◌≤◌, ℕ, true, Some}
use Rattle.brd_link.specs.LinkSet.{IsLinkSet}
use Rattle.brd_kernel.specs.declared.processor.Executor.{Executor}
use Rattle.brd_kernel.specs.declared.processor.Executor.TheVariants as executor
use Rattle.brd_kernel.specs.Kernel.{executor_on}
use Rattle.brd_kernel.specs.Always.{HasPlace}
use Rattle.brd_board.specs.declared.event.Event.{Event}
use Rattle.brd_board.specs.declared.event.Event.TheVariants.{Step}
use Rattle.brd_board.specs.Board.{BoardState, happens}
use Rattle.brd_frames.specs.Agents.{Agent, agent_by}
use Rattle.brd_frames.specs.Apart.{is_steady}
use Rattle.brd_frames.specs.Ending.{is_live_at}
use Rattle.brd_frames.specs.Going.{IsNext}
use Rattle.brd_frames.specs.Commuting.{EndsNoLink}
use Rattle.brd_frames.specs.Lagging.{Sharing, Keeps, IsInvisible}
use Rattle.brd_frames.specs.Reducing.{IsQuiet, EndsMortals}
use Rattle.brd_blocks.specs.declared.stepped.Stepped.{Stepped}
use Rattle.brd_blocks.specs.declared.stepped.Stepped.TheVariants as stepped

-- A step does nothing, and nobody executes in it.
pub record IsIdle (b : BoardState) (cpu : ℕ) : Type 0 where
  pub same : (happens b (Step cpu)).board ≡ b
  pub quiet : IsQuiet b (Step cpu)

-- A step is an instruction of an agent that nobody else can see, and ends no link of another processor.
pub record IsHidden (by : Sharing) (b : BoardState) (cpu : ℕ) : Type 0 where
  pub who : Agent
  pub next : IsNext b cpu who
  pub invisible : IsInvisible by b who (happens b (Step cpu)).board
  pub apart : EndsNoLink b cpu who

-- A step is an instruction of an agent that keeps to the sharing, but isn't invisible, and terminates nobody who isn't
-- mortal.
pub record IsVisible (by : Sharing) (b : BoardState) (cpu : ℕ) : Type 0 where
  pub who : Agent
  pub next : IsNext b cpu who
  pub keeps : Keeps by b who
  pub visible : (new : BoardState) → IsInvisible by b who new → ⊥
  pub mortals : EndsMortals by b (Step cpu)

-- what a step was that is said to be so
abbrev pub IsStepped : Sharing → BoardState → ℕ → Stepped → Type 0
IsStepped by b cpu stepped.Off = (b.kernel.off ≡ true) × ((happens b (Step cpu)).board ≡ b)
IsStepped by b cpu stepped.Nothing = IsIdle b cpu
IsStepped by b cpu stepped.Accepted = IsQuiet b (Step cpu)
IsStepped by b cpu stepped.Invisible = IsHidden by b cpu
IsStepped by b cpu stepped.Visible = IsVisible by b cpu
IsStepped by b cpu stepped.Strays = Unit {0}

-- Who executes on a processor has a context, and is steady; a task that does isn't dormant.
pub record StandsWell (b : BoardState) (cpu : ℕ) (who : Executor) : Type 0 where
  pub place : HasPlace b.kernel cpu who
  pub steady : is_steady b.kernel (agent_by cpu who) ≡ true
  pub live : (id : ℕ) → who ≡ executor.Task id → is_live_at b id ≡ true

abbrev pub AllStandWell : BoardState → ℕ → Type 0
AllStandWell b cpu = (who : Executor) → executor_on b.kernel cpu ≡ Some who → StandsWell b cpu who

-- Links that are a set stay one, whatever happens on the processors 1 to 8.
abbrev pub LinkSetLaw : Type 0
LinkSetLaw =
    (b : BoardState) (event : Event) → ((cpu : ℕ) → event ≡ Step cpu → (1 ≤ cpu) × (cpu ≤ 8)) → IsLinkSet b.links →
    IsLinkSet (happens b event).board.links
