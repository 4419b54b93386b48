-- A tree of boards through which a reduced search goes, and where every list of events comes in it. Places of the tree
-- are boards at which blocks begin, each with what is left there of what events take: a block of a processor has
-- invisible instructions, and then one that is visible.
use Rattle.std.specs.Prelude.{◌≡◌, ◌⊎◌, ℕ, true, List, [], ◌∷◌, Some}
use Rattle.brd_kernel.specs.declared.processor.Executor.{Executor}
use Rattle.brd_kernel.specs.declared.processor.Executor.TheVariants as executor
use Rattle.brd_kernel.specs.Kernel.{executor_on}
use Rattle.brd_kernel.specs.Always.{HasPlace}
use Rattle.brd_board.specs.declared.event.Event.{Event}
use Rattle.brd_board.specs.declared.event.Event.TheVariants.{Step}
use Rattle.brd_board.specs.Board.{BoardState, happens, after}
use Rattle.brd_frames.specs.Agents as agents
use Rattle.brd_frames.specs.Agents.{Agent, agent_by}
use Rattle.brd_frames.specs.Apart.{is_steady, Executes, Terminates}
use Rattle.brd_frames.specs.Ending.{is_live_at}
use Rattle.brd_frames.specs.Going.{IsNext}
use Rattle.brd_frames.specs.Commuting.{EndsNoLink}
use Rattle.brd_frames.specs.Lagging.{Sharing, Keeps, IsInvisible, Lags, Path}

-- no agent executes an instruction in an event: a tick, a raise, an accepted interrupt, a step that does nothing
abbrev pub IsQuiet : BoardState → Event → Type 0
IsQuiet b event = (who : Agent) → Executes b event who → ⊥

-- an event terminates no task but mortal ones
abbrev pub EndsMortals : Sharing → BoardState → Event → Type 0
EndsMortals by b event = (id : ℕ) → Terminates b event id → by.mortal (agents.Task id) ≡ true

-- What a list of events takes: `pays` says what one of them leaves of what is left.
abbrev pub PayAll : (Left : Type 0) → (Left → Event → Left → Type 0) → Left → List Event → Left → Type 0
PayAll Left pays left [] rest = left ≡ rest
PayAll Left pays left (event ∷ events) rest = (next : Left) × pays left event next × PayAll Left pays next events rest

-- `In` says which boards are places of the tree, with what is left there.
pub record IsTree (by : Sharing) (Left : Type 0) (pays : Left → Event → Left → Type 0)
    (In : Left → BoardState → Type 0) : Type 0 where
  -- a step takes nothing
  pub steps : (left rest : Left) (cpu : ℕ) → pays left (Step cpu) rest → rest ≡ left
  -- who executes on a processor that may step has a context, and is steady; a task that does isn't dormant
  pub contexts : (left : Left) (b : BoardState) (cpu : ℕ) (who : Executor) → In left b → pays left (Step cpu) left →
      executor_on b.kernel cpu ≡ Some who → HasPlace b.kernel cpu who
  pub steady : (left : Left) (b : BoardState) (cpu : ℕ) (who : Executor) → In left b → pays left (Step cpu) left →
      executor_on b.kernel cpu ≡ Some who → is_steady b.kernel (agent_by cpu who) ≡ true
  pub live : (left : Left) (b : BoardState) (cpu id : ℕ) → In left b → pays left (Step cpu) left →
      executor_on b.kernel cpu ≡ Some (executor.Task id) → is_live_at b id ≡ true
  -- a quiet event for which enough is left leads from a place to a place
  pub quiet : (left rest : Left) (b : BoardState) (event : Event) → In left b → pays left event rest →
      IsQuiet b event → In rest (happens b event).board
  -- From a place, after however many invisible instructions of whoever executes on a processor that may step, the next
  -- one keeps to the sharing; and it is invisible too and ends no link of others, or leads to a place and terminates
  -- nobody who isn't mortal.
  pub blocks : (left : Left) (b middle : BoardState) (cpu : ℕ) (who : Agent) (count : ℕ) → In left b →
      pays left (Step cpu) left → IsNext b cpu who → Path by b who count middle →
      Keeps by middle who
      × (((new : BoardState) × IsInvisible by middle who new × EndsNoLink middle cpu who)
      ⊎ (In left (happens middle (Step cpu)).board × EndsMortals by middle (Step cpu)))

-- a place of the tree that lags behind a board
pub record Reaches (by : Sharing) (In : BoardState → Type 0) (b : BoardState) : Type 0 where
  pub place : BoardState
  pub lagging : List Agent
  pub there : In place
  pub lags : Lags by place lagging b

-- Behind every board to which a list of events leads from a place of the tree, if enough is left for them, there is a
-- place of the tree, with what they leave.
abbrev pub Reduces : Sharing → (Left : Type 0) → (Left → Event → Left → Type 0) → (Left → BoardState → Type 0) → Type 0
Reduces by Left pays In =
    (left rest : Left) (b : BoardState) (events : List Event) → IsTree by Left pays In → In left b →
    PayAll Left pays left events rest → Reaches by (In rest) (after b events)

-- This is so of every tree.
abbrev pub ReductionLaw : Type 1
ReductionLaw =
    (by : Sharing) (Left : Type 0) (pays : Left → Event → Left → Type 0) (In : Left → BoardState → Type 0) →
    Reduces by Left pays In
