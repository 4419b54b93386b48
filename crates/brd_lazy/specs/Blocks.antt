-- Blocks of a processor: some instructions that nobody else can see, and then one that others may see. What others may
-- see, and who may touch what, a sharing says (brd_frames, `Sharing`).
use Rattle.std.specs.Prelude.{◌≡◌, ◌⊎◌, ℕ, suc, ◌-◌, ◌<◌, true, List, replicate}
use Rattle.brd_board.specs.declared.event.Event.{Event}
use Rattle.brd_board.specs.declared.event.Event.TheVariants.{Step}
use Rattle.brd_board.specs.Board.{BoardState, after}
use Rattle.brd_explore.specs.declared.bounds.Bounds.{Bounds}
use Rattle.brd_explore.specs.Schedules.{Place, is_left, preempts, one_if, stepper, IsAmong}
use Rattle.brd_frames.specs.Agents.{Agent}
use Rattle.brd_frames.specs.Going.{IsNext}
use Rattle.brd_frames.specs.Lagging.{Sharing}
use Rattle.brd_blocks.specs.Stepping.{AllStandWell, IsHidden, IsVisible}

-- the board after so many steps of a processor
abbrev pub after_steps : BoardState → ℕ → ℕ → BoardState
after_steps b cpu count = after b (replicate count (Step cpu))

-- Of the next steps of a processor the first ones, so many, are instructions that nobody else can see.
abbrev pub AreHidden : Sharing → BoardState → ℕ → ℕ → Type 0
AreHidden by b cpu count = (k : ℕ) → k < count → IsHidden by (after_steps b cpu k) cpu

-- A block of a processor: so many such steps, and then one that others may see.
pub record IsBlock (by : Sharing) (b : BoardState) (cpu count : ℕ) : Type 0 where
  pub hidden : AreHidden by b cpu count
  pub visible : IsVisible by (after_steps b cpu count) cpu

-- an event may come at a place: it is one of those that may come at all, and something is left for it
pub record MayCome (among : List Event) (p : Place) (event : Event) : Type 0 where
  pub listed : IsAmong among event
  pub left : is_left p event ≡ true

-- The blocks from a place keep to the sharing: who executes on a processor that may step stands well; and each step of
-- a block, as far as the events reach that are left, is one that nobody else can see, or keeps to who may touch what
-- and ends the block. So a block that is cut short by the bounds keeps to the sharing, too, as far as it goes.
pub record IsKept (by : Sharing) (among : List Event) (p : Place) : Type 0 where
  pub stands : (cpu : ℕ) → MayCome among p (Step cpu) → AllStandWell p.board cpu
  pub blocks : (cpu count : ℕ) (who : Agent) → MayCome among p (Step cpu) → IsNext p.board cpu who →
      count < p.left.events → AreHidden by p.board cpu count →
      IsHidden by (after_steps p.board cpu count) cpu ⊎ IsVisible by (after_steps p.board cpu count) cpu

-- What is left after so many steps of a processor, of which the first one preempts who has stepped last.
abbrev pub left_by : Place → ℕ → ℕ → Bounds
left_by p cpu count =
    record p.left { events = p.left.events - count; preemptions = p.left.preemptions - one_if (preempts p.last cpu) }

-- the place after a block with so many instructions that nobody else can see
abbrev pub end_of : Place → ℕ → ℕ → Place
end_of p cpu count = record {
  board = after_steps p.board cpu (suc count);
  left = left_by p cpu (suc count);
  last = stepper (after_steps p.board cpu (suc count)) p.last (Step cpu);
}
