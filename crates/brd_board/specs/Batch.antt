-- Many steps of one processor, one after the other, while nothing comes between them.
use Rattle.std.specs.Prelude.{◌≡◌, ◌<◌, ℕ, false, Option, None, Some, replicate}
use Rattle.brd_mem.specs.Memory.{Memory}
use Rattle.brd_link.specs.LinkSet.{LinkSet}
use Rattle.brd_exec.specs.State.{State}
use Rattle.brd_exec.specs.Went.{Machine, went}
use Rattle.brd_kernel.specs.declared.processor.Executor.{Executor}
use Rattle.brd_kernel.specs.Kernel.{KernelState, executor_on, context_of, with_context_of, deliverable}
use Rattle.brd_kernel.specs.Always.{HasPlace}
use Rattle.brd_board.specs.declared.event.Event.TheVariants.{Step}
use Rattle.brd_board.specs.declared.event.Report.TheVariants as report
use Rattle.brd_board.specs.Board.{BoardState, happens, after}

-- Somebody executes on a processor of a board that is on, no interrupt is deliverable to it, and the context of who
-- executes lies in the kernel (of a real board it always does). So its next step executes an instruction, and so does
-- the one after that, as long as these go on.
pub record GoesOn (b : BoardState) (cpu : ℕ) (who : Executor) : Type 0 where
  pub on : b.kernel.off ≡ false
  pub executes : executor_on b.kernel cpu ≡ Some who
  pub uninterrupted : deliverable b.kernel cpu ≡ None
  pub place : HasPlace b.kernel cpu who

-- what an instruction of a processor sees of a board: the context in which it executes, memory and links
abbrev pub machine_of : BoardState → ℕ → Executor → Machine
machine_of b cpu who = record { state = context_of b.kernel cpu who; memory = b.memory; links = b.links }

-- the board with these in their place
abbrev pub with_machine : BoardState → ℕ → Executor → Machine → BoardState
with_machine b cpu who m =
    record b { kernel = with_context_of b.kernel cpu who m.state; memory = m.memory; links = m.links }

-- What a batch of n steps of a processor leaves of the kernel, memory and links: nothing is done where nobody executes;
-- else they all go on, in the context of who does.
abbrev pub GoesBatch : Option Executor → ℕ → ℕ → KernelState → Memory → LinkSet → KernelState → Memory →
    LinkSet → Type 0
GoesBatch None cpu count k memory links new stored linked =
    (count ≡ 0) × (new ≡ k) × (stored ≡ memory) × (linked ≡ links)
GoesBatch (Some who) cpu count k memory links new stored linked =
    (left : State) × (new ≡ with_context_of k cpu who left)
    × (went cpu count (record { state = context_of k cpu who; memory = memory; links = links })
    ≡ Some (record { state = left; memory = stored; links = linked }))

-- a processor's next step executes an instruction, and no more: no call, exception or interrupt comes
abbrev pub Runs : BoardState → ℕ → Type 0
Runs b cpu = (address : ℕ) × ((happens b (Step cpu)).report ≡ report.Ran address)

-- so does each of its next n steps
abbrev pub AllRun : BoardState → ℕ → ℕ → Type 0
AllRun b cpu count = (n : ℕ) → n < count → Runs (after b (replicate n (Step cpu))) cpu
