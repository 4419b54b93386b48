-- What comes of the times of time handlers: their next times, and lines that are pending.
use Rattle.std.proofs.Common.{ℕ, zero, suc}
use Rattle.std.specs.Prelude.{List, Option}
use Rattle.brd_timers.specs.declared.timer.Timer.{Timer}
use Rattle.brd_kernel.specs.declared.processor.InterruptLine.{InterruptLine}
use Rattle.brd_kernel.specs.Kernel.{KernelState}
use Rattle.brd_kernel.specs.Waits.{rung_at, rung_below, rung}
use Rattle.brd_kernel.proofs.who_waits.ListLemmas.{either}

-- what other times of time handlers and other pending lines keep
abbrev pub Outlasts : (KernelState → Type 0) → Type 0
Outlasts P = (k : KernelState) (timers : List (Option Timer)) (lines : List InterruptLine) → P k → P (record k { timers = timers; lines = lines })

rung-below-keeps : (P : KernelState → Type 0) (k : KernelState) (place : ℕ) → Outlasts P → P k → P (rung_below k place)
unfolding rung_below
rung-below-keeps P k zero keeps was = was
rung-below-keeps P k (suc place) keeps was =
    let before : KernelState = rung_below k place in
    keeps before (rung_at before place).timers (rung_at before place).lines (rung-below-keeps P k place keeps was)

pub rung-keeps : (P : KernelState → Type 0) (k : KernelState) → Outlasts P → P k → P (rung k)
rung-keeps P k keeps was = either P k.standard (rung_below k 128) k (rung-below-keeps P k 128 keeps was) was
