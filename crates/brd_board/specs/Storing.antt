-- Which events may change memory: steps that execute a store, also an SC.
use Rattle.std.specs.Prelude.{Bool, false, Option, None, Some}
use Rattle.brd_mem.specs.Memory.{Memory}
use Rattle.brd_exec.specs.State.{State}
use Rattle.brd_exec.specs.Storing as exec
use Rattle.brd_kernel.specs.Kernel.{context_on}
use Rattle.brd_board.specs.declared.event.Event.{Event}
use Rattle.brd_board.specs.declared.event.Event.TheVariants.{Step, Tick, Raise}
use Rattle.brd_board.specs.Board.{BoardState}

abbrev pub may_store_in : Option State → Memory → Bool
may_store_in None memory = false
may_store_in (Some s) memory = exec.may_store s memory

-- The next instruction of the processor that does a step is a store. (Where the step accepts an interrupt instead, or
-- the board is off, it changes no memory all the same.)
abbrev pub may_store : BoardState → Event → Bool
may_store b (Step cpu) = may_store_in (context_on b.kernel cpu) b.memory
may_store b Tick = false
may_store b (Raise line) = false
