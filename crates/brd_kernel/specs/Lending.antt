-- A context that is changed where it lies.
use Rattle.std.specs.Prelude.{ℕ}
use Rattle.std.specs.Borrow.{Lends, MutBor, Fml}
use Rattle.brd_exec.specs.State.{State}
use Rattle.brd_exec.specs.contracts.context.Context.{the_row as context_row}
use Rattle.brd_kernel.specs.contracts.kernel.Kernel.{the_row as kernel_row}
use Rattle.brd_kernel.specs.declared.processor.Executor.{Executor}
use Rattle.brd_kernel.specs.Kernel.{KernelState, with_context_of}

-- the kernel ends with what is last in the context
abbrev pub LendsContext : MutBor KernelState → ℕ → Executor → MutBor State → Fml
LendsContext kernel cpu who context = Lends kernel_row context_row kernel context (with_context_of kernel.now cpu who)
