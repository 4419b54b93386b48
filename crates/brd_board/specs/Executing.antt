-- One instruction on a processor, in the context in which it executes.
use Rattle.std.specs.Prelude.{◌≡◌, ℕ, Option, None, Some}
use Rattle.brd_mem.specs.Memory.{Memory}
use Rattle.brd_link.specs.LinkSet.{LinkSet}
use Rattle.brd_exec.specs.Step.{Ran, ran}
use Rattle.brd_kernel.specs.declared.processor.Executor.{Executor}
use Rattle.brd_kernel.specs.Kernel.{KernelState, executor_on, context_of, with_context_of}
use Rattle.brd_board.specs.declared.executing.Ended.{Ended}

-- the kernel, memory and links after it, its address and how it ended
pub record Executed : Type 0 where
  pub kernel : KernelState
  pub memory : Memory
  pub links : LinkSet
  pub ended : Ended

abbrev pub executed_by : KernelState → ℕ → Executor → ℕ → Ran → Executed
executed_by k cpu who address after = record {
  kernel = with_context_of k cpu who after.state;
  memory = after.memory;
  links = after.links;
  ended = record { address = address; outcome = after.outcome };
}

abbrev pub executed_in : KernelState → ℕ → Memory → LinkSet → Option Executor → Option Executed
executed_in k cpu memory links None = None
executed_in k cpu memory links (Some who) =
    Some (executed_by k cpu who (context_of k cpu who).pc (ran cpu (context_of k cpu who) memory links))

-- an instruction in the context in which a processor executes; None where nobody executes
abbrev pub executed : KernelState → ℕ → Memory → LinkSet → Option Executed
executed k cpu memory links = executed_in k cpu memory links (executor_on k cpu)

-- what a function that executes has left and returned
abbrev pub Executes : Option Executed → KernelState → Memory → LinkSet → KernelState → Memory → LinkSet →
    Option Ended → Type 0
Executes None old memory links new stored linked result =
    (new ≡ old) × (stored ≡ memory) × (linked ≡ links) × (result ≡ None)
Executes (Some e) old memory links new stored linked result =
    (new ≡ e.kernel) × (stored ≡ e.memory) × (linked ≡ e.links) × (result ≡ Some e.ended)
