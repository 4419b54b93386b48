-- Who holds spin locks: each is free or has exactly one holder, after every event.
use Rattle.std.specs.Prelude.{◌≡◌, ℕ, ◌==◌, Bool, true, false, Option, None, Some, is_some}
use Rattle.brd_kernel.specs.declared.processor.Processor.{Processor}
use Rattle.brd_kernel.specs.declared.processor.Spin.{Spin}
use Rattle.brd_kernel.specs.declared.processor.Spin.TheVariants.{Free, Held}
use Rattle.brd_kernel.specs.Kernel.{KernelState, processor_at, executor_in, holds, spin_of}

-- How a processor stands that holds a spin lock: it is CPU-locked, and its task or its handler executes; without the
-- profile its task.
pub record IsHolder (standard : Bool) (p : Processor) : Type 0 where
  pub locked : p.locked ≡ true
  pub executes : is_some (executor_in (Some p)) ≡ true
  pub plain : standard ≡ false → p.handling ≡ None

-- which processors hold the spin lock of an ID, by how it stands: nobody where there is none or it is free, else that
-- processor, and no other
abbrev pub HeldAs : KernelState → ℕ → Option Spin → Type 0
HeldAs k id None = (cpu : ℕ) → holds id (processor_at k cpu) ≡ false
HeldAs k id (Some Free) = (cpu : ℕ) → holds id (processor_at k cpu) ≡ false
HeldAs k id (Some (Held cpu)) = (other : ℕ) → holds id (processor_at k other) ≡ (other == cpu)

-- each spin lock is held by those who hold it as it stands, and its holder is one
pub record AreLocks (k : KernelState) : Type 0 where
  pub held : (id : ℕ) → HeldAs k id (spin_of k id)
  pub holders : (cpu id : ℕ) (p : Processor) → processor_at k cpu ≡ Some p → p.spin ≡ Some id → IsHolder k.standard p
