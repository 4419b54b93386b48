-- The touches of instructions: of a byte, a halfword or a word. LWL, LWR, SWL and SWR count as touches of the whole
-- word.
use Rattle.std.specs.Prelude.{◌+◌, ◌-◌, ◌%◌, ◌==◌, ℕ, Bool, true, false, if◌then◌else◌}
use Rattle.brd_isa.specs.declared.shape.AccessSize.{AccessSize}
use Rattle.brd_happening.specs.declared.instruction.AccessKind.{AccessKind}
use Rattle.brd_happening.specs.declared.instruction.AccessKind.TheVariants.{Loads, Stores, StoresIfLinked}
use Rattle.brd_order.specs.declared.deed.Touch.{Touch}

abbrev pub size_of : AccessSize → ℕ
size_of AccessSize.Byte = 1
size_of AccessSize.Halfword = 2
size_of AccessSize.Word = 4
size_of AccessSize.LeftPart = 4
size_of AccessSize.RightPart = 4

abbrev pub does_store : AccessKind → Bool
does_store Loads = false
does_store Stores = true
does_store (StoresIfLinked stored) = true

abbrev pub first_at : ℕ → ℕ → ℕ
first_at address size = if size == 4 then 0 else address % 4

-- a touch that doesn't synchronize
abbrev pub touch_at : ℕ → ℕ → Bool → Touch
touch_at address size stores = record {
  word = address - address % 4;
  «from» = first_at address size;
  to = first_at address size + size;
  stores = stores;
  synchronizes = false;
}

-- the same touch, which does
abbrev pub synchronizing : Touch → Touch
synchronizing touch = record touch { synchronizes = true }
