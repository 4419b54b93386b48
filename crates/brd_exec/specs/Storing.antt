-- Which instructions may change memory: stores, and of the linked ones SC.
use Rattle.std.specs.Prelude.{ℕ, Bool, false, Option, None, Some, Result, Ok, Err}
use Rattle.brd_isa.specs.declared.instruction.Insn.{Insn}
use Rattle.brd_isa.specs.declared.shape.MemoryAccess.{MemoryAccess}
use Rattle.brd_isa.specs.Decoding.{decoded}
use Rattle.brd_isa.specs.Shapes.{shape_of, does_store}
use Rattle.brd_mem.specs.declared.fault.Exc.{Exc}
use Rattle.brd_mem.specs.Memory.{Memory}
use Rattle.brd_mem.specs.Access.{fetched}
use Rattle.brd_exec.specs.State.{State}

abbrev pub is_stored_by : Option MemoryAccess → Bool
is_stored_by None = false
is_stored_by (Some access) = does_store access.transfer

abbrev pub is_store : Insn → Bool
is_store insn = is_stored_by (shape_of insn).access

abbrev pub is_store_word : Option Insn → Bool
is_store_word None = false
is_store_word (Some insn) = is_store insn

abbrev pub is_store_fetched : Result ℕ Exc → Bool
is_store_fetched (Ok word) = is_store_word (decoded word)
is_store_fetched (Err exc) = false

-- whether a context's next instruction is a store
unfoldable pub may_store : State → Memory → Bool
may_store s memory = is_store_fetched (fetched memory s.pc)
