-- The address that the last exception on a thread's processor was about, if it was an address error or a bus error.
-- The board keeps none: it is known of a thread that stands at the exception's instruction, as a task does that it has
-- ended, by the registers that the instruction found. (Own choice: MIPS32 has none of a bus error.)
use Rattle.std.specs.Prelude.{ℕ, ◌+◌, ◌%◌, ◌^◌, ◌==◌, if◌then◌else◌, Bool, true, false, Option, Some, None}
use Rattle.brd_word.specs.declared.order.Order.{Order}
use Rattle.brd_isa.specs.declared.instruction.Insn.{Insn}
use Rattle.brd_mem.specs.Memory.{Memory}
use Rattle.brd_exec.specs.declared.accessed.Span.{Span}
use Rattle.brd_exec.specs.declared.outcome.ExceptionCode.{ExceptionCode}
use Rattle.brd_exec.specs.Accessed.{reads_by, writes_by}
use Rattle.brd_exec.specs.State.{State}
use Rattle.brd_board.specs.declared.view.Fault.{Fault}
use Rattle.brd_board.specs.Board.{BoardState}
use Rattle.brd_debug.specs.Touching.{insn_at}
use Rattle.brd_stub.specs.declared.threads.Thread.{Thread}
use Rattle.brd_stub.specs.Threads.{context_at, fault_at}

-- where the instruction of an exception lies: in a delay slot behind the branch
abbrev pub place_of : Fault → ℕ
place_of fault = if fault.bd then (fault.epc + 4) % 2 ^ 32 else fault.epc

-- the first byte of what is read, else of what is written
abbrev pub first_or : Option Span → Option Span → Option ℕ
first_or (Some read) written = Some read.first
first_or None (Some written) = Some written.first
first_or None None = None

-- the first byte that an instruction reads or writes
abbrev pub accessed_by : Order → State → Option Insn → Option ℕ
accessed_by order s None = None
accessed_by order s (Some insn) = first_or (reads_by order insn s) (writes_by order insn s)

abbrev pub accessed_next : Memory → State → Option ℕ
accessed_next memory s = accessed_by memory.order s (insn_at memory s.pc)

-- A fetch is about the address of the instruction, which of an address error isn't aligned; all else about the bytes
-- that it reads or writes.
abbrev pub loaded_next : Memory → State → Option ℕ
loaded_next memory s = if s.pc % 4 == 0 then accessed_next memory s else Some s.pc

abbrev pub address_by : Memory → State → ExceptionCode → Option ℕ
address_by memory s ExceptionCode.AdEL = loaded_next memory s
address_by memory s ExceptionCode.AdES = accessed_next memory s
address_by memory s ExceptionCode.IBE = Some s.pc
address_by memory s ExceptionCode.DBE = accessed_next memory s
address_by memory s other = None

-- of an exception, in a context that may stand at its instruction
abbrev pub address_in : Memory → Option Fault → Option State → Option ℕ
address_in memory None context = None
address_in memory (Some fault) None = None
address_in memory (Some fault) (Some s) = if s.pc == place_of fault then address_by memory s fault.code else None

unfoldable pub bad_address : BoardState → Thread → Option ℕ
bad_address b it = address_in b.memory (fault_at b it) (context_at b it)
