-- The bytes of memory that an instruction loads, and those that it stores, by the registers before it.
use Rattle.std.specs.Prelude.{ℕ, ◌+◌, ◌-◌, ◌%◌, if◌then◌else◌, Option, None, Some}
use Rattle.brd_word.specs.declared.order.Order.{Order}
use Rattle.brd_isa.specs.declared.instruction.Insn.{Insn}
use Rattle.brd_isa.specs.declared.shape.{AccessSize.AccessSize, MemoryAccess.MemoryAccess}
use Rattle.brd_isa.specs.Shapes.{shape_of, does_load, does_store}
use Rattle.brd_exec.specs.State.{State, address_of}
use Rattle.brd_exec.specs.declared.accessed.Span.{Span}

-- n bytes from an address on
abbrev pub span : ℕ → ℕ → Span
span address n = record { first = address; count = n }

-- of the aligned word that holds an address, the bytes up to that one, and those from that one on
abbrev pub span_up_to : ℕ → Span
span_up_to address = span (address - address % 4) (address % 4 + 1)

abbrev pub span_from : ℕ → Span
span_from address = span address (4 - address % 4)

-- the parts of an unaligned word (MD00086, the entries LWL, LWR, SWL and SWR)
abbrev pub left_part : Order → ℕ → Span
left_part Order.Big address = span_from address
left_part Order.Little address = span_up_to address

abbrev pub right_part : Order → ℕ → Span
right_part Order.Big address = span_up_to address
right_part Order.Little address = span_from address

-- the bytes of an access of this size, at an address
abbrev pub span_of : Order → AccessSize → ℕ → Span
span_of order AccessSize.Byte address = span address 1
span_of order AccessSize.Halfword address = span address 2
span_of order AccessSize.Word address = span address 4
span_of order AccessSize.LeftPart address = left_part order address
span_of order AccessSize.RightPart address = right_part order address

-- the address that an access names, and the bytes that it takes
abbrev pub address_in : State → MemoryAccess → ℕ
address_in s access = address_of s access.base access.offset

abbrev pub span_in : Order → State → MemoryAccess → Span
span_in order s access = span_of order access.size (address_in s access)

abbrev pub loaded_by : Order → State → Option MemoryAccess → Option Span
loaded_by order s None = None
loaded_by order s (Some access) = if does_load access.transfer then Some (span_in order s access) else None

abbrev pub stored_by : Order → State → Option MemoryAccess → Option Span
stored_by order s None = None
stored_by order s (Some access) = if does_store access.transfer then Some (span_in order s access) else None

-- what an instruction reads of memory, LL among the loads
abbrev pub reads_by : Order → Insn → State → Option Span
reads_by order insn s = loaded_by order s (shape_of insn).access

-- what it writes, SC among the stores, also where it doesn't store
abbrev pub writes_by : Order → Insn → State → Option Span
writes_by order insn s = stored_by order s (shape_of insn).access
