-- What the next instruction of a context loads or stores, by its word and its shape.
use Rattle.std.specs.Prelude.{ℕ, ◌+◌, Option, None, Some}
use Rattle.brd_isa.specs.declared.instruction.{Insn.Insn}
use Rattle.brd_isa.specs.declared.shape.{AccessSize.AccessSize, MemoryAccess.MemoryAccess}
use Rattle.brd_isa.specs.Decoding.{decoded}
use Rattle.brd_isa.specs.Shapes.{shape_of}
use Rattle.brd_mem.specs.Memory.{Memory}
use Rattle.brd_exec.specs.State.{State, address_of}
use Rattle.brd_exec.specs.Unaligned.{aligned}
use Rattle.brd_board.specs.Words.{word_at}
use Rattle.brd_blocks.specs.declared.footprint.Access.{Access}

-- the first and the last address that an access of a size takes
abbrev pub first_of : AccessSize → ℕ → ℕ
first_of AccessSize.Byte address = address
first_of AccessSize.Halfword address = address
first_of AccessSize.Word address = address
first_of AccessSize.LeftPart address = aligned address
first_of AccessSize.RightPart address = aligned address

abbrev pub last_of : AccessSize → ℕ → ℕ
last_of AccessSize.Byte address = address
last_of AccessSize.Halfword address = address + 1
last_of AccessSize.Word address = address + 3
last_of AccessSize.LeftPart address = aligned address + 3
last_of AccessSize.RightPart address = aligned address + 3

abbrev pub access_in : State → Option MemoryAccess → Option Access
access_in s None = None
access_in s (Some it) = Some (record {
  transfer = it.transfer;
  address = address_of s it.base it.offset;
  first = first_of it.size (address_of s it.base it.offset);
  last = last_of it.size (address_of s it.base it.offset);
})

abbrev pub access_by : State → Option Insn → Option Access
access_by s None = None
access_by s (Some insn) = access_in s (shape_of insn).access

-- the instruction that a word stands for
abbrev pub stands_for : Option ℕ → Option Insn
stands_for None = None
stands_for (Some word) = decoded word

unfoldable pub access_of : State → Memory → Option Access
access_of s memory = access_by s (stands_for (word_at memory s.pc))
