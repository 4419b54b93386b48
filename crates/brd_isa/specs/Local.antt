-- Which instructions are local: they touch only registers, HI, LO and the program counter, and whatever these hold they
-- neither raise an exception nor call the kernel. (That a branch or a jump is refused in a delay slot is no matter of
-- the instruction by itself.) SYNC and PREF touch nothing.
use Rattle.std.specs.Prelude.{Bool, true, false, ◌&&◌, not, is_some}
use Rattle.brd_isa.specs.declared.instruction.Insn.{Insn}
use Rattle.brd_isa.specs.declared.shape.{Flow.Flow, Shape.Shape}
use Rattle.brd_isa.specs.Shapes.{shape_of}

-- where it leads, another instruction is executed next
abbrev pub goes_on : Flow → Bool
goes_on Flow.Next = true
goes_on Flow.NextUnlessRaised = false
goes_on Flow.Branch = true
goes_on Flow.BranchAndLink = true
goes_on Flow.Jump = true
goes_on Flow.JumpAndLink = true
goes_on Flow.Return = true
goes_on Flow.ServiceCall = false
goes_on Flow.Exception = false

abbrev pub is_local_shape : Shape → Bool
is_local_shape shape = not (is_some shape.access) && goes_on shape.flow

abbrev pub is_local : Insn → Bool
is_local insn = is_local_shape (shape_of insn)
