-- An instruction that was done: what it wrote, what of memory it loaded or stored, and where it jumped.
use Rattle.std.specs.Prelude.{ℕ, ◌==◌, Bool, true, false, if◌then◌else◌, Option, None, Some, option_map}
use Rattle.brd_isa.specs.declared.instruction.Insn.{Insn}
use Rattle.brd_isa.specs.declared.shape.{Transfer.Transfer, MemoryAccess.MemoryAccess}
use Rattle.brd_isa.specs.Shapes.{shape_of, is_linked}
use Rattle.brd_exec.specs.State.{State, read, jump_target, target_of}
use Rattle.brd_exec.specs.Values.{is_taken, is_zero_branch_taken, is_regimm_branch_taken}
use Rattle.brd_exec.specs.Accessed.{address_in}
use Rattle.brd_happening.specs.declared.found.Found.{Found}
use Rattle.brd_happening.specs.declared.instruction.{Change.Change, Written.Written, AccessKind.AccessKind}
use Rattle.brd_happening.specs.declared.instruction.{Access.Access, Jump.Jump, Instruction.Instruction}
use Rattle.brd_happening.specs.declared.instruction.AccessKind.TheVariants.{Loads, Stores, StoresIfLinked}

-- the address that a load or a store names
abbrev pub address_by : Insn → State → Option ℕ
address_by insn s = option_map (address_in s) (shape_of insn).access

-- a register with its words before and after; register 0 is never written
abbrev pub written_in : State → State → Option ℕ → Option Written
written_in before after None = None
written_in before after (Some register) =
    if register == 0 then None
    else Some (record {
      register = register;
      word = record { old = read before register; new = read after register };
    })

-- a word before and after, if it was written
abbrev pub changed_if : Bool → ℕ → ℕ → Option Change
changed_if written old new = if written then Some (record { old = old; new = new }) else None

-- a word of memory before and after, where RAM has it
abbrev pub changed : Option ℕ → Option ℕ → Option Change
changed (Some old) (Some new) = Some (record { old = old; new = new })
changed (Some old) None = None
changed None new = None

-- how an access goes; SC stores where its processor is linked to the address
abbrev pub kind_in : Transfer → Bool → AccessKind
kind_in Transfer.Load linked = Loads
kind_in Transfer.Store linked = Stores
kind_in Transfer.LoadLinked linked = Loads
kind_in Transfer.StoreConditional linked = StoresIfLinked linked

-- how an instruction accesses memory
abbrev pub kind_of : Insn → Bool → Option AccessKind
kind_of insn linked = option_map (λ (access : MemoryAccess). kind_in access.transfer linked) (shape_of insn).access

-- whether it has stored
abbrev pub has_stored : AccessKind → Bool
has_stored Loads = false
has_stored Stores = true
has_stored (StoresIfLinked stored) = stored

abbrev pub access_in : MemoryAccess → Bool → ℕ → Option Change → Access
access_in access linked address word = record {
  kind = kind_in access.transfer linked;
  links = is_linked access.transfer;
  size = access.size;
  address = address;
  word = word;
}

abbrev pub access_by : Option MemoryAccess → Bool → Option ℕ → Option Change → Option Access
access_by (Some access) linked (Some address) word = Some (access_in access linked address word)
access_by (Some access) linked None word = None
access_by None linked address word = None

-- where a branch or a jump leads, and whether it is taken, by the registers before it
abbrev pub jump_by : Insn → State → Option Jump
jump_by (Insn.JumpRegister rs) s = Some (record { target = read s rs; taken = true })
jump_by (Insn.JumpLinkRegister rd rs) s = Some (record { target = read s rs; taken = true })
jump_by (Insn.Jump op index) s = Some (record { target = jump_target s index; taken = true })
jump_by (Insn.Branch op rs rt offset) s =
    Some (record { target = target_of s offset; taken = is_taken op (read s rs) (read s rt) })
jump_by (Insn.BranchZero op rs offset) s =
    Some (record { target = target_of s offset; taken = is_zero_branch_taken op (read s rs) })
jump_by (Insn.BranchRegimm op rs offset) s =
    Some (record { target = target_of s offset; taken = is_regimm_branch_taken op (read s rs) })
jump_by _ s = None

-- An instruction that was found, by the registers after it and the aligned word that holds the address that it names,
-- as that is then.
abbrev pub instruction_of : Insn → Found → State → Option ℕ → Instruction
instruction_of insn found after held = record {
  insn = insn;
  in_slot = found.context.slot;
  register = written_in found.context after (shape_of insn).writes.register;
  hi = changed_if (shape_of insn).writes.hi found.context.hi after.hi;
  lo = changed_if (shape_of insn).writes.lo found.context.lo after.lo;
  access = access_by (shape_of insn).access found.linked found.address (changed found.held held);
  jump = jump_by insn found.context;
}
