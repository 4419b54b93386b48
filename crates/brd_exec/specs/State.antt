-- The context of a processor: what a task takes along when it is interrupted or moved.
use Rattle.std.specs.Prelude.{ℕ, ◌+◌, ◌*◌, ◌/◌, ◌%◌, ◌^◌, ◌==◌, Bool, true, false, if◌then◌else◌, List, slice_index}
use Rattle.std.specs.Prelude.{slice_set, replicate}
use Rattle.brd_word.specs.Words.{sign_extended16}

pub record State : Type 0 where
  pub registers : List ℕ  -- 32 of them, of which register 0 is 0
  pub hi : ℕ
  pub lo : ℕ
  pub pc : ℕ  -- the address of the next instruction
  pub npc : ℕ  -- the address of the one after it
  pub slot : Bool  -- whether the next instruction is in a delay slot

-- where a task or a handler starts: all 0 but its argument in $a0 and its stack in $sp
abbrev pub opening : ℕ → ℕ → ℕ → State
opening address argument stack = record {
  registers = slice_set (slice_set (replicate 32 0) 4 argument) 29 stack;
  hi = 0;
  lo = 0;
  pc = address;
  npc = (address + 4) % 2 ^ 32;
  slot = false;
}

-- a register's word
abbrev pub read : State → ℕ → ℕ
read s register = slice_index s.registers register

-- a word written to a register; register 0 stays 0
abbrev pub write : State → ℕ → ℕ → State
write s register word =
    if register == 0 then s else record s { registers = slice_set s.registers register word }

-- a number of 64 bits written to HI, its high half, and LO
abbrev pub write_product : State → ℕ → State
write_product s product = record s { hi = product / 2 ^ 32; lo = product % 2 ^ 32 }

-- the number of 64 bits in HI and LO
abbrev pub product_in : State → ℕ
product_in s = s.hi * 2 ^ 32 + s.lo

-- on to the next instruction
abbrev pub advanced : State → State
advanced s = record s { pc = s.npc; npc = (s.npc + 4) % 2 ^ 32; slot = false }

-- a word for a register, and on to the next instruction
abbrev pub with_register : State → ℕ → ℕ → State
with_register s register word = write (advanced s) register word

-- on to the delay slot of a jump, and from there to its target
abbrev pub jumped : State → ℕ → State
jumped s target = record s { pc = s.npc; npc = target; slot = true }

-- a branch's target: the offset counts words from the delay slot
abbrev pub target_of : State → ℕ → ℕ
target_of s offset = (s.npc + 4 * sign_extended16 offset) % 2 ^ 32

-- on to the delay slot of a branch; from there to its target where it is taken, else past the slot
abbrev pub branched : State → Bool → ℕ → State
branched s taken offset = jumped s (if taken then target_of s offset else (s.npc + 4) % 2 ^ 32)

-- past the delay slot
abbrev pub skipped : State → State
skipped s = record s { pc = (s.npc + 4) % 2 ^ 32; npc = (s.npc + 8) % 2 ^ 32; slot = false }

-- a branch-likely that isn't taken does without its delay slot
abbrev pub branched_likely : State → Bool → ℕ → State
branched_likely s taken offset = if taken then branched s true offset else skipped s

-- a branch, which may be likely
abbrev pub after_branch : State → Bool → Bool → ℕ → State
after_branch s likely taken offset = if likely then branched_likely s taken offset else branched s taken offset

-- the address of the instruction after the delay slot, to which a call returns
abbrev pub return_address_of : State → ℕ
return_address_of s = (s.pc + 8) % 2 ^ 32

-- the return address in register 31, for an instruction that calls
abbrev pub with_return_address_if : State → Bool → State
with_return_address_if s calls = if calls then write s 31 (return_address_of s) else s

-- a jump's target: the top four bits are those of the delay slot's address, the index counts words
abbrev pub jump_target : State → ℕ → ℕ
jump_target s index = s.npc / 2 ^ 28 * 2 ^ 28 + 4 * index

-- the address that a load or a store names
abbrev pub address_of : State → ℕ → ℕ → ℕ
address_of s register offset = (read s register + sign_extended16 offset) % 2 ^ 32
