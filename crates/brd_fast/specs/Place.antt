-- Only private contracts name this: where a processor is, apart from its context's registers.
use Rattle.std.specs.Prelude.{◌≡◌, ℕ, ◌+◌, ◌-◌, ◌*◌, ◌%◌, ◌^◌, Bool, true, false}
use Rattle.brd_exec.specs.State.{State}

pub record Place : Type 0 where
  pub pc : ℕ  -- the address of the next instruction
  pub npc : ℕ  -- the address of the one after it
  pub slot : Bool  -- whether the next instruction is in a delay slot
  pub left : ℕ  -- how many steps are left of those that are asked for
  pub words : ℕ  -- how many words of RAM may be executed here
  pub on : Bool  -- whether the next step may be done
  pub room : Bool  -- whether the next two may be

-- the address of a word, of those that RAM has
abbrev pub address_of_word : ℕ → ℕ
address_of_word word = 0x80000000 + 4 * word

-- the context with these registers, HI and LO at this place
abbrev pub state_of : State → Place → State
state_of s p = record s { pc = p.pc; npc = p.npc; slot = p.slot }

-- it is there
abbrev pub IsAt : Place → ℕ → ℕ → Bool → Type 0
IsAt place pc npc slot = (place.pc ≡ pc) × (place.npc ≡ npc) × (place.slot ≡ slot)

-- one step less is left of as many words, or nothing has changed
abbrev pub Leaves : Place → Bool → Place → Type 0
Leaves old true new = (new.left + 1 ≡ old.left) × (new.words ≡ old.words)
Leaves old false new = new ≡ old

-- The target of a branch that reaches n words ahead of itself, from the address of its delay slot, which lies one
-- word ahead of it.
abbrev pub reached : ℕ → ℕ → ℕ
reached npc reach = (npc + 4 * reach + (2 ^ 32 - 4)) % 2 ^ 32
