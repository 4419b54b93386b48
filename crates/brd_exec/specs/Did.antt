-- What one instruction did, as far as links and stores tell: an LL, a store, an SC, or something else.
use Rattle.std.specs.Prelude.{ℕ, Bool, false, Result, Ok, Err}
use Rattle.brd_isa.specs.declared.instruction.Insn.{Insn}
use Rattle.brd_mem.specs.declared.fault.Exc.{Exc}
use Rattle.brd_mem.specs.Memory.{Memory}
use Rattle.brd_mem.specs.Access.{loaded32, stored32}
use Rattle.brd_link.specs.LinkSet.{LinkSet, is_linked}
use Rattle.brd_exec.specs.declared.outcome.ExceptionCode.{ExceptionCode}
use Rattle.brd_exec.specs.State.{State, read}
use Rattle.brd_exec.specs.Action.{Action, action}
use Rattle.brd_exec.specs.Step.{store_gives, next_instruction}

pub data Did : Type 0 where
  LoadedLinked : ℕ → ℕ → Did  -- an LL that raised nothing: its address, and the word that it loaded
  StoredAt : ℕ → Did  -- a store that raised nothing and is no SC: its address
  Conditional : ℕ → Bool → Did  -- an SC, also one that raised: its address, and whether it stored
  Passed : Did  -- anything else
  Ended : Did  -- no instruction: a served SYSCALL, an accepted interrupt or a change of the running task

-- an LL, by what the load of its word gives
abbrev pub did_load_linked : ℕ → Result ℕ Exc → Did
did_load_linked address (Ok word) = LoadedLinked address word
did_load_linked address (Err exc) = Passed

-- a store, by the memory that it gives
abbrev pub did_store : ℕ → Result Memory Exc → Did
did_store address (Ok stored) = StoredAt address
did_store address (Err exc) = Passed

-- an SC, by whether its processor is linked to the word, and the memory that a store of the word would give
abbrev pub did_conditional : ℕ → Bool → Result Memory Exc → Did
did_conditional address linked (Ok stored) = Conditional address linked
did_conditional address linked (Err exc) = Conditional address false

abbrev pub did_action : ℕ → State → Memory → LinkSet → Action → Did
did_action cpu s memory links (Action.Local after) = Passed
did_action cpu s memory links (Action.MayStop outcome) = Passed
did_action cpu s memory links (Action.Loads op rt address) = Passed
did_action cpu s memory links (Action.Stores op rt address) =
    did_store address (store_gives op memory address (read s rt))
did_action cpu s memory links (Action.LoadsLinked rt address) = did_load_linked address (loaded32 memory address)
did_action cpu s memory links (Action.StoresIfLinked rt address) =
    did_conditional address (is_linked links cpu address) (stored32 memory address (read s rt))

abbrev pub did_next : ℕ → State → Memory → LinkSet → Result Insn ExceptionCode → Did
did_next cpu s memory links (Ok insn) = did_action cpu s memory links (action insn s)
did_next cpu s memory links (Err code) = Passed

-- what the next instruction of a processor's context does over memory and links
unfoldable pub did : ℕ → State → Memory → LinkSet → Did
did cpu s memory links = did_next cpu s memory links (next_instruction s memory)
