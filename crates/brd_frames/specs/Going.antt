-- What an agent's next instruction does, whichever processor does it: all but an LL and an SC, which are about the link
-- of a processor.
use Rattle.std.specs.Prelude.{◌≡◌, ℕ, Bool, true, false, Option, None, Some, IsSome, Result, Ok, Err}
use Rattle.brd_isa.specs.declared.instruction.{Insn.Insn}
use Rattle.brd_mem.specs.declared.fault.Exc.{Exc}
use Rattle.brd_mem.specs.Memory.{Memory}
use Rattle.brd_link.specs.LinkSet.{LinkSet, after_store}
use Rattle.brd_exec.specs.declared.outcome.{ExceptionCode.ExceptionCode, Stop.Stop}
use Rattle.brd_exec.specs.State.{State, read, advanced}
use Rattle.brd_exec.specs.Action.{Action, with_word, action}
use Rattle.brd_exec.specs.Step.{with_code, load_gives, store_gives, next_instruction}
use Rattle.brd_kernel.specs.declared.processor.Executor.{Executor}
use Rattle.brd_board.specs.declared.event.Event.TheVariants.{Step}
use Rattle.brd_board.specs.declared.event.Report.TheVariants as report
use Rattle.brd_board.specs.Board.{BoardState, reported, happens}
use Rattle.brd_board.specs.Batch.{GoesOn}
use Rattle.brd_frames.specs.Agents.{Agent, agent_by, context_in, with_context_in}

-- What an instruction leads to: a context and a memory, and the address to which it has stored, if it is a store.
pub record Gone : Type 0 where
  pub context : State
  pub memory : Memory
  pub stored : Option ℕ

abbrev pub gone_on : Memory → Result State Stop → Option Gone
gone_on memory (Ok context) = Some (record { context = context; memory = memory; stored = None })
gone_on memory (Err stop) = None

abbrev pub gone_storing : State → ℕ → Result Memory Exc → Option Gone
gone_storing s address (Ok memory) = Some (record { context = advanced s; memory = memory; stored = Some address })
gone_storing s address (Err exc) = None

abbrev pub goes_by : State → Memory → Action → Option Gone
goes_by s memory (Action.Local after) = gone_on memory (Ok after)
goes_by s memory (Action.MayStop outcome) = gone_on memory outcome
goes_by s memory (Action.Loads op rt address) =
    gone_on memory (with_word s rt (with_code (load_gives op memory address (read s rt))))
goes_by s memory (Action.Stores op rt address) = gone_storing s address (store_gives op memory address (read s rt))
goes_by s memory (Action.LoadsLinked rt address) = None
goes_by s memory (Action.StoresIfLinked rt address) = None

abbrev pub goes_next : State → Memory → Result Insn ExceptionCode → Option Gone
goes_next s memory (Ok insn) = goes_by s memory (action insn s)
goes_next s memory (Err code) = None

-- what the next instruction of a context leads to over a memory; none where it makes a call, raises an exception, or is
-- an LL or an SC
unfoldable pub goes : State → Memory → Option Gone
goes s memory = goes_next s memory (next_instruction s memory)

-- the links after it: a store of a processor ends those of others to words of the stored block
abbrev pub links_after : ℕ → LinkSet → Option ℕ → LinkSet
links_after cpu links None = links
links_after cpu links (Some address) = after_store links cpu address

-- the board after it, the links being these
abbrev pub with_gone : BoardState → Agent → LinkSet → Gone → BoardState
with_gone b who links gone =
    record b { kernel = with_context_in b.kernel who gone.context; memory = gone.memory; links = links }

-- An agent's next instruction is a processor's next step: the board is on, the agent executes there, and no interrupt
-- is deliverable.
pub record IsNext (b : BoardState) (cpu : ℕ) (who : Agent) : Type 0 where
  pub executor : Executor
  pub is : agent_by cpu executor ≡ who
  pub goes_on : GoesOn b cpu executor

-- What the instruction of an agent does on a processor is what `goes` says, and that speaks of no processor.
abbrev pub ProcessorLaw : Type 0
ProcessorLaw =
    (b : BoardState) (cpu : ℕ) (who : Agent) (gone : Gone) → IsNext b cpu who →
    goes (context_in b.kernel who) b.memory ≡ Some gone →
    happens b (Step cpu)
    ≡ reported (with_gone b who (links_after cpu b.links gone.stored) gone) (report.Ran (context_in b.kernel who).pc)

-- an action that is no LL and no SC
abbrev pub is_plain : Action → Bool
is_plain (Action.Local after) = true
is_plain (Action.MayStop outcome) = true
is_plain (Action.Loads op rt address) = true
is_plain (Action.Stores op rt address) = true
is_plain (Action.LoadsLinked rt address) = false
is_plain (Action.StoresIfLinked rt address) = false

abbrev pub is_plain_next : State → Result Insn ExceptionCode → Bool
is_plain_next s (Ok insn) = is_plain (action insn s)
is_plain_next s (Err code) = true

-- Each step that has executed an instruction, no LL and no SC, is one of which `goes` says what it does.
abbrev pub GoesLaw : Type 0
GoesLaw =
    (b : BoardState) (cpu address : ℕ) (who : Agent) → IsNext b cpu who →
    (happens b (Step cpu)).report ≡ report.Ran address →
    is_plain_next (context_in b.kernel who) (next_instruction (context_in b.kernel who) b.memory) ≡ true →
    IsSome (goes (context_in b.kernel who) b.memory)
