-- Leases: what is needed to do a processor's local instructions apart from the board, and what a lease comes to.
use Rattle.std.specs.Prelude.{◌≡◌, ℕ, ◌+◌, ◌≤◌, ◌%◌, ◌==◌, true, false, ◌||◌, if◌then◌else◌, List, replicate}
use Rattle.std.specs.Prelude.{Option, None, Some, is_some, Result, Ok, Err}
use Rattle.brd_mem.specs.Memory.{Memory}
use Rattle.brd_mem.specs.Window.{window_start, window_at}
use Rattle.brd_exec.specs.State.{State}
use Rattle.brd_exec.specs.Lent.{lent}
use Rattle.brd_kernel.specs.declared.processor.{Processor.Processor, Standing.Standing, Marks.Marks}
use Rattle.brd_kernel.specs.Kernel.{processor_at, context_on, standing_in, marks_of, deliverable}
use Rattle.brd_board.specs.declared.event.Event.TheVariants.{Step}
use Rattle.brd_board.specs.declared.lease.Block.{Block}
use Rattle.brd_board.specs.declared.lease.Stale.{Stale}
use Rattle.brd_board.specs.Board.{BoardState, after}

-- how many instructions a lease is good for (own choice)
abbrev pub most_lent : ℕ
most_lent = 64

-- A lease of a processor: its block and its window of code as they were lent, how many instructions were done since,
-- and the context after them.
pub record LeaseState : Type 0 where
  pub cpu : ℕ
  pub block : Block
  pub window : List ℕ
  pub len : ℕ
  pub context : State

-- what is always true of a lease
pub record IsLease (lease : LeaseState) : Type 0 where
  pub most : lease.len ≤ most_lent
  pub led : lent lease.len lease.block.context lease.window (window_start lease.block.context.pc) ≡ Some lease.context

abbrev pub block_by : Standing → Marks → State → Block
block_by standing marks context = record { standing = standing; marks = marks; context = context }

-- a processor's block: what it is doing, its marks and the context in which it executes; none where it isn't there, is
-- idle or is stopped, since nobody executes there

abbrev pub block_in : Option Processor → Option State → Option Block
block_in None context = None
block_in (Some p) None = None
block_in (Some p) (Some context) = Some (block_by (standing_in p) (marks_of p) context)

abbrev pub block_of : BoardState → ℕ → Option Block
block_of b cpu = block_in (processor_at b.kernel cpu) (context_on b.kernel cpu)

-- The window of code round the address of the next instruction; none where that is unaligned or outside RAM, which
-- has the whole window of each of its addresses (`laws::ram_has_whole_windows` of brd_mem).
abbrev pub code_window : Memory → ℕ → Option (List ℕ)
code_window memory pc = if pc % 4 == 0 then window_at memory pc else None

-- a lease of which nothing was done yet
abbrev pub lease_by : ℕ → Block → Option (List ℕ) → Option LeaseState
lease_by cpu block None = None
lease_by cpu block (Some window) =
    Some (record { cpu = cpu; block = block; window = window; len = 0; context = block.context })

abbrev pub lease_in : ℕ → Memory → Option Block → Option LeaseState
lease_in cpu memory None = None
lease_in cpu memory (Some block) = lease_by cpu block (code_window memory block.context.pc)

-- The lease of a processor. There is none where the board is off, an interrupt is deliverable to the processor, it
-- isn't there, is idle or is stopped, or the address of its next instruction is unaligned or outside RAM.
abbrev pub lease_of : BoardState → ℕ → Option LeaseState
lease_of b cpu =
    if b.kernel.off || is_some (deliverable b.kernel cpu) then None else lease_in cpu b.memory (block_of b cpu)

-- What was lent is still so: the board is on, no interrupt is deliverable to the processor, and block and window are
-- what they were. What they were in between doesn't matter.
pub record IsFresh (b : BoardState) (lease : LeaseState) : Type 0 where
  pub on : b.kernel.off ≡ false
  pub uninterrupted : deliverable b.kernel lease.cpu ≡ None
  pub block : block_of b lease.cpu ≡ Some lease.block
  pub window : code_window b.memory lease.block.context.pc ≡ Some lease.window

-- the context after n more lent steps of a lease, if there are n
abbrev pub lent_more : LeaseState → ℕ → Option State
lent_more lease count = lent count lease.context lease.window (window_start lease.block.context.pc)

-- Under a lease as many lent steps were done as there are, up to the limit, and up to 64 in all.
pub record DoesMost (limit : ℕ) (old new : LeaseState) (done : ℕ) : Type 0 where
  pub led : lent_more old done ≡ Some new.context
  pub rest : new ≡ record old { len = old.len + done; context = new.context }
  pub limited : done ≤ limit
  pub most : old.len + done ≤ most_lent
  pub greatest : (count : ℕ) → count ≤ limit → old.len + count ≤ most_lent → is_some (lent_more old count) ≡ true →
      count ≤ done

-- what the commit of a lease answers and leaves: the board after as many steps of its processor, or Stale
abbrev pub Commits : BoardState → LeaseState → Result ℕ Stale → BoardState → Type 0
Commits b lease (Ok count) new =
    IsFresh b lease × (count ≡ lease.len) × (new ≡ after b (replicate lease.len (Step lease.cpu)))
Commits b lease (Err stale) new = (IsFresh b lease → ⊥) × (new ≡ b)
