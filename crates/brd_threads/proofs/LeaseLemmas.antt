-- Leases: new when they are lent, and done when they are committed fresh.
use Rattle.std.proofs.Common.{◌≡◌, ℕ, List, sym}
use Rattle.std.specs.Prelude.{Bool, true, false, ◌||◌, if◌then◌else◌, Option, None, Some, is_some, IfSome}
use Rattle.brd_board.specs.declared.lease.Block.{Block}
use Rattle.brd_board.specs.Board.{BoardState}
use Rattle.brd_board.specs.Lease.{LeaseState, block_of, code_window, lease_by, lease_in, lease_of}
use Rattle.brd_board.specs.Kernel.{deliverable}
use Rattle.brd_board.specs.Memory.{Memory}
use Rattle.brd_threads.specs.Leases.{IsNewFor}

by_new : (cpu : ℕ) (block : Block) (window : Option (List ℕ)) (l : LeaseState) → lease_by cpu block window ≡ Some l → IsNewFor cpu l
by_new cpu block None l is = cc
by_new cpu block (Some window) l is = record { mine = cc; new = cc }

in_new : (cpu : ℕ) (memory : Memory) (block : Option Block) (l : LeaseState) → lease_in cpu memory block ≡ Some l → IsNewFor cpu l
in_new cpu memory None l is = cc
in_new cpu memory (Some block) l is = by_new cpu block (code_window memory block.context.pc) l is

unless : (stopped : Bool) (cpu : ℕ) (o : Option LeaseState) (l : LeaseState) → (o ≡ Some l → IsNewFor cpu l) → ◌≡◌ {A = Option LeaseState} (if stopped then None else o) (Some l) → IsNewFor cpu l
unless true cpu o l new is = cc
unless false cpu o l new is = new is

pub lent_new : (b : BoardState) (cpu : ℕ) (l : LeaseState) → lease_of b cpu ≡ Some l → IsNewFor cpu l
lent_new b cpu l is = unless (b.kernel.off || is_some (deliverable b.kernel cpu)) cpu (lease_in cpu b.memory (block_of b cpu)) l (in_new cpu b.memory (block_of b cpu) l) is

pub lent_is_new : (b : BoardState) (cpu : ℕ) (lent : Option LeaseState) → lent ≡ lease_of b cpu → IfSome lent (IsNewFor cpu)
lent_is_new b cpu None is = tt
lent_is_new b cpu (Some l) is = lent_new b cpu l (sym is)
