-- What becomes of a lease that a station lent.
use Rattle.std.specs.Prelude.{◌≡◌, ◌⊎◌, ◌<◌, ℕ, true, false, List, replicate, Option, None, Some, Result, Ok, Err}
use Rattle.brd_board.specs.declared.event.Event.{Event}
use Rattle.brd_board.specs.declared.event.Event.TheVariants.{Step}
use Rattle.brd_board.specs.Lease.{LeaseState, IsFresh, lease_of}
use Rattle.brd_threads.specs.declared.fault.CommitFault.{CommitFault}
use Rattle.brd_threads.specs.declared.fault.CommitFault.TheVariants.{NoMemory, JournalFull, Stale}
use Rattle.brd_threads.specs.declared.workers.Turn.{Turn}
use Rattle.brd_threads.specs.Station.{StationState, board_of, has_room, with_events}

-- what was done under a lease, as events
abbrev pub steps_under : LeaseState → List Event
steps_under lease = replicate lease.len (Step lease.cpu)

-- What the commit of a lease answers and leaves: the steps that were done under it have happened. Or nothing has: where
-- the lease is stale, whatever room there is; else where the journal has no room for the steps, or memory ran out.
abbrev pub Commits : StationState → LeaseState → Result ℕ CommitFault → StationState → Type 0
Commits old lease (Ok count) new =
    IsFresh (board_of old) lease × (has_room old.journal (steps_under lease) ≡ true) × (count ≡ lease.len)
    × (new ≡ with_events old (steps_under lease))
Commits old lease (Err NoMemory) new = IsFresh (board_of old) lease × (new ≡ old)
Commits old lease (Err JournalFull) new =
    IsFresh (board_of old) lease × (has_room old.journal (steps_under lease) ≡ false) × (new ≡ old)
Commits old lease (Err Stale) new = (IsFresh (board_of old) lease → ⊥) × (new ≡ old)

-- a processor's lease under which nothing was done yet
pub record IsNewFor (cpu : ℕ) (lease : LeaseState) : Type 0 where
  pub mine : lease.cpu ≡ cpu
  pub new : lease.len ≡ 0

-- how many steps a turn has counted, by what was run under its lease: as many as that where it is committed, else one
abbrev pub CountsTurn : Option LeaseState → ℕ → Type 0
CountsTurn None steps = steps ≡ 1
CountsTurn (Some lease) steps = (steps ≡ 1) ⊎ ((steps ≡ lease.len) × (0 < lease.len))

-- what a worker is lent for its next turn: a lease, or no lease; and no turn where the board is off
abbrev pub IsLent : StationState → ℕ → LeaseState → Turn → LeaseState → Type 0
IsLent station cpu old Turn.Leased new =
    ((board_of station).kernel.off ≡ false) × (lease_of (board_of station) cpu ≡ Some new)
IsLent station cpu old Turn.Unleased new =
    ((board_of station).kernel.off ≡ false) × (lease_of (board_of station) cpu ≡ None) × (new ≡ old)
IsLent station cpu old Turn.Off new = ((board_of station).kernel.off ≡ true) × (new ≡ old)

-- what was run in a turn: the lease, where it had one
abbrev pub run_in : Turn → LeaseState → Option LeaseState
run_in Turn.Leased lease = Some lease
run_in Turn.Unleased lease = None
run_in Turn.Off lease = None
