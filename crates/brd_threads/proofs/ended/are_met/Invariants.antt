-- The workers that are left are the first of all; the others are looked at.
use Rattle.std.proofs.Common.{◌≡◌, ℕ, ◌+◌, ◌<◌, ◌≤◌, length}
use Rattle.std.specs.Prelude.{Bool, Result, slice_index_or, Decides}
use Rattle.brd_ledgers.specs.Shares.{Counted}
use Rattle.brd_threads.specs.declared.fault.RaceFault.{RaceFault}
use Rattle.brd_threads.specs.Outers.{steps}
use Rattle.brd_threads.proofs.RaceLemmas.{AreMetFrom}
use Rattle.brd_threads.proofs.ended.are_met.Given as goal

abbrev pub invariant-loop-worked : goal.invariant-loop-worked
invariant-loop-worked g l = record {
  few : length l.workers.items ≤ length l.fn.workers.items;
  front : (i : ℕ) (default : Counted × Result Bool RaceFault) → i < length l.workers.items
      → slice_index_or l.workers.items i default ≡ slice_index_or l.fn.workers.items i default;
  same : l.station ≡ l.fn.station;
  counted : (i : ℕ) (default : Counted × Result Bool RaceFault) → length l.workers.items ≤ i → i < length l.fn.workers.items
      → steps (i + 1) l.station.journal.events ≡ (slice_index_or l.fn.workers.items i default).0.count;
  met : Decides l.met (AreMetFrom (length l.workers.items) l.quotas l.station.journal.events);
}

abbrev pub decreases-loop-worked : goal.decreases-loop-worked
decreases-loop-worked g l = length l.workers.items
