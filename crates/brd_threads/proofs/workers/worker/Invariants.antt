use Rattle.std.proofs.Common.{◌≡◌, ◌≤◌, ◌-◌}
use Rattle.brd_threads.specs.declared.workers.Turn.{Turn}
use Rattle.brd_threads.specs.Leases.{IsNewFor}
use Rattle.brd_threads.proofs.workers.worker.Given as goal

abbrev pub invariant-loop-decoded : goal.invariant-loop-decoded
invariant-loop-decoded g l = record {
  cpu : l.cpu ≡ l.share.cpu;
  same : l.share.cpu ≡ l.fn.share.cpu;
  few : l.share.count ≤ l.quota;
  lent : l.turn ≡ Turn.Leased → IsNewFor l.cpu l.lease;
}

abbrev pub decreases-loop-decoded : goal.decreases-loop-decoded
decreases-loop-decoded g l = l.quota - l.share.count
