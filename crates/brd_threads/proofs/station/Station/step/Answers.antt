use Rattle.std.proofs.Common.{ap, arith}
use Rattle.brd_threads.proofs.StationLemmas.{run_kept}
use Rattle.brd_threads.proofs.StepLemmas.{steps_few}
use Rattle.brd_threads.proofs.station.Station.step.Goals as goal

pub add-requires : goal.add-requires
add-requires g c =
    let cpu = c.args.share.now.cpu in
    record { room = omega (arith, steps_few cpu c.self.inside.journal.events, c.self.invariant.counted cpu, c.len.ensures.len, c.len.ensures.bound) }

pub invariant_of-self-2 : goal.invariant_of-self-2
invariant_of-self-2 g c =
    rw (c.in_ok-record.ensures.ok, c.add.ensures.books, ← c.requires.mine)
    (run_kept c.args.cpu 1 (omega (arith, c.add.ensures.within, c.requires.mine)) c.self.invariant (ap (λ h. h.board) c.event_apart-report.ensures))
