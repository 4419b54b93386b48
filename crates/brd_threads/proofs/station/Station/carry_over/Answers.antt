use Rattle.std.proofs.Common.{refl, arith}
use Rattle.brd_threads.proofs.StationLemmas.{run_kept}
use Rattle.brd_threads.proofs.station.Station.carry_over.Goals as goal

pub carry_over-requires : goal.carry_over-requires
carry_over-requires g c = c.is_stale.ensures.0 (rw c.if-is_stale.false refl)

pub invariant_of-self-2 : goal.invariant_of-self-2
invariant_of-self-2 g c =
    let lease = c.args.lease.now in
    rw (c.in_ok-record.ensures.ok, c.add.ensures.books, ← c.requires.mine, c.len-len.ensures.is, c.cpu.ensures)
    (run_kept lease.cpu lease.len (omega (arith, c.add.ensures.within, c.requires.mine)) c.self.invariant c.carry_over.ensures)
