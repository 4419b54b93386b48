use Rattle.std.proofs.Common.{◌≡◌, length, [], ◌∷◌, codes, arith}
use Rattle.std.specs.Prelude.{◌==◌, false}
use Rattle.std.proofs.lemmas.Bool.Decides.{nat_tests}
use Rattle.brd_timeline.specs.Events as events
use Rattle.brd_timeline.proofs.EventLemmas.{four_steps, locks_there}
use Rattle.brd_timeline.proofs.trace_events.put_locks.Goals as goal

pub returns : goal.returns
returns c =
    let timeline = c.args.timeline.now in
    let some : (length timeline.locks.items == 0) ≡ false = grind (arith, nat_tests, c.is_empty.ensures, c.if-is_empty.false) in
    four_steps c.put_spins.result c.args.to.now.items c.put_process.new.to.items c.put_lock_threads.new.to.items c.put_holds.new.to.items
    c.put_spins.new.to.items (events.behind (events.ProcessName events.locks (codes "spin locks") ∷ []))
    (events.behind (events.locks_of timeline)) (events.behind (events.holds_of timeline)) (events.behind (events.spins_of timeline))
    (events.behind (events.lock_events timeline))
    c.in_ok-put_process.ensures c.in_ok-put_lock_threads.ensures c.in_ok-put_holds.ensures c.put_spins.ensures (locks_there timeline some)
