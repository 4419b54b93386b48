use Rattle.std.proofs.Common.{◌≡◌, length, [], ◌∷◌, codes, arith}
use Rattle.std.specs.Prelude.{◌==◌, false}
use Rattle.std.proofs.lemmas.Bool.Decides.{nat_tests}
use Rattle.brd_timeline.specs.Events as events
use Rattle.brd_timeline.proofs.EventLemmas.{three_steps, mutexes_there}
use Rattle.brd_timeline.proofs.trace_events.put_mutexes.Goals as goal

pub returns : goal.returns
returns c =
    let timeline = c.args.timeline.now in
    let some : (length timeline.mutexes.items == 0) ≡ false = grind (arith, nat_tests, c.is_empty.ensures, c.if-is_empty.false) in
    three_steps c.put_owned.result c.args.to.now.items c.put_process.new.to.items c.put_mutex_threads.new.to.items
    c.put_owned.new.to.items (events.behind (events.ProcessName events.mutexes (codes "mutexes") ∷ []))
    (events.behind (events.mutexes_of timeline)) (events.behind (events.owned_of timeline))
    (events.behind (events.mutex_events timeline))
    c.in_ok-put_process.ensures c.in_ok-put_mutex_threads.ensures c.put_owned.ensures (mutexes_there timeline some)
