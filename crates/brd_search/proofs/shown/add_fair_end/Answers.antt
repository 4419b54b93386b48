use Rattle.std.proofs.Common.{sym}
use Rattle.std.proofs.lemmas.List.{append-nil}
use Rattle.brd_search.proofs.PlanLemmas.{round_more, times_none}
use Rattle.brd_search.proofs.shown.add_fair_end.Goals as goal

pub loop-init : goal.loop-init
loop-init c = rw (times_none c.args.wanted.now.round) (sym (append-nil c.args.events.now.items))

pub loop-preserved : goal.loop-preserved
loop-preserved c =
    round_more c.args.events.now.items c.loop.events.items c.extend_from_slice.new.self.items c.as_slice.result.now c.args.wanted.now.round
    c.loop.counter c.loop.invariant c.in_ok-extend_from_slice.ensures.items c.as_slice.ensures
