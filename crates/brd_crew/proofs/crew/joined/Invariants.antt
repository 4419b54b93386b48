-- What is left of the threads' searches is as all of them are, and none of the parts so far fails.
use Rattle.std.proofs.Common.{All, IfOk, option_map}
use Rattle.brd_crew.specs.Parts.{HasSearched, NoneInPart}
use Rattle.brd_explore.specs.Schedules.{start}
use Rattle.brd_crew.proofs.crew.joined.Given as goal

abbrev pub invariant-loop-share : goal.invariant-loop-share
invariant-loop-share l =
    All (λ share. IfOk share (λ share. HasSearched l.wanted l.fn.shard l.parts l.among (start l.board l.fn.bounds)
    (option_map (λ events. events.items) share.schedule) share.done)) l.share-iterator.rest.items
    × All (NoneInPart l.wanted l.fn.shard l.parts l.among (start l.board l.fn.bounds)) l.done
