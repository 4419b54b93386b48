-- Nothing is found yet, and none of the parts that are done fails.
use Rattle.std.proofs.Common.{◌≡◌, All}
use Rattle.std.specs.Prelude.{None}
use Rattle.brd_crew.specs.Parts.{NoneInPart}
use Rattle.brd_explore.specs.Schedules.{start}
use Rattle.brd_crew.proofs.crew.search_parts.Given as goal

abbrev pub invariant-loop : goal.invariant-loop
invariant-loop g l = (l.share.schedule ≡ None)
    × All (NoneInPart l.wanted l.shard l.parts l.among (start l.board l.bounds)) l.share.done
