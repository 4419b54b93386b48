use Rattle.std.proofs.Common.{refl, replicate}
use Rattle.std.specs.Prelude.{None}
use Rattle.brd_spins.proofs.WatchLemmas.{none-left, watched-first}
use Rattle.brd_spins.proofs.watching.Watching.new.Goals as goal

pub returns-clause-watched : goal.returns-clause-watched
returns-clause-watched c = λ events.
    watched-first c.args.board events c.args.turnings.now (replicate 8 None) c.look.new.self _ c.look.ensures.same refl
    (λ place. none-left 8 place None refl) c.look.ensures.seen
