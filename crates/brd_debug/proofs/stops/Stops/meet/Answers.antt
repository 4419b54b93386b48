use Rattle.std.proofs.Common.{sym, subst}
use Rattle.std.specs.Prelude.{Decides}
use Rattle.std.proofs.lemmas.Bool.{false≢true}
use Rattle.brd_debug.specs.Stops.{Meets}
use Rattle.brd_debug.specs.Touching.{touches}
use Rattle.brd_debug.proofs.stops.Stops.meet.Goals as goal

pub returns : goal.returns
returns c =
    subst (λ by. Decides c.are_met.result
    (Meets c.args.self.now c.args.look.now.event c.args.look.now.report c.args.before.now.memory
    (touches c.args.self.now.reads c.args.self.now.accesses c.args.before.now c.args.look.now.event) by c.args.look.now.board))
    c.ahead-ahead.ensures.by
    (subst (λ touched. Decides c.are_met.result
    (Meets c.args.self.now c.args.look.now.event c.args.look.now.report c.args.before.now.memory touched c.ahead-ahead.result.by c.args.look.now.board))
    c.ahead-ahead.ensures.touches
    (c.are_met.ensures.stops c.args.before.now.memory c.watched-bytes.ensures (λ none. absurd (false≢true (sym none)))))
