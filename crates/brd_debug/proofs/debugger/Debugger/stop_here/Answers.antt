use Rattle.std.proofs.Common.{ap, ◌∙◌}
use Rattle.brd_debug.specs.Debugger.{DebuggerState, shown}
use Rattle.brd_debug.proofs.PlayingLemmas.{seen-here}
use Rattle.brd_debug.proofs.debugger.Debugger.stop_here.Goals as goal

pub returns-then-meet-clause-stop : goal.returns-then-meet-clause-stop
returns-then-meet-clause-stop c =
    seen-here c.args.self.now c.self.inside.stops c.self.inside.shown.board c.in_ok-look.field-0 c.in-Some.look c.meet.result c.in-Some.is
    c.in_ok-look.ensures.sees (ap (λ (d : DebuggerState). d.stops) (c.self.view_is ∙ c.in_ok-look.ensures.stays)) (c.self.invariant.0.board
    ∙ ap shown (c.self.view_is ∙ c.in_ok-look.ensures.stays)) c.if-meet.true
    c.meet.ensures
