use Rattle.std.proofs.Common.{subst}
use Rattle.brd_debug.specs.Debugger.{DebuggerState}
use Rattle.brd_stub.specs.Moving.{GoesOn}
use Rattle.brd_stub.specs.Moving.GoesForward.{on}
use Rattle.brd_stub.proofs.AnswerLemmas.{if-then, if-none}
use Rattle.brd_stub.proofs.moves.forward.Goals as goal

pub returns-in-None : goal.returns-in-None
returns-in-None g c =
    let passed = if-none _ c.in_ok-stop.field-0 c.in-None.is c.in_ok-stop.ensures.none in
    if-then _ _ (λ stop goes. on passed.0 (subst (λ (d : DebuggerState). GoesOn c.args.origin.points.now
    c.args.origin.last d
    (record { debugger = c.search_ahead.new.debugger; stop = stop })) passed.1 goes))
    c.search_ahead.result c.search_ahead.ensures
