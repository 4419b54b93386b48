use Rattle.std.proofs.Common.{◌≡◌, subst}
use Rattle.std.specs.Prelude.{Some, false}
use Rattle.brd_debug.specs.Debugger.{DebuggerState, SeesAhead}
use Rattle.brd_stub.specs.Moving.{stand_behind}
use Rattle.brd_stub.proofs.AnswerLemmas.{if-then}
use Rattle.brd_stub.proofs.moves.stop_behind.Goals as goal

pub returns-in-Some : goal.returns-in-Some
returns-in-Some c =
    if-then _ _ (λ stop does. record {
      look = Some c.in-Some.look;
      sees = subst (SeesAhead c.args.debugger.now) c.in-Some.is c.in_ok-look.ensures.sees;
      stands = subst (λ (d : DebuggerState). record { debugger = c.stand_behind.new.debugger; stop = stop }
          ≡ stand_behind c.args.origin.points.now c.args.origin.last false (Some c.in-Some.look) d)
          c.in_ok-look.ensures.stays does;
    }) c.stand_behind.result c.stand_behind.ensures
