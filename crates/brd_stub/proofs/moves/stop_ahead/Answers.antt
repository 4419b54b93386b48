use Rattle.std.proofs.Common.{◌≡◌, subst}
use Rattle.std.specs.Prelude.{Some}
use Rattle.brd_debug.specs.Debugger.{DebuggerState, SeesAhead}
use Rattle.brd_stub.specs.declared.halt.Told.TheVariants as told
use Rattle.brd_stub.specs.Moving.{stand}
use Rattle.brd_stub.proofs.AnswerLemmas.{if-then}
use Rattle.brd_stub.proofs.moves.stop_ahead.Goals as goal

pub returns-in-Some : goal.returns-in-Some
returns-in-Some c =
    if-then _ _ (λ stop does. record {
      look = Some c.in-Some.look;
      sees = subst (SeesAhead c.args.debugger.now) c.in-Some.is c.in_ok-look.ensures.sees;
      stands = subst (λ (d : DebuggerState). record { debugger = c.stand.new.debugger; stop = stop }
          ≡ stand c.args.origin.points.now c.args.origin.last told.Nothing (Some c.in-Some.look) d)
          c.in_ok-look.ensures.stays does;
    }) c.stand.result c.stand.ensures
