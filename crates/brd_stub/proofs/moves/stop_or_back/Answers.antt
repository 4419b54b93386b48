use Rattle.std.proofs.Common.{◌≡◌, sym, subst, ◌∙◌}
use Rattle.std.specs.Prelude.{Some}
use Rattle.std.proofs.lemmas.Bool.{false≢true}
use Rattle.brd_debug.specs.Debugger.{DebuggerState, SeesAhead}
use Rattle.brd_stub.specs.Moving.{EndsBehind, stand_behind}
use Rattle.brd_stub.proofs.AnswerLemmas.{if-then}
use Rattle.brd_stub.proofs.moves.stop_or_back.Goals as goal

pub returns-then-passes : goal.returns-then-passes
returns-then-passes g c =
    if-then _ _ (λ stop does. record {
      look = Some c.in-Some.look;
      sees = subst (SeesAhead c.args.debugger.now) c.in-Some.is c.in_ok-look.ensures.sees;
      stands = λ none. absurd (false≢true (sym none ∙ sym c.passes.ensures ∙ c.if-passes.true));
      further = λ so. subst (λ (d : DebuggerState). EndsBehind c.args.origin.points.now c.args.origin.last d
          (record { debugger = c.search_behind.new.debugger; stop = stop })) (c.keep.ensures ∙ c.in_ok-look.ensures.stays) does;
    }) c.search_behind.result c.search_behind.ensures

pub returns-else-passes : goal.returns-else-passes
returns-else-passes g c =
    if-then _ _ (λ stop does. record {
      look = Some c.in-Some.look;
      sees = subst (SeesAhead c.args.debugger.now) c.in-Some.is c.in_ok-look.ensures.sees;
      stands = λ none. subst (λ (d : DebuggerState). record { debugger = c.stand_behind.new.debugger; stop = stop }
          ≡ stand_behind c.args.origin.points.now c.args.origin.last c.args.is_told (Some c.in-Some.look) d)
          c.in_ok-look.ensures.stays does;
      further = λ so. absurd (false≢true (sym c.if-passes.false ∙ c.passes.ensures ∙ so));
    }) c.stand_behind.result c.stand_behind.ensures
