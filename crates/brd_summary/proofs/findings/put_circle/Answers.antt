use Rattle.std.proofs.Common.{◌≡◌, [], ◌++◌, List, refl, sym, ap, ◌∙◌, subst}
use Rattle.std.specs.Prelude.{Bool}
use Rattle.std.specs.Bool.{MatchBool}
use Rattle.std.proofs.lemmas.List.{append-nil}
use Rattle.brd_verdicts.specs.declared.circle.Wait.{Wait}
use Rattle.brd_verdicts.specs.declared.units.Unit.{Unit}
use Rattle.brd_verdicts.specs.Circle.{IsCircularWait}
use Rattle.brd_verdicts.specs.Units.{lock_units}
use Rattle.brd_summary.specs.Findings.{circle_text}
use Rattle.brd_summary.proofs.findings.put_circle.Goals as goal

pub returns-then-is_off : goal.returns-then-is_off
returns-then-is_off c =
    let units = c.args.units.now in
    let board = c.args.board.now in
    record {
      text = [];
      is_it = subst (λ (off : Bool). MatchBool off ([] ≡ [])
          ((found : List Wait) × IsCircularWait units board found × ([] ≡ circle_text (lock_units units board) found)))
          (sym c.if-is_off.true ∙ c.is_off.ensures) refl;
      behind = sym (append-nil c.args.out.now.items);
    }

pub returns : goal.returns
returns c =
    let units = c.args.units.now in
    let board = c.args.board.now in
    let found = c.in_ok-found.found in
    let text = circle_text (lock_units units board) found in
    record {
      text = text;
      is_it = subst (λ (off : Bool). MatchBool off (text ≡ [])
          ((found : List Wait) × IsCircularWait units board found
          × (text ≡ circle_text (lock_units units board) found)))
          (sym c.if-is_off.false ∙ c.is_off.ensures) (found, c.in_ok-found.ensures, refl);
      behind = c.in_ok-put_waits.ensures
          ∙ ap (λ (us : List Unit). c.args.out.now.items ++ circle_text us c.as_slice-2.result.now)
          (c.as_slice.ensures ∙ c.in_ok-taken.ensures)
          ∙ ap (λ (ws : List Wait). c.args.out.now.items ++ circle_text (lock_units units board) ws)
          c.as_slice-2.ensures;
    }
