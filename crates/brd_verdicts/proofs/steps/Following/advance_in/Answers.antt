use Rattle.std.proofs.Common.{◌≡◌, ◌+◌, ◌-◌, ◌<◌, ◌≤◌, ℕ, List, length, take, sym, ap, subst, ◌∙◌, arith}
use Rattle.std.specs.Prelude.{Option, not, true, false, if◌then◌else◌}
use Rattle.std.proofs.lemmas.Bool.{cond_both, not-false, not-true}
use Rattle.brd_board.specs.Board.{happens}
use Rattle.brd_journal.specs.Playing.{IsPlayed}
use Rattle.brd_journal.specs.Still.{did_nothing, does_no_more}
use Rattle.brd_journal.proofs.PlayingLemmas.{first-board}
use Rattle.brd_happening.specs.Happening.{happening_of}
use Rattle.brd_verdicts.specs.Accounts.{accounts_of_run}
use Rattle.brd_verdicts.specs.Steps.{kept, AreLastSteps}
use Rattle.brd_verdicts.proofs.AccountsLemmas.{counted-on, happened}
use Rattle.brd_verdicts.proofs.StepsLemmas.{kept-last, kept-nine, none-last, one-last}
use Rattle.brd_verdicts.proofs.steps.Following.advance_in.Goals as goal

pub returns-clause-followed : goal.returns-clause-followed
returns-clause-followed c = λ boot events within comes are.
    let old = c.args.self.now in
    let b = old.playback.board in
    let at = old.playback.at in
    let rest = c.args.rest in
    let event = rest.event in
    let moved = c.advance-moved.ensures in
    let n = c.advance-moved.result.count in
    let next = c.advance-moved.new.self in
    let over : 1 < n → does_no_more event (happens b event).report ≡ true =
    λ more. ap (does_no_more event) (sym moved.report) ∙ moved.over (omega (arith, more, moved.goes.2)) in
    let leaves : next.board ≡ (happens b event).board = first-board b next.board event n moved.goes.0 over moved.board in
    let told : c.in_ok-told.told ≡ happening_of b event =
    happened b event c.in_ok-before.before c.advance-moved.result.report next.board c.in_ok-told.told c.in_ok-before.ensures
    moved.report leaves c.in_ok-told.ensures.is in
    let keep = c.keep_if.ensures in
    let did = not c.did_nothing.result in
    let here : at + n ≡ c.keep_if.new.self.playback.at = sym moved.goes.2 ∙ sym (ap (λ p. p.at) keep.same) in
    record {
      played = subst (IsPlayed boot events) (sym keep.same) (moved.played boot events within comes are.played);
      nine = ap length keep.kept
          ∙ cond_both did (kept event (next.at - 1) old.steps) old.steps (λ (them : List (Option ℕ)). length them ≡ 9)
          (λ _. kept-nine event (next.at - 1) old.steps ∙ are.nine) (λ _. are.nine);
      steps = subst (λ (them : List (Option ℕ)). AreLastSteps boot events c.keep_if.new.self.playback.at them)
          (sym keep.kept)
          (subst (λ (k : ℕ). AreLastSteps boot events k (if did then kept event (next.at - 1) old.steps else old.steps))
          (sym (ap (λ p. p.at) keep.same))
          (subst (λ (k : ℕ). AreLastSteps boot events k (if did then kept event (k - 1) old.steps else old.steps))
          (sym moved.goes.2)
          (cond_both did (kept event (at + n - 1) old.steps) old.steps (AreLastSteps boot events (at + n))
          (λ is. kept-last boot b events at rest are.played.board comes n old.steps moved.goes.0 moved.goes.1 are.nine
          (λ cpu step. one-last boot b events at rest are.played.board comes n cpu moved.goes.0
          (ap did_nothing (sym moved.report) ∙ sym c.did_nothing.ensures ∙ not-true c.did_nothing.result is) over step)
          are.steps)
          (λ is. none-last boot b events at rest are.played.board comes n old.steps moved.goes.1
          (ap did_nothing (sym moved.report) ∙ sym c.did_nothing.ensures ∙ not-false c.did_nothing.result is) are.steps))));
      accounts = keep.accounts
          ∙ counted-on boot b events at n rest are.played.board are.played.within comes moved.goes.1 moved.goes.0
          (omega (arith, moved.goes.2, moved.to, c.ranges.to.fits)) over c.in_ok-told.told old.accounts c.count.new.self c.count_again.new.self told are.accounts
          c.in_ok-count.ensures c.in_ok-count_again.ensures
          ∙ ap (λ (k : ℕ). accounts_of_run boot (take k events)) here;
    }
