use Rattle.std.proofs.Common.{◌≡◌, ◌+◌, ◌-◌, ◌<◌, ◌≤◌, ℕ, List, length, take, sym, ap, subst, ◌∙◌, arith}
use Rattle.std.specs.Prelude.{Option, true, false}
use Rattle.brd_journal.specs.Playing.{IsPlayed}
use Rattle.brd_journal.specs.Runs.{ComesBehind}
use Rattle.brd_verdicts.specs.Accounts.{accounts_of_run}
use Rattle.brd_verdicts.specs.Steps.{kept, AreLastSteps}
use Rattle.brd_verdicts.proofs.AccountsLemmas.{ran-on}
use Rattle.brd_verdicts.proofs.StepsLemmas.{kept-last, kept-nine, ran-last}
use Rattle.brd_verdicts.proofs.steps.Following.advance.Goals as goal

pub returns-then-go_on-gt0-clause-followed : goal.returns-then-go_on-gt0-clause-followed
returns-then-go_on-gt0-clause-followed c = λ boot events within comes are.
    let old = c.args.self.now in
    let b = old.playback.board in
    let at = old.playback.at in
    let rest = c.args.rest in
    let event = rest.event in
    let n = c.go_on.result in
    let some : 1 ≤ n = omega (arith, c.if-go_on-gt0.true) in
    let went = c.go_on.ensures in
    let here : at + n ≡ c.keep.new.self.playback.at = sym went.at ∙ sym (ap (λ p. p.at) c.keep.ensures.same) in
    record {
      played = subst (IsPlayed boot events) (sym c.keep.ensures.same) (went.played boot events within comes are.played);
      nine = ap length c.keep.ensures.kept ∙ kept-nine event (c.go_on.new.self.at - 1) old.steps ∙ are.nine;
      steps = subst (λ (them : List (Option ℕ)). AreLastSteps boot events c.keep.new.self.playback.at them)
          (sym c.keep.ensures.kept)
          (subst (λ (n : ℕ). AreLastSteps boot events n (kept event (c.go_on.new.self.at - 1) old.steps))
          (sym (ap (λ p. p.at) c.keep.ensures.same))
          (subst (λ (k : ℕ). AreLastSteps boot events k (kept event (k - 1) old.steps)) (sym went.at)
          (kept-last boot b events at rest are.played.board comes n old.steps some went.few are.nine
          (λ cpu is. ran-last boot b events at rest are.played.board comes n cpu some went.few went.ran is) are.steps)));
      accounts = c.keep.ensures.accounts ∙ are.accounts
          ∙ sym (ran-on boot b events at n rest are.played.board are.played.within comes went.few went.ran)
          ∙ ap (λ (k : ℕ). accounts_of_run boot (take k events)) here;
    }

-- where it didn't go on by any
pub returns-clause-followed : goal.returns-clause-followed
returns-clause-followed c = λ boot events within comes are.
    let old = c.args.self.now in
    let mid = c.go_on.new.self in
    let same : old.playback.at ≡ mid.at = omega (arith, c.go_on.ensures.at, c.if-go_on-gt0.false) in
    c.advance_in.ensures.followed boot events within
    (subst (λ (k : ℕ). ComesBehind events k c.args.rest) same comes)
    (record {
      played = c.go_on.ensures.played boot events within comes are.played;
      nine = are.nine;
      steps = subst (λ (k : ℕ). AreLastSteps boot events k old.steps) same are.steps;
      accounts = are.accounts ∙ ap (λ (k : ℕ). accounts_of_run boot (take k events)) same;
    })
