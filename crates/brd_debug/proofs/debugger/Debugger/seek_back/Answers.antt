use Rattle.std.proofs.Common.{ℕ, subst}
use Rattle.std.specs.Prelude.{Option}
use Rattle.brd_debug.specs.Debugger.{DebuggerState}
use Rattle.brd_debug.specs.Stops.{IsStop, IsGreatest}
use Rattle.brd_debug.proofs.debugger.Debugger.seek_back.Goals as goal

-- what was found is so of this debugger
abbrev IsGreatestOf : ℕ → DebuggerState → Option ℕ → Type 0
IsGreatestOf begin d found = IsGreatest (IsStop d.stops d.boot d.events) begin d.position found

pub returns-in_ok-show_at-in-Some-clause-greatest : goal.returns-in_ok-show_at-in-Some-clause-greatest
returns-in_ok-show_at-in-Some-clause-greatest c =
    subst (IsGreatestOf c.args.begin c.args.self.now) c.in-Some.is
    (subst (λ (d : DebuggerState). IsGreatestOf c.args.begin d c.in_ok-found.found) c.self.view_is c.in_ok-found.ensures.greatest)

pub returns-in_ok-show_at-in-None-clause-greatest : goal.returns-in_ok-show_at-in-None-clause-greatest
returns-in_ok-show_at-in-None-clause-greatest c =
    subst (λ (d : DebuggerState). IsGreatestOf c.args.begin d c.in_ok-found.found) c.self.view_is c.in_ok-found.ensures.greatest
