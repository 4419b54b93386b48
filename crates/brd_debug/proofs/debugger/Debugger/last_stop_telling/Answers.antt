use Rattle.std.proofs.Common.{ℕ, subst}
use Rattle.std.specs.Prelude.{Option}
use Rattle.brd_debug.specs.Debugger.{DebuggerState}
use Rattle.brd_debug.specs.Stops.{IsStop, IsGreatest}
use Rattle.brd_debug.proofs.debugger.Debugger.last_stop_telling.Goals as goal

-- what was found is so of this debugger
abbrev IsGreatestOf : DebuggerState → Option ℕ → Type 0
IsGreatestOf d found = IsGreatest (IsStop d.stops d.boot d.events) 0 d.position found

pub returns-in_ok-show_at-clause-greatest : goal.returns-in_ok-show_at-clause-greatest
returns-in_ok-show_at-clause-greatest g c =
    subst (IsGreatestOf c.args.self.now) c.in-Some.is (subst (λ d. IsGreatestOf d c.in_ok-found.found) c.self.view_is c.in_ok-found.ensures.greatest)

pub returns-in_default-clause-greatest : goal.returns-in_default-clause-greatest
returns-in_default-clause-greatest g c = subst (λ d. IsGreatestOf d c.in_ok-found.found) c.self.view_is c.in_ok-found.ensures.greatest
