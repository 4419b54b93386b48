use Rattle.std.proofs.Common.{ℕ, subst}
use Rattle.std.specs.Prelude.{Option}
use Rattle.brd_journal.specs.declared.playback.Playback.{Playback}
use Rattle.brd_debug.specs.Debugger.{DebuggerState}
use Rattle.brd_debug.specs.Stops.{IsStop, IsLeast}
use Rattle.brd_debug.proofs.debugger.Debugger.seek.Goals as goal

-- what was found is so of this debugger
abbrev IsLeastOf : ℕ → DebuggerState → Option ℕ → Type 0
IsLeastOf end d found = IsLeast (IsStop d.stops d.boot d.events) d.position end found

pub returns-in_ok-show_at-in-Some-clause-least : goal.returns-in_ok-show_at-in-Some-clause-least
returns-in_ok-show_at-in-Some-clause-least c =
    subst (IsLeastOf c.args.end c.args.self.now) c.in-Some.is
    (subst (λ (d : DebuggerState). IsLeastOf c.args.end d c.in_ok-found.found) c.self.view_is
    (subst (λ (p : Playback). IsLeast (IsStop c.self.inside.stops c.self.inside.boot c.self.inside.journal.events) p.at c.args.end c.in_ok-found.found)
    c.in_ok-playback.ensures.here c.in_ok-found.ensures.least))

pub returns-in-None-clause-least : goal.returns-in-None-clause-least
returns-in-None-clause-least c =
    subst (λ (d : DebuggerState). IsLeastOf c.args.end d c.in_ok-found.found) c.self.view_is
    (subst (λ (p : Playback). IsLeast (IsStop c.self.inside.stops c.self.inside.boot c.self.inside.journal.events) p.at c.args.end c.in_ok-found.found)
    c.in_ok-playback.ensures.here c.in_ok-found.ensures.least)
