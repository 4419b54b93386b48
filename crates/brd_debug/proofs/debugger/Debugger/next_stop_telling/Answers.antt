use Rattle.std.proofs.Common.{ℕ, ◌+◌, length, subst}
use Rattle.std.specs.Prelude.{Option}
use Rattle.brd_journal.specs.declared.playback.Playback.{Playback}
use Rattle.brd_debug.specs.Debugger.{DebuggerState}
use Rattle.brd_debug.specs.Stops.{IsStop, IsLeast}
use Rattle.brd_debug.proofs.debugger.Debugger.next_stop_telling.Goals as goal

-- what was found is so of this debugger
abbrev IsLeastOf : DebuggerState → Option ℕ → Type 0
IsLeastOf d found = IsLeast (IsStop d.stops d.boot d.events) (d.position + 1) (length d.events) found

pub returns-in_ok-show_at-clause-least : goal.returns-in_ok-show_at-clause-least
returns-in_ok-show_at-clause-least g c =
    subst (IsLeastOf c.args.self.now) c.in-Some.is (subst (λ (d : DebuggerState). IsLeastOf d c.in_ok-found.found) c.self.view_is
    (subst (λ (p : Playback). IsLeast (IsStop c.self.inside.stops c.self.inside.boot c.self.inside.journal.events) (p.at + 1)
    (length c.self.inside.journal.events) c.in_ok-found.found)
    c.in_ok-playback.ensures.here c.in_ok-found.ensures.least))

pub returns-in_default-clause-least : goal.returns-in_default-clause-least
returns-in_default-clause-least g c =
    subst (λ (d : DebuggerState). IsLeastOf d c.in_ok-found.found) c.self.view_is
    (subst (λ (p : Playback). IsLeast (IsStop c.self.inside.stops c.self.inside.boot c.self.inside.journal.events) (p.at + 1)
    (length c.self.inside.journal.events) c.in_ok-found.found)
    c.in_ok-playback.ensures.here c.in_ok-found.ensures.least)
