use Rattle.std.proofs.Common.{◌∙◌, ap}
use Rattle.std.specs.Prelude.{Option, None, List, ℕ}
use Rattle.brd_time.specs.Time.{Time, with_due}
use Rattle.brd_time.proofs.TimeLemmas.{disarmed}
use Rattle.brd_time.proofs.timeouts.Timeouts.disarm.Goals as goal

pub returns : goal.returns
returns c =
    ap (λ (dues : List (Option ℕ)). record { count = c.self.inside.count; dues = dues }) (disarmed c.self.inside.dues.items c.args.task)
    ∙ ap (λ (t : Time). with_due t c.args.task None) c.self.view_is
