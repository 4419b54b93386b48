use Rattle.std.proofs.Common.{◌∙◌, ap}
use Rattle.std.specs.Prelude.{Option, Some, List, ℕ}
use Rattle.brd_time.specs.Time.{Time, with_due}
use Rattle.brd_time.proofs.TimeLemmas.{armed}
use Rattle.brd_time.proofs.timeouts.Timeouts.arm.Goals as goal

pub returns : goal.returns
returns c =
    ap (λ (dues : List (Option ℕ)). record { count = c.self.inside.count; dues = dues }) (armed c.self.inside.dues.items c.args.task c.args.due c.requires.due)
    ∙ ap (λ (t : Time). with_due t c.args.task (Some c.args.due)) c.self.view_is
