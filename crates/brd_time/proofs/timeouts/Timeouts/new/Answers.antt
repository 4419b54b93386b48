use Rattle.std.proofs.Common.{rules, ◌≡◌, replicate}
use Rattle.brd_time.specs.Kept.{never}
use Rattle.brd_time.proofs.TimeLemmas.{begins}
use Rattle.brd_time.proofs.timeouts.Timeouts.new.Goals as goal

pub returns : goal.returns
returns c =
    let are : c.in_ok-dues.dues.items ≡ replicate 256 never = search rules in
    begins c.in_ok-dues.dues.items are
