use Rattle.std.specs.Prelude.{vec_len}
use Rattle.brd_threads.proofs.ended.+started.Given as goal

abbrev pub decreases-started : goal.decreases-started
decreases-started g l = vec_len l.shares
