use Rattle.brd_lazy.proofs.ScheduleLemmas.{fails-lazily}
use Rattle.brd_lazy.proofs.laws.what_fails_fails_lazily.Goals as goal

pub returns : goal.returns
returns c = fails-lazily
