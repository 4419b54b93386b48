use Rattle.brd_objects.proofs.LawLemmas.{kept-all, none-released, one-released, pattern-stays, released-all}
use Rattle.brd_objects.proofs.laws.who_is_released.Goals as goal

pub returns-clause-released : goal.returns-clause-released
returns-clause-released c pattern waiters = released-all pattern waiters

pub returns-clause-kept : goal.returns-clause-kept
returns-clause-kept c pattern waiters = kept-all pattern waiters

pub returns-clause-stays : goal.returns-clause-stays
returns-clause-stays c pattern waiters = pattern-stays pattern waiters

pub returns-clause-first : goal.returns-clause-first
returns-clause-first c pattern waiters e is = one-released pattern waiters e is

pub returns-clause-nobody : goal.returns-clause-nobody
returns-clause-nobody c clears pattern waiters is = none-released clears pattern waiters is
