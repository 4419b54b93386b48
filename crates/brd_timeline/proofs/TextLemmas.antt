-- Texts that go on others.
use Rattle.std.proofs.Common.{◌≡◌, List, ◌++◌, ℕ, length, drop, arith}
use Rattle.std.proofs.lemmas.Grind.{common_steps}
use Rattle.brd_timeline.specs.Bars.{GoesOn, Holds}

pub goes_on_itself : (old : List ℕ) → GoesOn old old
goes_on_itself old = grind (arith, common_steps)

pub goes_on_put : (old mid new more : List ℕ) → GoesOn old mid → new ≡ mid ++ more → GoesOn old new
goes_on_put old mid new more front is = grind (arith, common_steps)

pub goes_on_by : (old mid new : List ℕ) → GoesOn old mid → GoesOn mid new → GoesOn old new
goes_on_by old mid new front back = grind (arith, common_steps)

pub holds : (old mid new part : List ℕ) → mid ≡ old ++ part → GoesOn mid new → Holds part new
holds old mid new part is on = (old, drop (length mid) new, grind (arith, common_steps))
