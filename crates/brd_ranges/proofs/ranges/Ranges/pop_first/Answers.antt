use Rattle.brd_ranges.proofs.EntryLemmas.{entries_less}
use Rattle.brd_ranges.proofs.ranges.Ranges.pop_first.Goals as goal

pub invariant_of-self-2 : goal.invariant_of-self-2
invariant_of-self-2 g c =
    entries_less c.self.inside.size _ c.pop_first.new.self.entries (rw c.in_ok-start.ensures.removal at c.self.invariant)
