use Rattle.brd_places.proofs.ModelLemmas.{begins_more}
use Rattle.brd_places.proofs.places.Places.add.Goals as goal

pub invariant_of-self-2 : goal.invariant_of-self-2
invariant_of-self-2 c = (
  begins_more c.self.inside.start c.self.inside.entries.items c.put.new.entries.items _ c.in_ok-put.ensures.ok c.self.invariant.0,
  c.in_ok-put.ensures.alike,
  c.in_ok-put.ensures.kept,
)
