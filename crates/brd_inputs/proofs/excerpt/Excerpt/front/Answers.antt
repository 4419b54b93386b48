use Rattle.brd_inputs.proofs.ExcerptLemmas.{so_far-printable}
use Rattle.brd_inputs.proofs.excerpt.Excerpt.front.Goals as goal

pub invariant_of-result : goal.invariant_of-result
invariant_of-result c = so_far-printable _ _ _ c.loop-byte.invariant
