use Rattle.brd_lent.proofs.KnownLemmas.{nops-right}
use Rattle.brd_lent.proofs.decoded.Decoded.new.Goals as goal

pub invariant_of-result : goal.invariant_of-result
invariant_of-result c = record { right = nops-right }
