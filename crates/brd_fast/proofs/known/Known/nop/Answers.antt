use Rattle.brd_fast.proofs.KnownLemmas.{zero-reads_nop}
use Rattle.brd_fast.proofs.known.Known.nop.Goals as goal

pub returns : goal.returns
returns c = λ order. ∣ zero-reads_nop order ∣₁
