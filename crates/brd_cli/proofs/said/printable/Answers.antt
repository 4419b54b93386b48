use Rattle.brd_cli.proofs.SaidLemmas.{so_far-printable}
use Rattle.brd_cli.proofs.said.printable.Goals as goal

pub returns : goal.returns
returns c = so_far-printable _ _ _ c.loop-byte.invariant
