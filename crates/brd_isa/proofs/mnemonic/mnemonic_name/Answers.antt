use Rattle.brd_isa.proofs.NameWriting.{exactly, is_found}
use Rattle.brd_isa.proofs.mnemonic.mnemonic_name.Goals as goal

pub unreachable-requires : goal.unreachable-requires
unreachable-requires c = is_found c.args.mnemonic c.in-None.ensures

pub returns : goal.returns
returns c = exactly c.args.mnemonic c.in-Some.name.now c.in-Some.ensures
