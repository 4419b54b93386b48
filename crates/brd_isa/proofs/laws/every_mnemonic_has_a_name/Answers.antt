use Rattle.brd_isa.proofs.NameLemmas.{name_of}
use Rattle.brd_isa.proofs.laws.every_mnemonic_has_a_name.Goals as goal

pub returns : goal.returns
returns c = name_of
