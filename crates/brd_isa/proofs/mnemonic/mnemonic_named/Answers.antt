use Rattle.std.proofs.Common.{◌∙◌}
use Rattle.brd_isa.specs.Names.{lowered}
use Rattle.brd_isa.proofs.NameRows.{named_in-all_names}
use Rattle.brd_isa.proofs.mnemonic.mnemonic_named.Goals as goal

pub returns : goal.returns
returns c = c.find.ensures ∙ named_in-all_names (lowered c.args.name.now)
