use Rattle.std.proofs.Common.{sym, ◌∙◌}
use Rattle.brd_blocks.proofs.StandLemmas.{all-well}
use Rattle.brd_blocks.proofs.standing.stands_well.Goals as goal

pub returns-clause-well : goal.returns-clause-well
returns-clause-well c well = all-well c.args.board.now c.args.cpu (sym c.stands_on.ensures ∙ well)
