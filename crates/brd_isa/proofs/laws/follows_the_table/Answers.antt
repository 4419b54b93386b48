use Rattle.brd_isa.proofs.TableTheorem.{follows_the_table}
use Rattle.brd_isa.proofs.laws.follows_the_table.Goals as goal

pub returns : goal.returns
returns c = follows_the_table
