use Rattle.brd_isa.proofs.TableTheorem.{one_instruction}
use Rattle.brd_isa.proofs.laws.stands_for_one_instruction.Goals as goal

pub returns : goal.returns
returns c = one_instruction
