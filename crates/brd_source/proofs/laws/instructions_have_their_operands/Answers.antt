use Rattle.brd_source.proofs.Taken.{have_operands}
use Rattle.brd_source.proofs.LineForm.{said_line}
use Rattle.brd_source.specs.Tokens.{tokens_of}
use Rattle.brd_source.proofs.laws.instructions_have_their_operands.Goals as goal

pub returns : goal.returns
returns c = λ bytes line i read says. have_operands (tokens_of bytes) line i (said_line bytes line read) says
