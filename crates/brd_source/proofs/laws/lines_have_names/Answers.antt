use Rattle.brd_source.proofs.LineForm.{said_line}
use Rattle.brd_source.proofs.Names.{names}
use Rattle.brd_source.specs.Tokens.{tokens_of}
use Rattle.brd_source.proofs.laws.lines_have_names.Goals as goal

pub returns : goal.returns
returns c = λ bytes line read. names (tokens_of bytes) line (said_line bytes line read)
