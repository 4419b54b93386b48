use Rattle.brd_elf.proofs.WriteLemmas.{written_again}
use Rattle.brd_elf.proofs.writing.write.Goals as goal

pub returns-clause-again : goal.returns-clause-again
returns-clause-again c = written_again c.args.image.now c.file_of.result c.requires c.file_of.ensures.is c.file_of.ensures.words
