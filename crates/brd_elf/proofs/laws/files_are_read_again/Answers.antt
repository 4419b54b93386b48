use Rattle.brd_elf.proofs.FileAgain.{read_again}
use Rattle.brd_elf.proofs.laws.files_are_read_again.Goals as goal

pub returns : goal.returns
returns c = read_again
