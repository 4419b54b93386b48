use Rattle.brd_mem.proofs.WindowLemmas.{whole-window}
use Rattle.brd_mem.proofs.laws.ram_has_whole_windows.Goals as goal

pub returns : goal.returns
returns c = whole-window
