use Rattle.brd_elf.proofs.FileAgain.{by_three}
use Rattle.brd_elf.proofs.LoadableLemmas.{can_be_loaded}
use Rattle.brd_elf.proofs.reading.read.Goals as goal

pub returns-clause-loadable : goal.returns-clause-loadable
returns-clause-loadable c = can_be_loaded c.args.bytes.now _ (by_three c.args.bytes.now c.in_ok-header.header c.in_ok-segments.segments c.in_ok-symbols.symbols c.in_ok-header.ensures c.in_ok-segments.ensures c.in_ok-symbols.ensures)
