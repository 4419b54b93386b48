-- What there is of the lines so far, with what the others come to, is what all of them come to.
use Rattle.std.proofs.Common.{◌≡◌, drop}
use Rattle.brd_mem.specs.Memory.{size_of}
use Rattle.brd_board.specs.Setup.{cyclics_of}
use Rattle.brd_board.proofs.SetupLemmas.{behind}
use Rattle.brd_board.proofs.time_handlers.cyclics_of.Given as goal

abbrev pub invariant-loop-cyclic : goal.invariant-loop-cyclic
invariant-loop-cyclic l = behind l.lines (cyclics_of (size_of l.ram) l.symbols (drop l.cyclic-index l.cyclics)) ≡ cyclics_of (size_of l.ram) l.symbols l.cyclics
