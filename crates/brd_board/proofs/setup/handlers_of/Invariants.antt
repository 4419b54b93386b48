-- What there is of the lines so far, with what the other handlers come to, is what all of them come to.
use Rattle.std.proofs.Common.{◌≡◌, drop}
use Rattle.brd_mem.specs.Memory.{size_of}
use Rattle.brd_board.specs.Setup.{handlers_of}
use Rattle.brd_board.proofs.SetupLemmas.{behind}
use Rattle.brd_board.proofs.setup.handlers_of.Given as goal

abbrev pub invariant-loop-handler : goal.invariant-loop-handler
invariant-loop-handler l = behind l.lines (handlers_of (size_of l.ram) l.symbols (drop l.handler-index l.handlers)) ≡ handlers_of (size_of l.ram) l.symbols l.handlers
