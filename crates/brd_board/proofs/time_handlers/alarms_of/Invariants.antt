-- What there is of the lines so far, with what the others come to, is what all of them come to.
use Rattle.std.proofs.Common.{◌≡◌, drop}
use Rattle.brd_mem.specs.Memory.{size_of}
use Rattle.brd_board.specs.Setup.{alarms_of}
use Rattle.brd_board.proofs.SetupLemmas.{behind}
use Rattle.brd_board.proofs.time_handlers.alarms_of.Given as goal

abbrev pub invariant-loop-alarm : goal.invariant-loop-alarm
invariant-loop-alarm l = behind l.lines (alarms_of (size_of l.ram) l.symbols (drop l.alarm-index l.alarms)) ≡ alarms_of (size_of l.ram) l.symbols l.alarms
