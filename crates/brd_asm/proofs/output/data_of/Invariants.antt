use Rattle.std.proofs.Common.{◌≡◌, drop}
use Rattle.brd_asm.specs.Meaning.{data_of}
use Rattle.brd_asm.specs.Output.{behind}
use Rattle.brd_asm.proofs.output.data_of.Given as goal

-- the bytes so far and those of what is left are those of all
abbrev pub invariant-loop-value : goal.invariant-loop-value
invariant-loop-value l = behind l.data (data_of l.order l.line l.width (drop l.value-index l.values)) ≡ data_of l.order l.line l.width l.values
