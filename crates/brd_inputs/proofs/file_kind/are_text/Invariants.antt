-- What was passed are bytes of a text.
use Rattle.std.proofs.Common.{◌≡◌, drop}
use Rattle.brd_inputs.specs.FileKinds.{are_text}
use Rattle.brd_inputs.proofs.file_kind.are_text.Given as goal

abbrev pub invariant-loop-byte : goal.invariant-loop-byte
invariant-loop-byte l = are_text (drop l.byte-index l.bytes) ≡ are_text l.bytes
