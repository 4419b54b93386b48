use Rattle.std.proofs.Common.{◌≡◌, [], drop, false}
use Rattle.brd_source.specs.Texts.{text_behind}
use Rattle.brd_source.proofs.text.text_of.Given as goal

abbrev pub invariant-loop-byte : goal.invariant-loop-byte
invariant-loop-byte l = text_behind l.text l.is_escaped (drop l.byte-index l.bytes) ≡ text_behind [] false l.bytes
