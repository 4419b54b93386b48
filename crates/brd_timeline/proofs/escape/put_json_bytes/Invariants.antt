-- What is there, with the bytes that are left as they stand in a string, is what there was, and all of them.
use Rattle.std.proofs.Common.{◌≡◌, ◌++◌, drop}
use Rattle.std.specs.List.{flat_map}
use Rattle.brd_timeline.specs.Escapes.{json_byte}
use Rattle.brd_timeline.proofs.escape.put_json_bytes.Given as goal

abbrev pub invariant-loop-byte : goal.invariant-loop-byte
invariant-loop-byte l =
    l.to.items ++ flat_map json_byte (drop l.byte-index l.text) ≡ l.fn.to.items ++ flat_map json_byte l.text
