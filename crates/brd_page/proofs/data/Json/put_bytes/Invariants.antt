-- What is there, with the bytes that are left as they stand in a string, is what there was, and all of them.
use Rattle.std.proofs.Common.{◌≡◌, ◌++◌, drop}
use Rattle.std.specs.List.{flat_map}
use Rattle.brd_page.specs.Data.{data_byte}
use Rattle.brd_page.proofs.data.Json.put_bytes.Given as goal

abbrev pub invariant-loop-byte : goal.invariant-loop-byte
invariant-loop-byte l =
    l.self ++ flat_map data_byte (drop l.byte-index l.text) ≡ l.fn.self ++ flat_map data_byte l.text
