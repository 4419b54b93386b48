-- What is there, with the bytes that are left as they are shown, is what there was, and all of them.
use Rattle.std.proofs.Common.{◌≡◌, ◌++◌, drop}
use Rattle.std.specs.List.{flat_map}
use Rattle.brd_cover.specs.Names.{path_byte}
use Rattle.brd_cover.proofs.text.put_path.Given as goal

abbrev pub invariant-loop-byte : goal.invariant-loop-byte
invariant-loop-byte l =
    l.to.items ++ flat_map path_byte (drop l.byte-index l.path) ≡ l.fn.to.items ++ flat_map path_byte l.path
