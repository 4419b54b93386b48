-- The name has what the bytes so far make of it.
use Rattle.std.proofs.Common.{◌≡◌, [], take}
use Rattle.std.specs.List.{fold}
use Rattle.brd_lines.specs.Lines.{name_more}
use Rattle.brd_lines.proofs.lines.Place.put_name.Given as goal

abbrev pub invariant-loop-byte : goal.invariant-loop-byte
invariant-loop-byte l = record {
  name : l.name.items ≡ fold name_more [] (take l.byte-index l.byte-items);
  out : l.out ≡ l.fn.out;
}
