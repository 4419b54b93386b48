-- The bytes so far, and after them the string that is left, make the string.
use Rattle.std.proofs.Common.{◌≡◌, ◌++◌, take, drop}
use Rattle.std.specs.Prelude.{option_map}
use Rattle.brd_elf.specs.Symbols.{string_of}
use Rattle.brd_elf.proofs.places.string_of.Given as goal

abbrev pub invariant-loop-i : goal.invariant-loop-i
invariant-loop-i l = option_map (λ string. take l.i l.rest ++ string) (string_of (drop l.i l.rest)) ≡ string_of l.rest
