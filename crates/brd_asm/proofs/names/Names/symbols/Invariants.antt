use Rattle.std.proofs.Common.{◌≡◌, ◌++◌, map}
use Rattle.brd_asm.specs.View as seen
use Rattle.brd_asm.specs.Image.{symbol_of}
use Rattle.brd_asm.proofs.names.Names.symbols.Given as goal

-- the symbols so far and those of what is left are those of all names
abbrev pub invariant-loop-key : goal.invariant-loop-key
invariant-loop-key l = l.symbols ++ map symbol_of (map seen.name l.key-iterator) ≡ map symbol_of l.self
