-- The references so far are to the symbols so far.
use Rattle.std.proofs.Common.{◌≡◌, map, take}
use Rattle.brd_listing.proofs.places.references.Given as goal

abbrev pub invariant-loop-symbol : goal.invariant-loop-symbol
invariant-loop-symbol l = map (λ s. s.now) l.references.items ≡ take l.symbol-index l.symbols
