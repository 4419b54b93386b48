-- What was found is the nearest of the symbols so far.
use Rattle.std.proofs.Common.{◌≡◌, take}
use Rattle.std.specs.Prelude.{option_map, None}
use Rattle.std.specs.List.{fold}
use Rattle.brd_listing.specs.Places.{nearer}
use Rattle.brd_listing.proofs.place.nearest.Given as goal

abbrev pub invariant-loop-symbol : goal.invariant-loop-symbol
invariant-loop-symbol l =
    option_map (λ s. s.now) l.best ≡ fold (nearer l.address) None (take l.symbol-index l.symbols)
