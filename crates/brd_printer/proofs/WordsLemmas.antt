-- Words that are read piece by piece.
use Rattle.std.proofs.Common.{List, ◌++◌}
use Rattle.std.specs.Prelude.{Result, Ok, Err}

-- what is given behind elements that are there
abbrev pub behind : {Y F : Type 0} → List Y → Result (List Y) F → Result (List Y) F
behind done (Ok ys) = Ok (done ++ ys)
behind done (Err fault) = Err fault
