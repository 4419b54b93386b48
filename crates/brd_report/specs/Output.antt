-- What was written of what should be.
use Rattle.std.specs.Prelude.{◌≡◌, ℕ, List, ◌++◌, Option}
use Rattle.std.specs.Io.KnownBytes.{Appends}

-- a front of these bytes was written, and nothing else
pub record AppendsFront (old new : Option (List ℕ)) (bytes : List ℕ) : Type 0 where
  pub front : List ℕ
  pub rest : List ℕ
  pub whole : front ++ rest ≡ bytes
  pub written : Appends old new front

-- bytes that are meant were written, and nothing else
pub record Writes (IsMeant : List ℕ → Type 0) (old new : Option (List ℕ)) : Type 0 where
  pub bytes : List ℕ
  pub are_meant : IsMeant bytes
  pub written : Appends old new bytes

-- a front of bytes that are meant was written, and nothing else
pub record WritesFront (IsMeant : List ℕ → Type 0) (old new : Option (List ℕ)) : Type 0 where
  pub bytes : List ℕ
  pub are_meant : IsMeant bytes
  pub written : AppendsFront old new bytes
