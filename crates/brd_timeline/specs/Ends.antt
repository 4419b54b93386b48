-- How a text ends.
use Rattle.std.specs.Prelude.{◌≡◌, ℕ, List, ◌++◌}

-- the last bytes of a text are these
abbrev pub EndsWith : List ℕ → List ℕ → Type 0
EndsWith last text = (before : List ℕ) × (before ++ last ≡ text)
