-- Texts, one after the other.
use Rattle.std.specs.Prelude.{◌≡◌, ℕ, List, [], ◌∷◌, ◌++◌}

-- a text is such texts of each of these, one after the other
abbrev pub AreTexts : {X : Type 0} → (X → List ℕ → Type 0) → List X → List ℕ → Type 0
AreTexts IsOf [] text = text ≡ []
AreTexts IsOf (x ∷ xs) text =
    (first : List ℕ) × (rest : List ℕ) × IsOf x first × AreTexts IsOf xs rest × (text ≡ first ++ rest)
