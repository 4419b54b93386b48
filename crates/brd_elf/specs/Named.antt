-- Only private contracts name this: a register of symbols, by which it is seen at once whether a string of the string
-- table would be a new name.
use Rattle.std.specs.Prelude.{◌≡◌, ℕ, ◌<◌, ◌≤◌, Bool, true, false, List, [], ◌∷◌, length, slice_index_or, Option, None}
use Rattle.std.specs.Prelude.{Some}
use Rattle.brd_mem.specs.declared.image.Symbol.{Symbol}
use Rattle.brd_elf.specs.Symbols.{is_named}
use Rattle.brd_elf.specs.Trie.{path_of, AreDistinct}

-- symbols, the string table that their names lie in, and strings of it by their numbers
pub record Known : Type 0 where
  pub strings : List ℕ
  pub symbols : List Symbol
  pub paths : List (List ℕ)

-- a string that is no new name: it is empty, or one of the symbols has it
abbrev pub is_known : List Symbol → Option (List ℕ) → Bool
is_known symbols None = false
is_known symbols (Some []) = true
is_known symbols (Some (byte ∷ string)) = is_named symbols (byte ∷ string)

-- Each string that is no new name has a number, and just the numbers of those are marked.
pub record IsRegister (marks : List Bool) (known : Known) : Type 0 where
  pub distinct : AreDistinct known.paths
  pub size : length marks ≤ length known.paths
  pub numbered : (string : List ℕ) → is_known known.symbols (Some string) ≡ true →
      (number : ℕ) × (number < length known.paths) × (path_of known.paths number ≡ string)
  pub marked : (number : ℕ) → number < length known.paths →
      slice_index_or marks number false ≡ is_known known.symbols (Some (path_of known.paths number))
