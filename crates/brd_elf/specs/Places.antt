-- Only private contracts name this: places of a string table whose strings have numbers.
use Rattle.std.specs.Prelude.{◌≡◌, ℕ, suc, ◌^◌, ◌<◌, ◌≤◌, List, [], length, drop, slice_index_or, count_by, Option}
use Rattle.std.specs.Prelude.{None, Some, is_some}
use Rattle.brd_elf.specs.Symbols.{string_of}
use Rattle.brd_elf.specs.Trie.{path_of, AreDistinct}

-- a string table, the numbers of its places, and strings by their numbers
pub record Numbered : Type 0 where
  pub strings : List ℕ
  pub numbers : List (Option ℕ)
  pub paths : List (List ℕ)

-- no byte 0 from a place up to, not including, another one
abbrev pub AreLetters : List ℕ → ℕ → ℕ → Type 0
AreLetters strings start end = (place : ℕ) → start ≤ place → place < end → slice_index_or strings place 0 ≡ 0 → ⊥

-- no numbers from a place up to, not including, another one
abbrev pub AreNew : List (Option ℕ) → ℕ → ℕ → Type 0
AreNew numbers start end = (place : ℕ) → start ≤ place → place < end → slice_index_or numbers place None ≡ None

-- Where a place has a number, that is the number of its string. Each string but the empty one got its number with a
-- place.
pub record IsNumbering (numbered : Numbered) : Type 0 where
  pub short : length numbered.strings < 2 ^ 32
  pub places : length numbered.numbers ≡ length numbered.strings
  pub few : length numbered.paths ≤ suc (count_by is_some numbered.numbers)
  pub there : 0 < length numbered.paths
  pub empty : path_of numbered.paths 0 ≡ []
  pub distinct : AreDistinct numbered.paths
  pub within : (place number : ℕ) → slice_index_or numbered.numbers place None ≡ Some number →
      number < length numbered.paths
  pub strings : (place number : ℕ) → slice_index_or numbered.numbers place None ≡ Some number →
      string_of (drop place numbered.strings) ≡ Some (path_of numbered.paths number)
