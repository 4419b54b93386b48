-- Only private contracts name this: strings by their numbers. 0 is the empty string, and each node of a list makes one
-- more string, a byte in front of an earlier one.
use Rattle.std.specs.Prelude.{◌≡◌, ℕ, suc, ◌^◌, ◌<◌, ◌≤◌, List, [], ◌∷◌, ◌++◌, length, slice_index_or, Option, None}
use Rattle.std.specs.Prelude.{Some}
use Rattle.brd_elf.specs.declared.trie.Node.{Node}

-- the string that a number stands for
abbrev pub path_of : List (List ℕ) → ℕ → List ℕ
path_of paths number = slice_index_or paths number []

-- these strings, and after them one for each of the next nodes
abbrev pub paths_behind : List (List ℕ) → List Node → List (List ℕ)
paths_behind paths [] = paths
paths_behind paths (node ∷ nodes) = paths_behind (paths ++ (node.byte ∷ path_of paths node.rest) ∷ []) nodes

-- the strings of all numbers
abbrev pub paths_of : List Node → List (List ℕ)
paths_of nodes = paths_behind ([] ∷ []) nodes

-- no string has two numbers
abbrev pub AreDistinct : List (List ℕ) → Type 0
AreDistinct paths = (a b : ℕ) → a < length paths → b < length paths → path_of paths a ≡ path_of paths b → a ≡ b

-- the strings are kept, with their numbers, and there may be more
abbrev pub IsMore : List (List ℕ) → List (List ℕ) → Type 0
IsMore paths more = (new : List (List ℕ)) × (more ≡ paths ++ new)

abbrev pub node_at : List Node → ℕ → Node
node_at nodes at = slice_index_or nodes at (record { byte = 0; rest = 0; before = None })

-- there is a last one, and a place isn't after it
abbrev pub IsUpTo : Option ℕ → ℕ → Type 0
IsUpTo None at = ⊥
IsUpTo (Some last) at = at ≤ last

-- For each number, `lasts` has the last node in front of its string, and each node the one before it in front of the
-- same string.
pub record IsTrie (lasts : List (Option ℕ)) (nodes : List Node) : Type 0 where
  pub small : length nodes < 2 ^ 32
  pub enough : suc (length nodes) ≤ length lasts
  pub count : length (paths_of nodes) ≡ suc (length nodes)
  pub empty : path_of (paths_of nodes) 0 ≡ []
  pub rests : (at : ℕ) → at < length nodes → (node_at nodes at).rest ≤ at
  pub paths : (at : ℕ) → at < length nodes →
      path_of (paths_of nodes) (suc at) ≡ (node_at nodes at).byte ∷ path_of (paths_of nodes) (node_at nodes at).rest
  pub distinct : AreDistinct (paths_of nodes)
  pub last : (number at : ℕ) → slice_index_or lasts number None ≡ Some at →
      (at < length nodes) × ((node_at nodes at).rest ≡ number)
  pub all : (at : ℕ) → at < length nodes → IsUpTo (slice_index_or lasts (node_at nodes at).rest None) at
  pub before : (at other : ℕ) → at < length nodes → (node_at nodes at).before ≡ Some other →
      (other < at) × ((node_at nodes other).rest ≡ (node_at nodes at).rest)
  pub all_before : (at other : ℕ) → at < length nodes → other < at →
      (node_at nodes other).rest ≡ (node_at nodes at).rest → IsUpTo (node_at nodes at).before other
