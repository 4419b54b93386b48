-- The trie with one string more.
use Rattle.std.proofs.Common.{◌≡◌, ℕ, zero, suc, ◌^◌, ◌<◌, ◌≤◌, List, [], ◌∷◌, ◌++◌, length, set, Option, Some, None, refl, sym, ap, ◌∙◌, subst, inl, inr, ◌⊎◌, arith}
use Rattle.std.specs.Prelude.{slice_index_or}
use Rattle.std.proofs.lemmas.Bool.{cases_eq}
use Rattle.std.proofs.lemmas.List.{length-set, get_or-set_same, get_or-set_other, get_or_append_left}
use Rattle.std.proofs.Math.Seq.{get_or-append_seam}
use Rattle.brd_elf.specs.declared.trie.Node.{Node}
use Rattle.brd_elf.specs.Trie.{path_of, paths_behind, paths_of, node_at, IsUpTo, IsTrie}

pub behind-push : (paths : List (List ℕ)) (nodes : List Node) (node : Node)
    → paths_behind paths (nodes ++ node ∷ []) ≡ paths_behind paths nodes ++ (node.byte ∷ path_of (paths_behind paths nodes) node.rest) ∷ []
behind-push paths [] node = refl
behind-push paths (first ∷ nodes) node = behind-push (paths ++ (first.byte ∷ path_of paths first.rest) ∷ []) nodes node

pub paths-push : (nodes : List Node) (node : Node) → paths_of (nodes ++ node ∷ []) ≡ paths_of nodes ++ (node.byte ∷ path_of (paths_of nodes) node.rest) ∷ []
paths-push nodes node = behind-push ([] ∷ []) nodes node

-- one more that is the default changes no reading
pub get-push_none : (xs : List (Option ℕ)) (i : ℕ) → slice_index_or (xs ++ None ∷ []) i None ≡ slice_index_or xs i None
get-push_none [] zero = refl
get-push_none [] (suc i) = refl
get-push_none (x ∷ xs) zero = refl
get-push_none (x ∷ xs) (suc i) = get-push_none xs i

pub length-push : {X : Type 0} (xs : List X) (x : X) → length (xs ++ x ∷ []) ≡ suc (length xs)
length-push [] x = refl
length-push (y ∷ xs) x = ap suc (length-push xs x)

-- What a search along the nodes in front of one string still has to look at: none that it wants was passed.
pub record StillThere (nodes : List Node) (rest byte : ℕ) (next : Option ℕ) : Type 0 where
  pub here : (at : ℕ) → next ≡ Some at → (at < length nodes) × ((node_at nodes at).rest ≡ rest)
  pub all : (at : ℕ) → at < length nodes → (node_at nodes at).rest ≡ rest → (node_at nodes at).byte ≡ byte → IsUpTo next at

-- how far the search can still go
abbrev pub steps : Option ℕ → ℕ
steps None = 0
steps (Some at) = suc at

some_of : {X : Type 0} (a b : X) → Some a ≡ Some b → a ≡ b
some_of a b e = cc

pub starts : (lasts : List (Option ℕ)) (nodes : List Node) (rest byte : ℕ) → IsTrie lasts nodes → StillThere nodes rest byte (slice_index_or lasts rest None)
starts lasts nodes rest byte trie = record {
  here = λ at is. trie.last rest at is;
  all = λ at lt same same_byte. subst (λ number. IsUpTo (slice_index_or lasts number None) at) same (trie.all at lt);
}

pub goes_on : (lasts : List (Option ℕ)) (nodes : List Node) (rest byte at : ℕ) → IsTrie lasts nodes → StillThere nodes rest byte (Some at)
    → ((node_at nodes at).byte ≡ byte → ⊥) → StillThere nodes rest byte (node_at nodes at).before
goes_on lasts nodes rest byte at trie still different =
    let here = still.here at refl in
    record {
      here = λ other is.
          let there = trie.before at other here.0 is in
          (omega (arith, there.0, here.0), there.1 ∙ here.1);
      all = λ other lt same same_byte.
          let le : other ≤ at = still.all other lt same same_byte in
          elim (cases_eq other at) [
            | inl is ↦ absurd (different (subst (λ place. (node_at nodes place).byte ≡ byte) is same_byte))
            | inr not ↦ trie.all_before at other here.0 (omega (arith, le, not)) (same ∙ sym here.1)
          ];
    }

pub gets_smaller : (lasts : List (Option ℕ)) (nodes : List Node) (at : ℕ) → IsTrie lasts nodes → at < length nodes → steps (node_at nodes at).before < suc at
gets_smaller lasts nodes at trie lt = below (node_at nodes at).before (λ other is. (trie.before at other lt is).0)
  where
    below : (before : Option ℕ) → ((other : ℕ) → before ≡ Some other → other < at) → steps before < suc at
    below None lower = omega arith
    below (Some other) lower = omega (arith, lower other refl)

pub not_there : (lasts : List (Option ℕ)) (nodes : List Node) (rest byte : ℕ) → IsTrie lasts nodes → rest < length (paths_of nodes) → StillThere nodes rest byte None
    → (number : ℕ) → number < length (paths_of nodes) → path_of (paths_of nodes) number ≡ byte ∷ path_of (paths_of nodes) rest → ⊥
not_there lasts nodes rest byte trie within still zero lt is = nothing (path_of (paths_of nodes) rest) (sym trie.empty ∙ is)
  where
    nothing : (path : List ℕ) → [] ≡ byte ∷ path → ⊥
    nothing path e = cc
not_there lasts nodes rest byte trie within still (suc at) lt is =
    let less : at < length nodes = omega (arith, lt, trie.count) in
    let both = parts _ _ _ _ (sym (trie.paths at less) ∙ is) in
    let low = trie.rests at less in
    let same = trie.distinct (node_at nodes at).rest rest (omega (arith, low, less, trie.count)) within both.1 in
    still.all at less same both.0
  where
    parts : (a b : ℕ) (xs ys : List ℕ) → a ∷ xs ≡ b ∷ ys → (a ≡ b) × (xs ≡ ys)
    parts a b xs ys e = (cc, cc)

-- room for one string more changes nothing
pub with_room : (lasts : List (Option ℕ)) (nodes : List Node) → IsTrie lasts nodes → IsTrie (lasts ++ None ∷ []) nodes
with_room lasts nodes trie = record {
  small = trie.small;
  enough = omega (arith, length-push lasts None, trie.enough);
  count = trie.count;
  empty = trie.empty;
  rests = trie.rests;
  paths = trie.paths;
  distinct = trie.distinct;
  last = λ number at is. trie.last number at (sym (get-push_none lasts number) ∙ is);
  all = λ at lt. subst (λ last. IsUpTo last at) (sym (get-push_none lasts (node_at nodes at).rest)) (trie.all at lt);
  before = trie.before;
  all_before = trie.all_before;
}

-- the node of one string more
abbrev pub next_node : List (Option ℕ) → ℕ → ℕ → Node
next_node lasts rest byte = record { byte = byte; rest = rest; before = slice_index_or lasts rest None }

-- one string more, in a list that has room for it
module _ (lasts : List (Option ℕ)) (nodes : List Node) (rest byte : ℕ) (trie : IsTrie lasts nodes) (room : suc (suc (length nodes)) ≤ length lasts)
    (within : rest < length (paths_of nodes)) where
  abbrev pub node : Node
  node = next_node lasts rest byte

  abbrev pub nodes_now : List Node
  nodes_now = nodes ++ node ∷ []

  abbrev pub lasts_now : List (Option ℕ)
  lasts_now = set lasts rest (Some (length nodes))

  longer : length nodes_now ≡ suc (length nodes)
  longer = length-push nodes node

  splits : (at : ℕ) → at < length nodes_now → (at ≡ length nodes) ⊎ (at < length nodes)
  splits at lt =
      elim (cases_eq at (length nodes)) [
        | inl same ↦ inl same
        | inr other ↦ inr (omega (arith, lt, longer, other))
      ]

  old_node : (at : ℕ) → at < length nodes → node_at nodes_now at ≡ node_at nodes at
  old_node at lt = get_or_append_left nodes (node ∷ []) _ at lt

  new_node : (at : ℕ) → at ≡ length nodes → node_at nodes_now at ≡ node
  new_node at same = ap (node_at nodes_now) same ∙ get_or-append_seam nodes node [] _

  old_path : (number : ℕ) → number < length (paths_of nodes) → path_of (paths_of nodes_now) number ≡ path_of (paths_of nodes) number
  old_path number lt = ap (λ paths. path_of paths number) (paths-push nodes node) ∙ get_or_append_left (paths_of nodes) _ _ number lt

  pub path_more : path_of (paths_of nodes_now) (suc (length nodes)) ≡ byte ∷ path_of (paths_of nodes) rest
  path_more =
      ap (λ paths. path_of paths (suc (length nodes))) (paths-push nodes node)
      ∙ ap (path_of (paths_of nodes ++ (byte ∷ path_of (paths_of nodes) rest) ∷ [])) (sym trie.count) ∙ get_or-append_seam (paths_of nodes) _ [] _

  pub count_now : length (paths_of nodes_now) ≡ suc (suc (length nodes))
  count_now = ap length (paths-push nodes node) ∙ length-push (paths_of nodes) _ ∙ ap suc trie.count

  last_here : slice_index_or lasts_now rest None ≡ Some (length nodes)
  last_here = get_or-set_same lasts rest (Some (length nodes)) None (omega (arith, within, trie.count, room))

  pub trie_more : suc (length nodes) < 2 ^ 32
      → ((number : ℕ) → number < length (paths_of nodes) → path_of (paths_of nodes) number ≡ byte ∷ path_of (paths_of nodes) rest → ⊥)
      → IsTrie lasts_now nodes_now
  trie_more small new = record {
    small = rw longer small;
    enough = omega (arith, longer, length-set lasts rest (Some (length nodes)), room);
    count = count_now ∙ ap suc (sym longer);
    empty = old_path 0 (omega (arith, trie.count)) ∙ trie.empty;
    rests = λ at lt. elim (splits at lt) [
      | inl same ↦ rw (new_node at same) (omega (arith, same, within, trie.count))
      | inr old ↦ rw (old_node at old) (trie.rests at old)
    ];
    paths = λ at lt. elim (splits at lt) [
      | inl same ↦ rw (new_node at same) (ap (λ place. path_of (paths_of nodes_now) (suc place)) same ∙ path_more ∙ ap (λ path. byte ∷ path) (sym (old_path rest within)))
      | inr old ↦
          rw (old_node at old) (old_path (suc at) (omega (arith, old, trie.count)) ∙ trie.paths at old
          ∙ ap (λ path. (node_at nodes at).byte ∷ path) (sym (old_path (node_at nodes at).rest (omega (arith, old, trie.count, trie.rests at old)))))
    ];
    distinct = λ a b la lb same. elim (cases_eq a (suc (length nodes))) [
      | inl a_new ↦ elim (cases_eq b (suc (length nodes))) [
        | inl b_new ↦ omega (arith, a_new, b_new)
        | inr b_old ↦ absurd (clash new a b a_new (omega (arith, lb, count_now, trie.count, b_old)) same)
      ]
      | inr a_old ↦ elim (cases_eq b (suc (length nodes))) [
        | inl b_new ↦ absurd (clash new b a b_new (omega (arith, la, count_now, trie.count, a_old)) (sym same))
        | inr b_old ↦
            let a_in : a < length (paths_of nodes) = omega (arith, la, count_now, trie.count, a_old) in
            let b_in : b < length (paths_of nodes) = omega (arith, lb, count_now, trie.count, b_old) in
            trie.distinct a b a_in b_in (sym (old_path a a_in) ∙ same ∙ old_path b b_in)
      ]
    ];
    last = λ number at is. elim (cases_eq number rest) [
      | inl same ↦
          let here : length nodes ≡ at = some_of _ _ (sym last_here ∙ ap (λ place. slice_index_or lasts_now place None) (sym same) ∙ is) in
          (omega (arith, here, longer), ap (λ (n : Node). n.rest) (new_node at (sym here)) ∙ sym same)
      | inr other ↦
          let there = trie.last number at (sym (get_or-set_other lasts rest number (Some (length nodes)) None other) ∙ is) in
          (omega (arith, there.0, longer), ap (λ (n : Node). n.rest) (old_node at there.0) ∙ there.1)
    ];
    all = λ at lt. elim (splits at lt) [
      | inl same ↦ rw (new_node at same, last_here) (omega (arith, same))
      | inr old ↦ rw (old_node at old) (up_to at old)
    ];
    before = λ at other lt is. elim (splits at lt) [
      | inl same ↦
          let there = trie.last rest other (sym (ap (λ (n : Node). n.before) (new_node at same)) ∙ is) in
          (omega (arith, there.0, same), ap (λ (n : Node). n.rest) (old_node other there.0) ∙ there.1 ∙ sym (ap (λ (n : Node). n.rest) (new_node at same)))
      | inr old ↦
          let there = trie.before at other old (sym (ap (λ (n : Node). n.before) (old_node at old)) ∙ is) in
          (there.0, ap (λ (n : Node). n.rest) (old_node other (omega (arith, there.0, old))) ∙ there.1 ∙ sym (ap (λ (n : Node). n.rest) (old_node at old)))
    ];
    all_before = λ at other lt less same. elim (splits at lt) [
      | inl is ↦
          let low : other < length nodes = omega (arith, less, is) in
          let rests : (node_at nodes other).rest ≡ rest = sym (ap (λ (n : Node). n.rest) (old_node other low)) ∙ same ∙ ap (λ (n : Node). n.rest) (new_node at is) in
          rw (new_node at is) (subst (λ number. IsUpTo (slice_index_or lasts number None) other) rests (trie.all other low))
      | inr old ↦
          let low : other < length nodes = omega (arith, less, old) in
          rw (old_node at old) (trie.all_before at other old less
          (sym (ap (λ (n : Node). n.rest) (old_node other low)) ∙ same ∙ ap (λ (n : Node). n.rest) (old_node at old)))
    ];
  }
    where
      clash : ((number : ℕ) → number < length (paths_of nodes) → path_of (paths_of nodes) number ≡ byte ∷ path_of (paths_of nodes) rest → ⊥)
          → (a b : ℕ) → a ≡ suc (length nodes) → b < length (paths_of nodes) → path_of (paths_of nodes_now) a ≡ path_of (paths_of nodes_now) b → ⊥
      clash new a b a_new b_in same = new b b_in (sym (old_path b b_in) ∙ sym same ∙ ap (path_of (paths_of nodes_now)) a_new ∙ path_more)

      up_to : (at : ℕ) → at < length nodes → IsUpTo (slice_index_or lasts_now (node_at nodes at).rest None) at
      up_to at old =
          elim (cases_eq (node_at nodes at).rest rest) [
            | inl same ↦ rw (same, last_here) (omega (arith, old))
            | inr other ↦ rw (get_or-set_other lasts rest (node_at nodes at).rest (Some (length nodes)) None other) (trie.all at old)
          ]

-- the same by equal lists
pub same_trie : (lasts new_lasts : List (Option ℕ)) (nodes new_nodes : List Node) (rest last new_last : ℕ) → new_lasts ≡ lasts → new_nodes ≡ nodes → new_last ≡ last
    → IsTrie (set lasts rest (Some last)) nodes → IsTrie (set new_lasts rest (Some new_last)) new_nodes
same_trie lasts new_lasts nodes new_nodes rest last new_last same_lasts same_nodes same_last trie = rw (same_lasts, same_nodes, same_last) trie
