use Rattle.std.proofs.Common.{◌≡◌, ℕ, suc, List, ◌∷◌, ◌++◌, ◌+◌, ◌^◌, ◌<◌, ◌≤◌, [], Option, None, Some, length, set, ap, ◌∙◌, arith}
use Rattle.std.proofs.lemmas.List.{get_or_default}
use Rattle.std.specs.Prelude.{slice_index_or}
use Rattle.brd_elf.specs.declared.trie.Node.{Node}
use Rattle.brd_elf.specs.Trie.{path_of, paths_of, IsTrie}
use Rattle.brd_elf.proofs.TrieLemmas.{with_room, trie_more, path_more, count_now, paths-push, next_node, length-push, same_trie}
use Rattle.brd_elf.proofs.trie.Trie.add.Goals as goal

pub invariant_of-self-in_err-push-2 : goal.invariant_of-self-in_err-push-2
invariant_of-self-in_err-push-2 c =
    rw (c.in_ok-push.ensures.items, c.in_err-push-2.ensures.items) (with_room c.self.inside.lasts.items c.self.inside.nodes.items c.self.invariant)

module _ (c : goal.After-self-1) where
  abbrev nodes : List Node
  nodes = c.self.inside.nodes.items

  abbrev lasts : List (Option ℕ)
  lasts = c.self.inside.lasts.items ++ None ∷ []

  within : c.args.rest < length (paths_of nodes)
  within = rw c.self.view_is c.requires.rest

  small : suc (length nodes) < 2 ^ 32
  small =
      let paths : length (paths_of nodes) < 2 ^ 32 = rw c.self.view_is c.requires.room in
      omega (arith, paths, c.self.invariant.count)

  trie : IsTrie lasts nodes
  trie = with_room c.self.inside.lasts.items nodes c.self.invariant

  room : suc (suc (length nodes)) ≤ length lasts
  room = omega (arith, length-push c.self.inside.lasts.items None, c.self.invariant.enough)

  lasts_is : c.push.new.self.items ≡ lasts
  lasts_is = c.in_ok-push.ensures.items

  len_is : c.len-at.result ≡ length nodes
  len_is = c.len-at.ensures ∙ c.self.inside.nodes.ok.0

  before_is : c.index-before.result.now ≡ slice_index_or lasts c.args.rest None
  before_is =
      let read : c.index-before.result.now ≡ slice_index_or lasts c.args.rest c.index-before.result.now = rw lasts_is at c.index-before.ensures in
      read ∙ get_or_default lasts c.args.rest _ None (omega (arith, within, trie.count, room))

  nodes_is : c.push-2.new.self.items ≡ nodes ++ next_node lasts c.args.rest c.args.byte ∷ []
  nodes_is = c.in_ok-push-2.ensures.items ∙ ap (λ before. nodes ++ record { byte = c.args.byte; rest = c.args.rest; before = before } ∷ []) before_is

  whole : IsTrie (set lasts c.args.rest (Some (length nodes))) (nodes ++ next_node lasts c.args.rest c.args.byte ∷ [])
  whole = trie_more lasts nodes c.args.rest c.args.byte trie room within small (rw c.self.view_is c.requires.new)

  path : path_of (paths_of (nodes ++ next_node lasts c.args.rest c.args.byte ∷ [])) (c.len-at.result + 1) ≡ c.args.byte ∷ path_of (paths_of nodes) c.args.rest
  path =
      let number : c.len-at.result + 1 ≡ suc (length nodes) = omega (arith, len_is) in
      rw number (path_more lasts nodes c.args.rest c.args.byte trie room within)

  there : c.len-at.result + 1 < length (paths_of (nodes ++ next_node lasts c.args.rest c.args.byte ∷ []))
  there = omega (arith, len_is, count_now lasts nodes c.args.rest c.args.byte trie room within)

pub invariant_of-self-2 : goal.invariant_of-self-2
invariant_of-self-2 c = same_trie (lasts c) _ _ _ c.args.rest (length (nodes c)) _ (lasts_is c) (nodes_is c) (len_is c) (whole c)

pub returns-clause-path : goal.returns-clause-path
returns-clause-path c = rw (nodes_is c) (path c ∙ ap (λ paths. c.args.byte ∷ path_of paths c.args.rest) c.self.view_is)

pub returns-clause-there : goal.returns-clause-there
returns-clause-there c = rw (nodes_is c) (there c)

pub returns-clause-few : goal.returns-clause-few
returns-clause-few c =
    let before : length (paths_of (nodes c)) ≡ length c.args.self.now = ap (λ (paths : List (List ℕ)). length paths) c.self.view_is in
    rw (nodes_is c) (omega (arith, count_now (lasts c) (nodes c) c.args.rest c.args.byte (trie c) (room c) (within c), c.self.invariant.count, before))

pub returns-clause-kept : goal.returns-clause-kept
returns-clause-kept c =
    let new : List (List ℕ) = (c.args.byte ∷ path_of (paths_of (nodes c)) c.args.rest) ∷ [] in
    rw (nodes_is c) (new, paths-push (nodes c) (next_node (lasts c) c.args.rest c.args.byte) ∙ ap (λ paths. paths ++ new) c.self.view_is)

pub returns-clause-distinct : goal.returns-clause-distinct
returns-clause-distinct c = rw (nodes_is c) (whole c).distinct
