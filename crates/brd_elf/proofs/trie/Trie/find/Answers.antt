use Rattle.std.proofs.Common.{◌≡◌, ◌<◌, None, length, refl, ◌∙◌, subst, arith}
use Rattle.std.specs.Prelude.{slice_index_or}
use Rattle.std.proofs.lemmas.List.{get_or_default}
use Rattle.brd_elf.specs.Trie.{node_at, paths_of}
use Rattle.brd_elf.proofs.TrieLemmas.{StillThere, starts, goes_on, gets_smaller, not_there}
use Rattle.brd_elf.proofs.trie.Trie.find.Goals as goal

pub loop-next-init : goal.loop-next-init
loop-next-init c =
    let within : c.args.rest < length (paths_of c.self.inside.nodes.items) = rw c.self.view_is c.requires in
    let trie = c.self.invariant in
    let read : c.index-next.result.now ≡ slice_index_or c.self.inside.lasts.items c.args.rest None =
    c.index-next.ensures ∙ get_or_default c.self.inside.lasts.items c.args.rest _ _ (omega (arith, within, trie.count, trie.enough)) in
    rw read (starts c.self.inside.lasts.items c.self.inside.nodes.items c.args.rest c.args.byte trie)

pub index-node-requires : goal.index-node-requires
index-node-requires c = rw c.self.inside.nodes.ok.0 (c.loop-next.invariant.here c.in-Some.at c.in-Some.is).0

pub loop-next-smaller : goal.loop-next-smaller
loop-next-smaller c =
    let here = (c.loop-next.invariant.here c.in-Some.at c.in-Some.is).0 in
    let read : c.index-node.result.now ≡ node_at c.self.inside.nodes.items c.in-Some.at = c.index-node.ensures ∙ get_or_default c.self.inside.nodes.items c.in-Some.at _ _ here in
    rw (read, c.in-Some.is) (gets_smaller c.self.inside.lasts.items c.self.inside.nodes.items c.in-Some.at c.self.invariant here)

pub loop-next-preserved : goal.loop-next-preserved
loop-next-preserved c =
    let still = subst (StillThere c.self.inside.nodes.items c.args.rest c.args.byte) c.in-Some.is c.loop-next.invariant in
    let read : c.index-node.result.now ≡ node_at c.self.inside.nodes.items c.in-Some.at = c.index-node.ensures ∙ get_or_default c.self.inside.nodes.items c.in-Some.at _ _ (still.here c.in-Some.at refl).0 in
    rw read (goes_on c.self.inside.lasts.items c.self.inside.nodes.items c.args.rest c.args.byte c.in-Some.at c.self.invariant still (λ same. c.if-node-byte.false (rw read same)))

pub returns-clause-none : goal.returns-clause-none
returns-clause-none c =
    let within : c.args.rest < length (paths_of c.self.inside.nodes.items) = rw c.self.view_is c.requires in
    let still = subst (StillThere c.self.inside.nodes.items c.args.rest c.args.byte) c.in_default.is c.loop-next.invariant in
    rw (← c.self.view_is) (not_there c.self.inside.lasts.items c.self.inside.nodes.items c.args.rest c.args.byte c.self.invariant within still)
