-- The search along the nodes in front of the string has passed none that it wants.
use Rattle.brd_elf.proofs.TrieLemmas.{StillThere, steps}
use Rattle.brd_elf.proofs.trie.Trie.find.Given as goal

abbrev pub invariant-loop-next : goal.invariant-loop-next
invariant-loop-next l = StillThere l.self-inside.nodes.items l.rest l.byte l.next

abbrev pub decreases-loop-next : goal.decreases-loop-next
decreases-loop-next l = steps l.next
