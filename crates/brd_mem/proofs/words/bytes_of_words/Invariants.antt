-- The bytes so far, and those of the words that are left, are those of all the words.
use Rattle.std.proofs.Common.{◌≡◌, ◌++◌, drop}
use Rattle.std.specs.Prelude.{flat_map}
use Rattle.brd_word.specs.Words.{bytes_of_word}
use Rattle.brd_word.specs.declared.order.Order.{Order}
use Rattle.brd_mem.proofs.words.bytes_of_words.Given as goal

abbrev pub invariant-loop-word : goal.invariant-loop-word
invariant-loop-word l =
    l.bytes ++ flat_map (bytes_of_word Order.Big) (drop l.word-index l.words) ≡ flat_map (bytes_of_word Order.Big) l.words
