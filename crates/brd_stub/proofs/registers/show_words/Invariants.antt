-- what is put so far and the text of the words that are left are all
use Rattle.std.proofs.Common.{◌≡◌, ◌++◌, drop}
use Rattle.brd_stub.specs.Registers.{words_text}
use Rattle.brd_stub.proofs.registers.show_words.Given as goal

abbrev pub invariant-loop-word : goal.invariant-loop-word
invariant-loop-word l =
    l.out.items ++ words_text l.order (drop l.word-index l.words) ≡ l.initial.out.items ++ words_text l.order l.words
