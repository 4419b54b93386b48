use Rattle.std.proofs.lemmas.List.{drop_more}
use Rattle.brd_elf.specs.Fields.{word}
use Rattle.brd_elf.proofs.PartLemmas.{flat_goes_on}
use Rattle.brd_elf.proofs.parts.put_words.Goals as goal

pub loop-number-preserved : goal.loop-number-preserved
loop-number-preserved c =
    flat_goes_on (word c.args.order) c.loop-number.number-index c.loop-number.out.items c.put_word.new.out.items _ c.args.numbers.now _ (drop_more c.args.numbers.now c.loop-number.number-index 0 c.loop-number-test.true) c.in_ok-put_word.ensures c.loop-number.invariant
