use Rattle.std.proofs.lemmas.List.{drop_more}
use Rattle.brd_elf.specs.Fields.{half}
use Rattle.brd_elf.proofs.PartLemmas.{flat_goes_on}
use Rattle.brd_elf.proofs.parts.put_halves.Goals as goal

pub loop-number-preserved : goal.loop-number-preserved
loop-number-preserved c =
    flat_goes_on (half c.args.order) c.loop-number.number-index c.loop-number.out.items c.put_half.new.out.items _ c.args.numbers.now _ (drop_more c.args.numbers.now c.loop-number.number-index 0 c.loop-number-test.true) c.in_ok-put_half.ensures c.loop-number.invariant
