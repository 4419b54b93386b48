use Rattle.std.proofs.Common.{◌∙◌, ap, arith}
use Rattle.brd_try.specs.Told.{registers_to}
use Rattle.brd_try.proofs.ToldLemmas.{next_register, no_registers}
use Rattle.brd_try.proofs.words.put_registers.Goals as goal

pub loop-number-init : goal.loop-number-init
loop-number-init c = no_registers c.args.context.now c.args.line.now.items c.requires

pub loop-number-preserved : goal.loop-number-preserved
loop-number-preserved c =
    next_register c.args.context.now c.loop-number.number c.low.result c.word.result c.loop-number.line.items
    c.put_word.new.line.items c.register_name-name.result.now c.loop-number.invariant
    c.in_ok-put_word.ensures c.register_name-name.ensures.is
    (grind (arith, c.low.ensures, c.loop-number-test.true)) c.word.ensures

pub returns : goal.returns
returns c =
    c.loop-number.invariant
    ∙ ap (registers_to c.args.context.now) (omega (arith, c.loop-number-test.false, c.loop-number.auto.number-end))
