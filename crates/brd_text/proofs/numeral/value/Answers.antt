use Rattle.std.proofs.Common.{sym, ◌∙◌, arith}
use Rattle.brd_text.proofs.Numerals.{value_of-some, no_digit_at, too_large_at}
use Rattle.brd_text.proofs.numeral.value.Goals as goal

pub returns-in_default-clause-value : goal.returns-in_default-clause-value
returns-in_default-clause-value c =
    sym (no_digit_at c.args.base c.args.most c.loop-byte.value c.loop-byte.byte-index c.args.digits.now c.loop-byte-test.true c.in_default.ensures.value)
    ∙ c.loop-byte.invariant.same
    ∙ sym (value_of-some c.args.base c.args.most c.args.digits.now (sym c.is_empty.ensures ∙ c.if-is_empty.false))

pub returns-then-more-most-clause-value : goal.returns-then-more-most-clause-value
returns-then-more-most-clause-value c =
    sym (too_large_at c.args.base c.args.most c.loop-byte.value c.loop-byte.byte-index c.in-Some.digit c.args.digits.now c.loop-byte-test.true c.in-Some.ensures.value c.requires.low (omega arith))
    ∙ c.loop-byte.invariant.same
    ∙ sym (value_of-some c.args.base c.args.most c.args.digits.now (sym c.is_empty.ensures ∙ c.if-is_empty.false))
