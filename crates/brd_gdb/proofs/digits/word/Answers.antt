use Rattle.std.proofs.Common.{sym, ◌∙◌, arith}
use Rattle.brd_text.proofs.Numerals.{value_of-some, no_digit_at, too_large_at}
use Rattle.brd_text.specs.Numbers.{most_word}
use Rattle.brd_gdb.proofs.digits.word.Goals as goal

pub returns-in_default : goal.returns-in_default
returns-in_default c =
    sym (no_digit_at 16 most_word c.loop-byte.value c.loop-byte.byte-index c.args.digits.now c.loop-byte-test.true c.in_default.ensures.value)
    ∙ c.loop-byte.invariant.same
    ∙ sym (value_of-some 16 most_word c.args.digits.now (sym c.is_empty.ensures ∙ c.if-is_empty.false))

pub returns-then-more : goal.returns-then-more
returns-then-more c =
    sym (too_large_at 16 most_word c.loop-byte.value c.loop-byte.byte-index c.in-Some.digit c.args.digits.now c.loop-byte-test.true c.in-Some.ensures.value (omega arith) (omega arith))
    ∙ c.loop-byte.invariant.same
    ∙ sym (value_of-some 16 most_word c.args.digits.now (sym c.is_empty.ensures ∙ c.if-is_empty.false))
