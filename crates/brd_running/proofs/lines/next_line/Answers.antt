use Rattle.std.proofs.Common.{ℕ, [], ◌∷◌, subst, arith, length-append}
use Rattle.std.proofs.lemmas.Bool.Decides.{nat_tests}
use Rattle.std.specs.Prelude.{Option}
use Rattle.brd_running.specs.Lines.{CountsByte}
use Rattle.brd_running.proofs.LineLemmas.{line_ends, line_grows, text_ends, last_line_ends}
use Rattle.brd_running.proofs.lines.next_line.Goals as goal

pub returns-then-byte-eq10-clause-takes : goal.returns-then-byte-eq10-clause-takes
returns-then-byte-eq10-clause-takes g c text is =
    line_ends text _ _ c.args.taken.now.bytes c.loop-byte.taken c.next_byte.new.taken c.in-Ok-Some.field-0 c.in-Ok-Some.ensures.takes
    c.in-Ok-Some.ensures.counts c.loop-byte.line.items c.in-Ok-Some.byte (c.loop-byte.invariant.left text is) c.in-Ok-Some.field-0-is c.if-byte-eq10.true

pub loop-byte-preserved : goal.loop-byte-preserved
loop-byte-preserved g c =
    let counts = subst (λ (f : Option ℕ). CountsByte c.loop-byte.taken f c.next_byte.new.taken) c.in-Ok-Some.field-0-is c.in-Ok-Some.ensures.counts in
    record {
      few = counts.1;
      counted = rw c.in_ok-put.ensures (omega (arith, length-append c.loop-byte.line.items (c.in-Ok-Some.byte ∷ []), c.loop-byte.invariant.counted, counts.0));
      reads = omega (arith, c.loop-byte.invariant.reads, c.next_byte.ensures.reads);
      ended = c.next_byte.ensures.ended;
      left = λ text is. rw c.in_ok-put.ensures (line_grows text _ _ c.args.taken.now.bytes c.loop-byte.taken c.next_byte.new.taken
          c.in-Ok-Some.field-0 c.in-Ok-Some.ensures.takes c.in-Ok-Some.ensures.counts c.loop-byte.line.items c.in-Ok-Some.byte
          (c.loop-byte.invariant.left text is) c.in-Ok-Some.field-0-is c.if-byte-eq10.false);
    }

pub returns-then-is_empty-clause-takes : goal.returns-then-is_empty-clause-takes
returns-then-is_empty-clause-takes g c text is =
    text_ends text _ _ c.args.taken.now.bytes c.loop-byte.taken c.next_byte.new.taken c.in-Ok-None.field-0 c.in-Ok-None.ensures.takes
    c.in-Ok-None.ensures.counts c.loop-byte.line.items (c.loop-byte.invariant.left text is) c.in-Ok-None.field-0-is
    (grind (arith, nat_tests, c.if-is_empty.ensures, c.loop-byte.line.ok.0))

pub returns-clause-takes : goal.returns-clause-takes
returns-clause-takes g c text is =
    last_line_ends text _ _ c.args.taken.now.bytes c.loop-byte.taken c.next_byte.new.taken c.in-Ok-None.field-0 c.in-Ok-None.ensures.takes
    c.in-Ok-None.ensures.counts c.loop-byte.line.items (c.loop-byte.invariant.left text is) c.in-Ok-None.field-0-is
    (grind (arith, nat_tests, c.if-is_empty.ensures, c.loop-byte.line.ok.0))
