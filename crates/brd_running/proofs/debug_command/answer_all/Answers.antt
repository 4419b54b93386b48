use Rattle.std.proofs.Common.{ℕ, List, Vec, Global, [], refl, sym, ap, subst, true≢false, arith}
use Rattle.std.specs.Prelude.{Option, option_map}
use Rattle.brd_running.specs.Answers.HasDone.{nothing_yet}
use Rattle.brd_running.specs.Lines.{CountsLine}
use Rattle.brd_running.proofs.AnswerLemmas.{all_answered, quit_answered, more_answered, front_answered, stopped}
use Rattle.brd_report.proofs.OutputLemmas as output
use Rattle.brd_running.proofs.debug_command.answer_all.Goals as goal

-- the bytes of a line, or of an answer, where there is one
abbrev items : Option (Vec ℕ Global) → Option (List ℕ)
items found = option_map (λ (v : Vec ℕ Global). v.items) found

pub loop-line-init : goal.loop-line-init
loop-line-init g c = record {
  few = omega arith;
  ended = λ e. absurd (true≢false (sym e));
  left = λ text is. (text, [], is, omega arith, ([], refl), nothing_yet, output.nothing_yet (g.W.Write.contents c.args.writer.now));
}

pub returns-in-Ok-None : goal.returns-in-Ok-None
returns-in-Ok-None g c =
    all_answered c.args.debugger.now c.loop-line.debugger _ _ c.loop-line.taken c.next_line.new.taken (items c.in-Ok-None.field-0) _ _
    c.in-Ok-None.ensures.takes c.in-Ok-None.ensures.counts (g.R.Read.remaining c.args.input.now) (ap items c.in-Ok-None.field-0-is)
    c.loop-line.invariant.left

pub returns-in-Err : goal.returns-in-Err
returns-in-Err g c =
    stopped c.args.debugger.now c.loop-line.debugger _ c.loop-line.taken _ _ c.loop-line.invariant.few
    (g.R.Read.remaining c.args.input.now) c.in-Err.fault
    c.in-Err.ensures.takes c.loop-line.invariant.left

pub returns-in-None : goal.returns-in-None
returns-in-None g c =
    let quits = rw (c.in-None.is, c.command_of.ensures, c.deref.ensures.value) at c.in_ok-answer.ensures in
    quit_answered c.args.debugger.now c.loop-line.debugger _ _ c.loop-line.taken c.next_line.new.taken (items c.in-Ok-Some.field-0) _ _
    c.in-Ok-Some.ensures.takes c.in-Ok-Some.ensures.counts c.in-Ok-Some.line.items (ap items c.in-Ok-Some.field-0-is)
    (g.R.Read.remaining c.args.input.now) quits.0 c.loop-line.invariant.left

pub returns-in-Err-write_whole : goal.returns-in-Err-write_whole
returns-in-Err-write_whole g c =
    front_answered c.args.debugger.now c.loop-line.debugger _ _ c.loop-line.taken c.next_line.new.taken (items c.in-Ok-Some.field-0) _ _
    c.in-Ok-Some.ensures.takes c.in-Ok-Some.ensures.counts c.in-Ok-Some.line.items (ap items c.in-Ok-Some.field-0-is)
    c.in-Some.answer.items c.answer.new.debugger (rw (c.in-Some.is, c.command_of.ensures, c.deref.ensures.value) at c.in_ok-answer.ensures) _ (g.R.Read.remaining c.args.input.now) (rw c.deref-in-loop-line.ensures.value at c.in-Err-write_whole.ensures.front)
    c.loop-line.invariant.left

pub loop-line-preserved : goal.loop-line-preserved
loop-line-preserved g c =
    let counts = subst (λ (f : Option (List ℕ)). CountsLine c.loop-line.taken f c.next_line.new.taken) (ap items c.in-Ok-Some.field-0-is) c.in-Ok-Some.ensures.counts in
    record {
      few = counts.1;
      ended = c.next_line.ensures.ended;
      left = λ text is. more_answered c.args.debugger.now c.loop-line.debugger _ _ c.loop-line.taken c.next_line.new.taken (items c.in-Ok-Some.field-0) _ _
          c.in-Ok-Some.ensures.takes c.in-Ok-Some.ensures.counts c.in-Ok-Some.line.items (ap items c.in-Ok-Some.field-0-is)
          c.in-Some.answer.items c.answer.new.debugger (rw (c.in-Some.is, c.command_of.ensures, c.deref.ensures.value) at c.in_ok-answer.ensures) _ text (rw c.deref-in-loop-line.ensures.value at c.in-Ok.ensures.whole) (c.loop-line.invariant.left text is);
    }
