use Rattle.std.proofs.Common.{[], sym}
use Rattle.std.proofs.lemmas.List.{append-nil}
use Rattle.brd_trace.proofs.tracer.Tracer.advance_some.Goals as goal

-- Where many events were passed, nothing is put at the end.
pub returns-then-pass-gt0-clause-told : goal.returns-then-pass-gt0-clause-told
returns-then-pass-gt0-clause-told c = λ boot is. record {
  text = [];
  is_it = c.pass.ensures.told c.args.manner boot c.args.journal.now.events c.in-Some.ensures.comes is;
  behind = sym (append-nil c.args.out.now.items);
}
