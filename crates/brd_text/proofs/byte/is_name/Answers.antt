use Rattle.std.proofs.Common.{sym, ◌∙◌}
use Rattle.brd_text.proofs.Runs.{name_front}
use Rattle.brd_text.proofs.byte.is_name.Goals as goal

pub returns-then-begins_name : goal.returns-then-begins_name
returns-then-begins_name c = name_front c.in-Some.first.now c.run_len.result c.args.text.now c.in-Some.others.now c.in-Some.ensures.cases.0 (sym c.begins_name.ensures ∙ c.if-begins_name.true) c.run_len.ensures
