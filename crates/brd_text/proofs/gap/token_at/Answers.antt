use Rattle.std.proofs.Common.{sym, ◌∙◌, arith}
use Rattle.std.proofs.lemmas.List.Sums.{prefix_len-le-length}
use Rattle.brd_text.specs.Bytes.{is_run_byte}
use Rattle.brd_text.proofs.Runs.{run_front, mark_front}
use Rattle.brd_text.proofs.gap.token_at.Goals as goal

pub split_at-requires : goal.split_at-requires
split_at-requires c = omega (arith, prefix_len-le-length is_run_byte c.args.text.now, c.run_len.ensures)

pub returns-then-is_run_byte-clause-token : goal.returns-then-is_run_byte-clause-token
returns-then-is_run_byte-clause-token c =
    rw (c.split_at.ensures.front, c.split_at.ensures.back)
    (run_front c.in-Some.byte.now c.run_len.result c.args.text.now c.in-Some.after.now c.in-Some.ensures.cases.0 (sym c.is_run_byte.ensures ∙ c.if-is_run_byte.true) c.run_len.ensures)

pub returns-clause-token : goal.returns-clause-token
returns-clause-token c = mark_front c.in-Some.byte.now c.args.text.now c.in-Some.after.now c.in-Some.ensures.cases.0 (sym c.is_run_byte.ensures ∙ c.if-is_run_byte.false) c.requires
