use Rattle.std.proofs.Common.{sym, ◌∙◌, arith}
use Rattle.std.proofs.lemmas.List.Sums.{prefix_len-le-length}
use Rattle.brd_text.specs.Bytes.{is_run_byte}
use Rattle.brd_source.proofs.Runs.{run_front, percent_front}
use Rattle.brd_source.proofs.scanner.token_at.Goals as goal

pub split_at-requires : goal.split_at-requires
split_at-requires c = omega (arith, prefix_len-le-length is_run_byte c.args.line.now, c.run_len.ensures)

pub returns-then-is_run_byte-clause-front : goal.returns-then-is_run_byte-clause-front
returns-then-is_run_byte-clause-front c =
    rw (c.split_at.ensures.front, c.split_at.ensures.back)
    (run_front c.in-Some.byte.now c.run_len.result c.args.line.now c.in-Some.after.now c.in-Some.ensures.cases.0 (sym c.is_run_byte.ensures ∙ c.if-is_run_byte.true) c.run_len.ensures)

pub split_at-requires-then-byte-eq37 : goal.split_at-requires-then-byte-eq37
split_at-requires-then-byte-eq37 c = omega (arith, prefix_len-le-length is_run_byte c.in-Some.after.now, c.run_len-then-byte-eq37.ensures)

pub returns-then-byte-eq37-clause-front : goal.returns-then-byte-eq37-clause-front
returns-then-byte-eq37-clause-front c =
    rw (c.split_at-then-byte-eq37.ensures.front, c.split_at-then-byte-eq37.ensures.back)
    (percent_front c.in-Some.byte.now c.run_len-then-byte-eq37.result c.args.line.now c.in-Some.after.now c.in-Some.ensures.cases.0 c.if-byte-eq37.true c.run_len-then-byte-eq37.ensures)
