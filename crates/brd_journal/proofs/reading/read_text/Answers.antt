use Rattle.std.proofs.Common.{ℕ, List, Option, Bor, ap, sym}
use Rattle.std.specs.Prelude.{option_map}
use Rattle.std.proofs.lemmas.Result.{err_from_is_err_and}
use Rattle.brd_journal.proofs.LineLemmas.{behind_first}
use Rattle.brd_journal.proofs.reading.read_text.Goals as goal

pub returns-in_err-read_lines : goal.returns-in_err-read_lines
returns-in_err-read_lines c =
    let same = behind_first c.args.limit c.in-Some-order_of_line.order c.args.text.now c.split_line.result.0.now c.in-Some.rest.now _ c.split_line.ensures.lines
    (ap (λ (o : Option (Bor (List ℕ))). option_map (λ behind. behind.now) o) c.in-Some.is) (sym c.in-Some-order_of_line.ensures) in
    let p = err_from_is_err_and c.from_residual.result c.from_residual.ensures.1 in
    rw (p.1, p.2, same) (rw c.new-journal.ensures at c.in_err-read_lines.ensures)
