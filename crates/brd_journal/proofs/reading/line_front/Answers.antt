use Rattle.std.proofs.Common.{ℕ, List, Option, Bor, ap}
use Rattle.std.specs.Prelude.{option_map}
use Rattle.brd_journal.proofs.FrontLemmas.{front_line, front_wrong}
use Rattle.brd_journal.proofs.reading.line_front.Goals as goal

pub returns-in-Some-run_of_line-clause-reads : goal.returns-in-Some-run_of_line-clause-reads
returns-in-Some-run_of_line-clause-reads c =
    front_line c.args.text.now c.split_line.result.0.now c.in-Some.after _ c.in-Some-run_of_line.run' c.split_line.ensures.lines
    (ap (λ (o : Option (Bor (List ℕ))). option_map (λ behind. behind.now) o) c.in-Some.is) c.in-Some-run_of_line.ensures

pub returns-in-None-clause-reads : goal.returns-in-None-clause-reads
returns-in-None-clause-reads c =
    front_wrong c.args.text.now c.split_line.result.0.now c.in-Some.after.now _ c.split_line.ensures.lines
    (ap (λ (o : Option (Bor (List ℕ))). option_map (λ behind. behind.now) o) c.in-Some.is) c.in-None.ensures
