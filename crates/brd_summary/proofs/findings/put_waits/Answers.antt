use Rattle.std.proofs.Common.{List, ◌++◌, sym, ap, ◌∙◌}
use Rattle.std.specs.Prelude.{codes}
use Rattle.std.specs.List.{flat_map}
use Rattle.std.proofs.lemmas.Result.{on_ok_weaker}
use Rattle.brd_verdicts.specs.declared.circle.Wait.{Wait}
use Rattle.brd_summary.specs.Findings.{circle_text, next_text, wait_text}
use Rattle.brd_summary.proofs.SummaryLemmas.{two-behind}
use Rattle.brd_summary.proofs.findings.put_waits.Goals as goal

pub returns : goal.returns
returns c =
    let units = c.args.units.now in
    let first = c.in-Some.first.now in
    let more = c.in-Some.more.now in
    let a = c.args.out.now.items in
    let b = c.put.new.out.items in
    let d = c.put_waiting.new.out.items in
    let e = c.put_more_waits.new.out.items in
    let f = c.put-2.new.out.items in
    let t1 = codes "circular wait: " in
    let t2 = t1 ++ wait_text units first in
    let t3 = t2 ++ flat_map (next_text units) more in
    on_ok_weaker c.put-2.result
    (λ is.
    two-behind a e f t3 (codes "\n")
    (two-behind a d e t2 (flat_map (next_text units) more)
    (two-behind a b d t1 (wait_text units first) c.in_ok-put.ensures.is c.in_ok-put_waiting.ensures)
    c.in_ok-put_more_waits.ensures)
    is
    ∙ ap (λ (ws : List Wait). a ++ circle_text units ws) (sym c.in-Some.ensures.cases.0))
    c.put-2.ensures.is
