use Rattle.std.proofs.Common.{List, ◌++◌, sym, ap, ◌∙◌}
use Rattle.std.specs.Prelude.{codes}
use Rattle.std.specs.List.{flat_map}
use Rattle.std.proofs.lemmas.Result.{on_ok_weaker}
use Rattle.brd_verdicts.specs.declared.units.Unit.{Unit}
use Rattle.brd_summary.specs.Findings.{holder_text, holders_text}
use Rattle.brd_summary.proofs.SummaryLemmas.{two-behind}
use Rattle.brd_summary.proofs.findings.put_holders.Goals as goal

pub returns : goal.returns
returns c =
    let first = c.in-Some.first.now in
    let more = c.in-Some.more.now in
    let out = c.args.out.now.items in
    on_ok_weaker c.put_more_holders.result
    (λ is.
    two-behind out c.put_holder.new.out.items c.put_more_holders.new.out.items (holder_text (codes ", which task") first)
    (flat_map (holder_text (codes " and task")) more) c.in_ok-put_holder.ensures is
    ∙ ap (λ (us : List Unit). out ++ holders_text us) (sym c.in-Some.ensures.cases.0))
    c.put_more_holders.ensures
