use Rattle.std.proofs.Common.{◌≡◌, ◌++◌, List, refl, ap, ◌∙◌, subst}
use Rattle.std.specs.List.{flat_map}
use Rattle.brd_verdicts.specs.declared.losses.LostRaises.{LostRaises}
use Rattle.brd_verdicts.specs.declared.refusals.Refused.{Refused}
use Rattle.brd_summary.specs.Findings.{IsRefused, lost_text}
use Rattle.brd_summary.specs.Texts.{AreTexts}
use Rattle.brd_summary.proofs.SummaryLemmas.{two-behind}
use Rattle.brd_summary.proofs.findings.put_findings.Goals as goal

pub returns : goal.returns
returns c =
    let names = c.args.names in
    let circle = c.in_ok-put_circle.ensures in
    let refused = c.in_ok-put_refusals.ensures in
    let lost = flat_map lost_text c.args.accounts.now.lost in
    let a = c.args.out.now.items in
    let b = c.put_circle.new.out.items in
    let d = c.put_refusals.new.out.items in
    let e = c.put_losses.new.out.items in
    record {
      text = circle.text ++ refused.text ++ lost;
      is_it = record {
        circle = circle.text;
        refused = refused.text;
        is_circle = circle.is_it;
        are_refused = subst (λ (ks : List Refused). AreTexts (IsRefused names) ks refused.text) c.as_slice.ensures
            refused.is_it;
        is = refl;
      };
      behind =
          two-behind a d e (circle.text ++ refused.text) lost
          (two-behind a b d circle.text refused.text circle.behind refused.behind)
          (c.in_ok-put_losses.ensures
          ∙ ap (λ (ls : List LostRaises). d ++ flat_map lost_text ls) c.as_slice-2.ensures);
    }
