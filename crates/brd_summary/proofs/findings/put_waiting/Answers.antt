use Rattle.std.proofs.Common.{ℕ, List, ◌++◌, ap, ◌∙◌}
use Rattle.std.specs.Prelude.{codes}
use Rattle.std.specs.List.{filter}
use Rattle.std.proofs.lemmas.Result.{on_ok_weaker}
use Rattle.brd_names.specs.Lines.{named_text}
use Rattle.brd_verdicts.specs.declared.units.Unit.{Unit}
use Rattle.brd_verdicts.specs.Circle.{is_of}
use Rattle.brd_summary.specs.Findings.{holders_text, lock_text}
use Rattle.brd_summary.proofs.SummaryLemmas.{two-behind}
use Rattle.brd_summary.proofs.findings.put_waiting.Goals as goal

pub returns : goal.returns
returns c =
    let wait = c.args.wait in
    let out = c.args.out.now.items in
    let one = c.put_named.new.out.items in
    let two = c.put_lock.new.out.items in
    let task = named_text (codes "task") wait.task in
    let lock = lock_text wait.lock in
    let held = filter (is_of wait) c.args.units.now in
    on_ok_weaker c.put_holders.result
    (λ is.
    two-behind out two c.put_holders.new.out.items (task ++ lock) (holders_text held)
    (two-behind out one two task lock
    (c.in_ok-put_named.ensures ∙ ap (λ (n : ℕ). out ++ named_text (codes "task") n) c.from.ensures)
    c.in_ok-put_lock.ensures)
    (is ∙ ap (λ (us : List Unit). two ++ holders_text us) (c.as_slice.ensures ∙ c.in_ok-held.ensures)))
    c.put_holders.ensures
