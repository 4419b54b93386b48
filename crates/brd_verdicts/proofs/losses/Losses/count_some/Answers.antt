use Rattle.std.proofs.Common.{◌≡◌, List, subst}
use Rattle.std.proofs.lemmas.Result.{on_ok_weaker}
use Rattle.std.specs.Prelude.{◌==◌}
use Rattle.std.specs.List.{position}
use Rattle.brd_verdicts.specs.declared.losses.LostRaises.{LostRaises}
use Rattle.brd_verdicts.specs.Changed.{old_at}
use Rattle.brd_verdicts.specs.Losses.{lost_with, more_lost}
use Rattle.brd_verdicts.proofs.ChangedLemmas.{changed-by}
use Rattle.brd_verdicts.proofs.losses.Losses.count_some.Goals as goal

pub returns : goal.returns
returns c =
    let new : LostRaises = c.args.new in
    let items : List LostRaises = c.self.inside.lines.items in
    let found = subst (λ (ls : List LostRaises). c.place_of-at.result ≡ position (λ old. old.line == new.line) ls)
    c.as_slice-lines.ensures.value c.place_of-at.ensures in
    let was = subst (λ (ls : List LostRaises). c.old_at-old.result ≡ old_at c.place_of-at.result new ls)
    c.as_slice-lines.ensures.value c.old_at-old.ensures in
    on_ok_weaker c.put_at.result
    (λ is. subst (λ (ls : List LostRaises). c.put_at.new.items.items ≡ lost_with new ls) c.self.view_is
    (changed-by (λ (old : LostRaises). old.line == new.line) (more_lost new.count) new items c.put_at.new.items.items
    c.place_of-at.result c.old_at-old.result c.more_lost.result found was c.more_lost.ensures is)) c.put_at.ensures
