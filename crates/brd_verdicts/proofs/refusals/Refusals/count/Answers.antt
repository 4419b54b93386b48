use Rattle.std.proofs.Common.{◌≡◌, List, subst}
use Rattle.std.proofs.lemmas.Result.{on_ok_weaker}
use Rattle.std.specs.List.{position}
use Rattle.brd_verdicts.specs.declared.refusals.Refused.{Refused}
use Rattle.brd_verdicts.specs.Changed.{old_at}
use Rattle.brd_verdicts.specs.Refusals.{counted, one_more, same_kind}
use Rattle.brd_verdicts.proofs.ChangedLemmas.{changed-by}
use Rattle.brd_verdicts.proofs.refusals.Refusals.count.Goals as goal

pub returns : goal.returns
returns c =
    let new : Refused = c.args.new in
    let items : List Refused = c.self.inside.kinds.items in
    let found = subst (λ (ks : List Refused). c.kind_of-at.result ≡ position (λ old. same_kind old new) ks)
    c.as_slice-kinds.ensures.value c.kind_of-at.ensures in
    let was = subst (λ (ks : List Refused). c.old_at-old.result ≡ old_at c.kind_of-at.result new ks)
    c.as_slice-kinds.ensures.value c.old_at-old.ensures in
    on_ok_weaker c.put_at.result
    (λ is. subst (λ (ks : List Refused). c.put_at.new.items.items ≡ counted new ks) c.self.view_is
    (changed-by (λ (old : Refused). same_kind old new) one_more new items c.put_at.new.items.items
    c.kind_of-at.result c.old_at-old.result c.one_more.result found was c.one_more.ensures is)) c.put_at.ensures
