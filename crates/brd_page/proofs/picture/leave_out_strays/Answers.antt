use Rattle.std.proofs.Common.{rules}
use Rattle.std.proofs.lemmas.Fn.{filter_same}
use Rattle.brd_page.proofs.picture.leave_out_strays.Goals as goal

pub returns-clause-slices : goal.returns-clause-slices
returns-clause-slices c = filter_same _ _ _ (λ x b f' k. search rules) _ _ c.retain.ensures.filtered
