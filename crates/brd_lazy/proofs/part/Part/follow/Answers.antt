use Rattle.std.proofs.Common.{◌++◌, ap, ◌∙◌, arith}
use Rattle.brd_lazy.proofs.FoundLemmas.{part-follows}
use Rattle.brd_lazy.proofs.part.Part.follow.Goals as goal

pub returns : goal.returns
returns c = λ by among wanted spots one other.
    part-follows by among wanted spots c.args.self.now.finds.items c.args.part.finds.items c.extend_from_slice.new.self.items
    c.args.self.now.from c.args.self.now.upto c.args.part.from c.args.part.upto c.args.self.now.came c.args.part.came c.requires
    (omega (arith, c.if-part-self.false))
    (c.in_ok-extend_from_slice.ensures.items ∙ ap (λ them. c.args.self.now.finds.items ++ them) c.as_slice.ensures.value) one other
