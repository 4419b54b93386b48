use Rattle.std.proofs.Common.{◌<◌, length, take, ap, sym, ◌∙◌, arith}
use Rattle.std.proofs.lemmas.List.{take_more_set}
use Rattle.brd_debug.specs.Marks.{is_marked}
use Rattle.brd_debug.proofs.MarkLemmas.{marked-last}
use Rattle.brd_debug.proofs.marks.Marks.add.Goals as goal

pub returns-clause-added : goal.returns-clause-added
returns-clause-added c =
    let within : c.self.inside.count < length c.self.inside.addresses = omega (arith, c.self.invariant, c.if-self-most.false, c.self.ranges) in
    marked-last (take c.self.inside.count c.self.inside.addresses) c.args.address
    ∙ ap (λ marks. is_marked marks c.args.address) (sym (take_more_set c.self.inside.addresses c.self.inside.count c.args.address within))
