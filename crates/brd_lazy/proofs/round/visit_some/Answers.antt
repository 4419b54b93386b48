use Rattle.std.proofs.Common.{◌≡◌, arith, subst}
use Rattle.std.specs.Prelude.{IfOk}
use Rattle.brd_reach.specs.Rounds.{sharing_for}
use Rattle.brd_lazy.specs.Finds.{GoneSo}
use Rattle.brd_lazy.proofs.round.visit_some.Goals as goal

pub returns-clause-so : goal.returns-clause-so
returns-clause-so g c =
    let by = sharing_for c.args.sharing.now c.args.wanted.now in
    let first : c.in_ok-part.part.from ≡ c.args.from = omega (arith, c.if-part-from.false) in
    let last : c.in_ok-part.part.upto ≡ c.args.upto = omega (arith, c.if-part-upto.false) in
    subst (λ n. IfOk c.join_one.result (GoneSo by c.args.among.now c.args.wanted.now c.args.spots.now c.join_one.new.spots n c.args.upto)) first
    (subst (λ n. IfOk c.join_one.result (GoneSo by c.args.among.now c.args.wanted.now c.args.spots.now c.join_one.new.spots c.in_ok-part.part.from n)) last
    (c.join_one.ensures.so by c.args.among.now c.args.wanted.now c.in_ok-part.ensures))
