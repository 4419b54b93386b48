use Rattle.std.proofs.Common.{◌≡◌, List, sym, arith, subst}
use Rattle.std.specs.Prelude.{IfOk}
use Rattle.std.specs.List.{All}
use Rattle.brd_lazy.specs.declared.finds.Find.{Find}
use Rattle.brd_lazy.specs.declared.twins.Twin.{Twin}
use Rattle.brd_reach.specs.Rounds.{sharing_for}
use Rattle.brd_lazy.specs.Finds.{GoneSo, IsTwin}
use Rattle.brd_lazy.proofs.round.visit_many.Goals as goal

pub join_many-requires : goal.join_many-requires
join_many-requires g c =
    subst (λ (ts : List Twin). All (IsTwin c.args.spots.now c.in_ok-part.part.finds.items) ts) (sym c.as_slice-2.ensures.value)
    (subst (λ (fs : List Find). All (IsTwin c.args.spots.now fs) c.in_ok-twins.twins.items) c.as_slice.ensures.value c.in_ok-twins.ensures)

pub returns-clause-so : goal.returns-clause-so
returns-clause-so g c =
    let by = sharing_for c.args.sharing.now c.args.wanted.now in
    let first : c.in_ok-part.part.from ≡ c.args.from = omega (arith, c.if-part-from.false) in
    let last : c.in_ok-part.part.upto ≡ c.args.upto = omega (arith, c.if-part-upto.false) in
    subst (λ n. IfOk c.join_many.result (GoneSo by c.args.among.now c.args.wanted.now c.args.spots.now c.join_many.new.spots n c.args.upto)) first
    (subst (λ n. IfOk c.join_many.result (GoneSo by c.args.among.now c.args.wanted.now c.args.spots.now c.join_many.new.spots c.in_ok-part.part.from n)) last
    (c.join_many.ensures.so by c.args.among.now c.args.wanted.now (c.in_ok-part.ensures by c.args.among.now c.args.wanted.now c.args.spots.now c.in_ok-parts.ensures)))
