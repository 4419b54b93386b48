use Rattle.std.proofs.Common.{refl, sym, subst, ◌∙◌, arith}
use Rattle.std.specs.Prelude.{Decides}
use Rattle.std.proofs.lemmas.Bool.{false≢true}
use Rattle.brd_threads.specs.Races.{AreCounted, AreMet, HasRaced}
use Rattle.brd_threads.specs.Station.{StationState}
use Rattle.brd_threads.proofs.RaceLemmas.{are_within, has_raced, not_of, not_over}
use Rattle.brd_threads.proofs.ended.left.Goals.{else-is_own-via-then-is_own+else-is_over, else-is_own-via-else-is_own}
use Rattle.brd_threads.proofs.ended.left.Goals as goal

pub returns-then-is_over : goal.returns-then-is_over
returns-then-is_over g c =
    let same = c.are_met-met.ensures.same in
    let counted : AreCounted c.args.workers.items c.are_met-met.new.station = rw same c.are_met-met.ensures.counted in
    let over = c.is_over.ensures.over c.if-is_over.true in (
      same,
      counted,
      has_raced (c.is_of-is_own.ensures.0 c.if-is_own.true) c.is_over.ensures.order c.is_over.ensures.taken
          (are_within c.args.quotas.now c.args.workers.items c.are_met-met.new.station (omega (arith, c.requires.each)) c.requires.worked counted)
          (λ on. (over on).1) (λ on. rw same (c.are_met-met.ensures.met.0 (over on).0)),
    )

pub returns-else-is_own : goal.returns-else-is_own
returns-else-is_own g c =
    let same = c.are_met-met.ensures.same in
    let decides : Decides c.are_met-met.result (AreMet c.args.quotas.now c.are_met-met.new.station) = rw same c.are_met-met.ensures.met in
    let Has : StationState → Type 0 = HasRaced c.args.boot.now c.args.script.now c.args.quotas.now c.args.limit in (
      refl,
      subst (λ (station : StationState). Has station → ⊥) same
          (elim c.else-is_own.branch [
            | else-is_own-via-then-is_own+else-is_over w ↦
                not_over c.are_met-met.result decides (w.is_over.ensures.not w.if-is_over.false).0 (w.is_over.ensures.not w.if-is_over.false).1
            | else-is_own-via-else-is_own w ↦
                not_of (λ is. false≢true (sym w.if-is_own.false ∙ c.is_of-is_own.ensures.1 is))
          ]),
    )
