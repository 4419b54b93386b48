use Rattle.std.proofs.Common.{sym, subst}
use Rattle.std.specs.Prelude.{All}
use Rattle.brd_explore.specs.Knowing.{IsPending}
use Rattle.brd_explore.proofs.KnownLemmas.{settled-one, pending-popped}
use Rattle.brd_explore.proofs.known.Known.settle.Goals as goal

pub loop-kept-preserved : goal.loop-kept-preserved
loop-kept-preserved c = record {
  done = λ wanted among done over. settled-one wanted among c.args.height c.loop-kept.self c.next_over.new.self c.keep.new.self c.in-Some.kept
      c.in-Some.ensures.some.0 c.in-Some.ensures.some.1 c.in-Some.ensures.done c.keep.ensures.pending (c.keep.ensures.done wanted among)
      (c.loop-kept.invariant.done wanted among done over);
  pending = λ wanted among search pending. pending-popped wanted among search c.loop-kept.self c.next_over.new.self c.keep.new.self c.in-Some.kept
      c.in-Some.ensures.some.0 c.keep.ensures.pending (c.loop-kept.invariant.pending wanted among search pending);
}

pub returns-clause-pending : goal.returns-clause-pending
returns-clause-pending c = λ wanted among search pending.
    subst (All (IsPending wanted among search)) (sym c.in_default.ensures.none) (c.loop-kept.invariant.pending wanted among search pending)
