use Rattle.std.proofs.Common.{◌≡◌, ◌+◌, ◌<◌, length, refl, subst, arith}
use Rattle.std.specs.Prelude.{true, IfSome}
use Rattle.brd_explore.specs.Shrinking.{is_failing, without}
use Rattle.brd_explore.proofs.PartLemmas.{part-self, part-left-out}
use Rattle.brd_explore.proofs.ShrinkLemmas.{left-fails}
use Rattle.brd_explore.proofs.shrinking.leave_out_each.Goals as goal

pub loop-at-init : goal.loop-at-init
loop-at-init c = record { fails = c.requires.fails; part = part-self c.args.events.now.items; alike = c.requires.alike }

pub loop-at-preserved : goal.loop-at-preserved
loop-at-preserved c =
    let some = subst (λ found. IfSome found (λ at. (at < length c.as_slice.result.now)
    × (is_failing c.args.wanted.now c.args.board.now (without c.as_slice.result.now at (at + 1)) ≡ true))) c.in-Some.is c.in_ok-at.ensures.some in
    record {
      fails = left-fails c.args.wanted.now c.args.board.now c.as_slice.result.now c.loop-at.events.items c.leave_out.new.events.items c.in-Some.at
          (c.in-Some.at + 1) (is_failing c.args.wanted.now c.args.board.now (without c.as_slice.result.now c.in-Some.at (c.in-Some.at + 1)))
          c.as_slice.ensures.value refl some.1 c.in_ok-leave_out.ensures.ok;
      part = part-left-out c.leave_out.new.events.items c.loop-at.events.items c.args.events.now.items c.in-Some.at (c.in-Some.at + 1)
          (omega arith) c.in_ok-leave_out.ensures.ok c.loop-at.invariant.part;
      alike = c.needless.ensures.alike;
    }
