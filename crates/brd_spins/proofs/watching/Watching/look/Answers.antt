use Rattle.std.proofs.Common.{◌≡◌, ◌+◌, ◌<◌, length, sym, ap, subst, ◌∙◌, arith}
use Rattle.std.specs.Prelude.{Some, slice_get, slice_set}
use Rattle.std.proofs.lemmas.List.{length-set}
use Rattle.brd_journal.specs.declared.playback.Playback.{Playback}
use Rattle.brd_spins.specs.declared.spin.Turning.{Turning}
use Rattle.brd_spins.specs.Since.{AreSeen}
use Rattle.brd_spins.proofs.StateLemmas.{get-at}
use Rattle.brd_spins.proofs.WatchLemmas.{rest-away, seen-away, seen-there}
use Rattle.brd_spins.proofs.watching.Watching.look.Goals as goal

pub loop-i-preserved : goal.loop-i-preserved
loop-i-preserved c =
    let first = c.args.self.now in
    let turnings = c.args.turnings.now in
    let old = c.loop-i.self in
    let i = c.loop-i.i in
    let it : Turning = c.index-turnings-i.result in
    let here : slice_get turnings i ≡ Some it = get-at turnings it i c.loop-i-test.true ∙ ap Some (sym c.index-turnings-i.is) in
    let less : i < length old.lefts = omega (arith, c.loop-i.invariant.eight, c.loop-i-test.true, c.requires.few) in
    let same = c.loop-i.invariant.same in
    record {
      same = same;
      eight = length-set old.lefts i (Some old.playback.at) ∙ c.loop-i.invariant.eight;
      seen = subst (λ (p : Playback). AreSeen p.board turnings (i + 1) p.at first.lefts (slice_set old.lefts i (Some old.playback.at))) same
          (seen-away old.playback.board turnings i old.playback.at first.lefts old.lefts it
          (subst (λ (p : Playback). AreSeen p.board turnings i p.at first.lefts old.lefts) (sym same) c.loop-i.invariant.seen) here less
          (c.is_away.ensures.away c.if-not-is_away.false));
      rest = rest-away i old.playback.at first.lefts old.lefts c.loop-i.invariant.rest;
    }

pub loop-i-preserved-then-not-is_away : goal.loop-i-preserved-then-not-is_away
loop-i-preserved-then-not-is_away c =
    let first = c.args.self.now in
    let turnings = c.args.turnings.now in
    let old = c.loop-i.self in
    let i = c.loop-i.i in
    let it : Turning = c.index-turnings-i.result in
    let here : slice_get turnings i ≡ Some it = get-at turnings it i c.loop-i-test.true ∙ ap Some (sym c.index-turnings-i.is) in
    let same = c.loop-i.invariant.same in
    record {
      same = same;
      eight = c.loop-i.invariant.eight;
      seen = subst (λ (p : Playback). AreSeen p.board turnings (i + 1) p.at first.lefts old.lefts) same
          (seen-there old.playback.board turnings i old.playback.at first.lefts old.lefts it
          (subst (λ (p : Playback). AreSeen p.board turnings i p.at first.lefts old.lefts) (sym same) c.loop-i.invariant.seen) here
          (c.loop-i.invariant.rest i (omega arith)) (c.is_away.ensures.there c.if-not-is_away.true));
      rest = λ place behind. c.loop-i.invariant.rest place (omega (arith, behind));
    }
