use Rattle.std.proofs.Common.{◌≡◌, ◌++◌, List, length, length-append, take, sym, ap, ◌∙◌, subst}
use Rattle.brd_order.specs.declared.deed.{Deed.Deed, Race.Race}
use Rattle.brd_order.specs.After.{IsAfter}
use Rattle.brd_order.specs.Races.{AreRaces}
use Rattle.brd_order.specs.Refusals.{MayRefuse}
use Rattle.brd_deeds.specs.Deeds.{deeds_of_run}
use Rattle.brd_deeds.specs.Trails.{settles_below}
use Rattle.brd_deeds.specs.Racing.{deeds_up_to}
use Rattle.brd_deeds.proofs.RacingLemmas.{run-deeds}
use Rattle.brd_deeds.proofs.racing.Racing.finish.Goals as goal

pub returns-clause-races : goal.returns-clause-races
returns-clause-races c = λ queues boot events is.
    let at = c.args.self.playback.at in
    let past = c.args.self.log.past in
    let old = deeds_up_to queues boot events at in
    let run : deeds_of_run queues boot (take at events) ≡ old.deeds ++ c.as_slice.result.now =
    run-deeds queues boot events at past c.settle_all.new.self is.past
    (c.in_ok-settle_all.ensures ∙ ap (λ (ds : List Deed). settles_below 416 (record { past = past; deeds = ds })) c.new.ensures)
    ∙ ap (λ (ds : List Deed). old.deeds ++ ds) (sym c.as_slice.ensures) in
    subst (λ (races : List Race). AreRaces (deeds_of_run queues boot (take at events)) races) (sym c.in_ok-races.ensures)
    (c.races.ensures (deeds_of_run queues boot (take at events))
    (subst (λ (ds : List Deed). IsAfter ds c.take_all.new.order) (sym run) (c.in-Ok.ensures.after old.deeds is.order)))

pub returns-in-Err-clause-refuses : goal.returns-in-Err-clause-refuses
returns-in-Err-clause-refuses c = λ queues boot events is.
    let at = c.args.self.playback.at in
    let past = c.args.self.log.past in
    let old = deeds_up_to queues boot events at in
    let run : deeds_of_run queues boot (take at events) ≡ old.deeds ++ c.as_slice.result.now =
    run-deeds queues boot events at past c.settle_all.new.self is.past
    (c.in_ok-settle_all.ensures ∙ ap (λ (ds : List Deed). settles_below 416 (record { past = past; deeds = ds })) c.new.ensures)
    ∙ ap (λ (ds : List Deed). old.deeds ++ ds) (sym c.as_slice.ensures) in
    subst (λ n. MayRefuse n c.in-Err.fault) (sym (ap length run ∙ length-append old.deeds c.as_slice.result.now))
    (c.in-Err.ensures.refuses (length old.deeds) is.kept)
