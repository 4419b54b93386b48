use Rattle.std.proofs.Common.{◌≡◌, ◌+◌, ◌<◌, ◌++◌, List, length, length-append, take, true, sym, ap, ◌∙◌, subst, arith}
use Rattle.std.proofs.lemmas.Result.{on_ok_weaker}
use Rattle.brd_board.specs.Board.{happens}
use Rattle.brd_journal.specs.Still.{does_no_more}
use Rattle.brd_journal.proofs.PlayingLemmas.{first-board}
use Rattle.brd_order.specs.declared.deed.Deed.{Deed}
use Rattle.brd_order.specs.After.{IsAfter}
use Rattle.brd_order.specs.Refusals.{IsKept, MayRefuse}
use Rattle.brd_deeds.specs.declared.log.Log.{Log}
use Rattle.brd_deeds.specs.Deeds.{deeds_in, deeds_of_run, and_then}
use Rattle.brd_deeds.specs.Racing.{deeds_up_to}
use Rattle.brd_deeds.proofs.RacingLemmas.{deeds-on, deeds-told, run-more, refuses-later, if_err_weaker, on_ok_both}
use Rattle.brd_deeds.proofs.racing.Racing.advance_in.Goals as goal

pub returns-clause-raced : goal.returns-clause-raced
returns-clause-raced c = λ queues boot events within comes is.
    let board = c.args.self.now.playback.board in
    let position = c.args.self.now.playback.at in
    let event = c.args.rest.event in
    let moved = c.advance-moved.result in
    let next = c.advance-moved.new.self in
    let goes = c.advance-moved.ensures.goes in
    let old = deeds_up_to queues boot events position in
    let log = c.put_event.new.self in
    let over : 1 < moved.count → does_no_more event (happens board event).report ≡ true =
    λ more. ap (does_no_more event) (sym c.advance-moved.ensures.report) ∙ c.advance-moved.ensures.over (omega (arith, more, goes.2)) in
    let leaves : next.board ≡ (happens board event).board = first-board board next.board event moved.count goes.0 over c.advance-moved.ensures.board in
    let told : log ≡ deeds_in position old.past board event =
    deeds-told board event position c.args.self.now.log.past old.past c.in-Ok.before moved.report next.board c.in_ok-told.told log c.in-Ok.ensures
    c.advance-moved.ensures.report leaves c.in_ok-told.ensures.is is.past c.in_ok-put_event.ensures in
    let path : deeds_up_to queues boot events next.at ≡ and_then old log =
    ap (deeds_up_to queues boot events) goes.2
    ∙ deeds-on queues boot board events position moved.count c.args.rest is.played.board is.played.within comes goes.0 goes.1 over
    ∙ ap (λ (it : Log). and_then old it) (sym told) in
    let deeds : (deeds_up_to queues boot events next.at).deeds ≡ old.deeds ++ c.as_slice.result.now =
    ap (λ (it : Log). it.deeds) path ∙ ap (λ (ds : List Deed). old.deeds ++ ds) (sym c.as_slice.ensures) in
    let many : length (deeds_up_to queues boot events next.at).deeds ≡ length old.deeds + length c.as_slice.result.now =
    ap length deeds ∙ length-append old.deeds c.as_slice.result.now in
    on_ok_weaker c.take_all.result
    (λ both. record {
      played = c.advance-moved.ensures.played boot events within comes is.played;
      past = sym (ap (λ (it : Log). it.past) path);
      order = subst (λ (ds : List Deed). IsAfter ds c.take_all.new.order) (sym deeds) both.0;
      kept = subst (λ n. IsKept n c.take_all.new.order) (sym many) both.1;
    })
    (on_ok_both _ _ c.take_all.result (c.take_all.ensures.after old.deeds is.order)
    (c.take_all.ensures.kept (length old.deeds) is.kept))

pub returns-clause-refuses : goal.returns-clause-refuses
returns-clause-refuses c = λ queues boot events within comes is.
    let board = c.args.self.now.playback.board in
    let position = c.args.self.now.playback.at in
    let event = c.args.rest.event in
    let moved = c.advance-moved.result in
    let next = c.advance-moved.new.self in
    let goes = c.advance-moved.ensures.goes in
    let old = deeds_up_to queues boot events position in
    let log = c.put_event.new.self in
    let over : 1 < moved.count → does_no_more event (happens board event).report ≡ true =
    λ more. ap (does_no_more event) (sym c.advance-moved.ensures.report) ∙ c.advance-moved.ensures.over (omega (arith, more, goes.2)) in
    let leaves : next.board ≡ (happens board event).board = first-board board next.board event moved.count goes.0 over c.advance-moved.ensures.board in
    let told : log ≡ deeds_in position old.past board event =
    deeds-told board event position c.args.self.now.log.past old.past c.in-Ok.before moved.report next.board c.in_ok-told.told log c.in-Ok.ensures
    c.advance-moved.ensures.report leaves c.in_ok-told.ensures.is is.past c.in_ok-put_event.ensures in
    let path : deeds_up_to queues boot events next.at ≡ and_then old log =
    ap (deeds_up_to queues boot events) goes.2
    ∙ deeds-on queues boot board events position moved.count c.args.rest is.played.board is.played.within comes goes.0 goes.1 over
    ∙ ap (λ (it : Log). and_then old it) (sym told) in
    let deeds : (deeds_up_to queues boot events next.at).deeds ≡ old.deeds ++ c.as_slice.result.now =
    ap (λ (it : Log). it.deeds) path ∙ ap (λ (ds : List Deed). old.deeds ++ ds) (sym c.as_slice.ensures) in
    let many : length (deeds_up_to queues boot events next.at).deeds ≡ length old.deeds + length c.as_slice.result.now =
    ap length deeds ∙ length-append old.deeds c.as_slice.result.now in
    if_err_weaker c.take_all.result
    (λ fault may. refuses-later (length (deeds_up_to queues boot events next.at).deeds) (length (deeds_of_run queues boot (take next.at events))) fault
    (run-more queues boot events next.at) (subst (λ n. MayRefuse n fault) (sym many) may))
    (c.take_all.ensures.refuses (length old.deeds) is.kept)
