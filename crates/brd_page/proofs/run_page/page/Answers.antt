use Rattle.std.proofs.Common.{◌≡◌, ◌∙◌, ℕ, List, sym, subst, arith}
use Rattle.std.proofs.lemmas.Bool.Decides.{nat_tests}
use Rattle.brd_page.specs.Events.{IsDataUpTo}
use Rattle.brd_page.specs.Picture.{IsDrawn}
use Rattle.brd_page.proofs.RunLemmas.{data-ends}
use Rattle.brd_page.proofs.run_page.page.Goals as goal

-- The run is recorded up to the end of the part; the picture and the data are of that.
pub returns-clause-page : goal.returns-clause-page
returns-clause-page c = λ boot played noted.
    let events = c.args.part.journal.now.events in
    let from = c.args.tracer.playback.at in
    let to = c.args.part.to in
    let it = c.put_events.new.recorder in
    let all = c.in_ok-put_events.ensures.recorded boot from (c.in_ok-recorder.ensures.recorded boot events played noted) in
    let ends : it.playback.at ≡ to = c.in_ok-put_events.ensures.at in
    let traced : it.tracer.playback.at ≡ to = c.in_ok-put_events.ensures.both ∙ ends in
    let drawn = subst (λ (n : ℕ). IsDrawn boot events from n c.in_ok-picture.picture.items) traced
    (c.in_ok-picture.ensures boot events from all.traced all.noted all.begun) in
    let told = subst (λ (n : ℕ). IsDataUpTo boot events from n it.text) ends all.told in
    c.whole.ensures.page boot events from to
    (subst (λ (them : List ℕ). IsDrawn boot events from to them) (sym c.deref.ensures.value) drawn)
    (data-ends boot events from to it.text c.put_rest.new.text told c.in_ok-put_rest.ensures)

pub returns-clause-bytes : goal.returns-clause-bytes
returns-clause-bytes c = λ many. c.whole.ensures.bytes (grind (arith, nat_tests, many))
