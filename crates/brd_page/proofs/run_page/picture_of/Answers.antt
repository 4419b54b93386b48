use Rattle.std.proofs.Common.{◌≡◌, ◌∙◌, inl, inr, refl, subst}
use Rattle.std.specs.Prelude.{Option}
use Rattle.brd_timeline.specs.declared.timeline.Timeline.{Timeline}
use Rattle.brd_timeline.specs.declared.fault.PictureFault.{PictureFault}
use Rattle.brd_recording.specs.Recording.{IsTimeline}
use Rattle.brd_page.specs.Picture.{KeepsFromDrawing}
use Rattle.brd_page.proofs.run_page.picture_of.Goals as goal

pub returns-in-Ok : goal.returns-in-Ok
returns-in-Ok c = λ boot events from played noted begun.
    let to = c.args.tracer.playback.at in
    let are = subst (λ (made : Option Timeline). IsTimeline boot events from to made) c.in-Some.is
    (c.in_ok-timeline.ensures boot events from played noted begun) in
    inl (c.in-Ok.ensures boot events from to are)

pub returns-in_ok-from_slice-in-Err-TooMuch : goal.returns-in_ok-from_slice-in-Err-TooMuch
returns-in_ok-from_slice-in-Err-TooMuch c = λ boot events from played noted begun.
    let to = c.args.tracer.playback.at in
    let are = subst (λ (made : Option Timeline). IsTimeline boot events from to made) c.in-Some.is
    (c.in_ok-timeline.ensures boot events from played noted begun) in
    inr (
      subst (λ (fault : PictureFault). KeepsFromDrawing boot events from to fault) c.in-Err-TooMuch.field-0-is
          (c.in-Err-TooMuch.ensures boot events from to are),
      c.in_ok-from_slice-in-Err-TooMuch.ensures.items ∙ c.as_bytes.ensures.value,
    )

pub returns-in_default : goal.returns-in_default
returns-in_default c = λ boot events from played noted begun.
    absurd (subst (λ (made : Option Timeline). IsTimeline boot events from c.args.tracer.playback.at made) c.in_default.is
    (c.in_ok-timeline.ensures boot events from played noted begun))
