use Rattle.std.proofs.Common.{ℕ, sym, ap, subst, ◌∙◌}
use Rattle.std.specs.Prelude.{Option, Some}
use Rattle.brd_timeline.specs.declared.timeline.Timeline.{Timeline}
use Rattle.brd_journal.specs.declared.playback.Playback.{Playback}
use Rattle.brd_journal.specs.Playing.{IsPlayed}
use Rattle.brd_recording.specs.Recording.{IsTimeline}
use Rattle.brd_command.specs.TraceCommand.{IsKnown}
use Rattle.brd_command.proofs.trace_command.Traced.timeline.Goals as goal

-- It begins where the tracer has skipped to, and what the tracer knows there is so.
pub returns-in-Some : goal.returns-in-Some
returns-in-Some g c =
    let boot = c.args.tracer.playback.board in
    let events = c.args.self.now.journal.now.events in
    let from = c.args.self.now.part.from in
    let skipped = c.in_ok-skip.ensures.knows boot c.requires.knows in
    let recorded : IsKnown boot events c.record.new.self = record {
      played = subst (λ (p : Playback). IsPlayed boot events p) (sym c.record.ensures.same) skipped.played;
      noted = c.in_ok-record.ensures.noted boot events skipped.played skipped.noted;
    } in
    let played = c.in_ok-play.ensures.knows boot recorded in
    let begun = c.play.ensures.begun ∙ c.in_ok-record.ensures.begun ∙ ap Some c.in_ok-skip.ensures.at in
    subst (λ (n : ℕ). IsTimeline boot events from n (Some c.in-Some.timeline)) c.in_ok-play.ensures.at
    (subst (λ (made : Option Timeline). IsTimeline boot events from c.play.new.tracer.playback.at made) c.in-Some.is
    (c.in_ok-timeline.ensures boot events from played.played played.noted begun))
