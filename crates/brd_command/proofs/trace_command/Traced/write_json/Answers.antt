use Rattle.std.proofs.Common.{List, ℕ, ◌++◌, ap, ◌∙◌}
use Rattle.brd_timeline.specs.Events.{json_text}
use Rattle.brd_command.proofs.TraceLemmas.{timeline-written}
use Rattle.brd_command.proofs.trace_command.Traced.write_json.Goals as goal

-- What is put behind nothing is all that is there.
pub returns : goal.returns
returns g c =
    let timeline = c.in_ok-timeline.timeline in
    timeline-written c.args.tracer.playback.board c.args.self.now.journal.now.events c.args.self.now.part.from c.args.self.now.part.to timeline
    c.deref.result.now (g.W.Write.contents c.args.writer.now) (g.W.Write.contents c.written.new.writer) c.written.result c.in_ok-timeline.ensures
    (c.deref.ensures.value ∙ c.in_ok-json.ensures.text ∙ ap (λ (them : List ℕ). them ++ json_text timeline) c.new-out.ensures.items)
    c.written.ensures
