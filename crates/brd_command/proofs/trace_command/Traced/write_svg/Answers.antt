use Rattle.std.proofs.Common.{rules, refl, sym, subst}
use Rattle.brd_page.specs.Picture.{IsPicture, KeepsFromDrawing}
use Rattle.brd_command.proofs.TraceLemmas.{drawing-ends}
use Rattle.brd_command.proofs.trace_command.Traced.write_svg.Goals as goal

-- What was drawn is written.
pub returns-in-Ok : goal.returns-in-Ok
returns-in-Ok g c =
    let boot = c.args.tracer.playback.board in
    let events = c.args.self.now.journal.now.events in
    let part = c.args.self.now.part in
    drawing-ends boot events part.from part.to c.deref.result.now (g.W.Write.contents c.args.writer.now) (g.W.Write.contents c.written.new.writer)
    c.written.result
    (subst (IsPicture boot events part.from part.to) (sym c.deref.ensures.value) (c.in-Ok.ensures boot events part.from part.to c.in_ok-timeline.ensures))
    c.written.ensures

pub returns-in-Err-TooMuch : goal.returns-in-Err-TooMuch
returns-in-Err-TooMuch g c =
    let boot = c.args.tracer.playback.board in
    let events = c.args.self.now.journal.now.events in
    let part = c.args.self.now.part in (
      refl,
      (
        subst (KeepsFromDrawing boot events part.from part.to) c.in-Err-TooMuch.field-0-is
            (c.in-Err-TooMuch.ensures boot events part.from part.to c.in_ok-timeline.ensures),
        (search rules),
      ),
    )
