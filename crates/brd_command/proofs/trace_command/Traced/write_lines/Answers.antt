use Rattle.std.proofs.Common.{ℕ, List, [], subst}
use Rattle.std.specs.Io.KnownBytes.{Appends}
use Rattle.brd_printer.specs.declared.printer.Printer.{Printer}
use Rattle.brd_printer.specs.Telling.{shown_by}
use Rattle.brd_command.specs.TraceCommand.{head, WritesLines}
use Rattle.brd_command.proofs.TraceLemmas.{begins, if-then, last-of, lines-behind}
use Rattle.brd_command.proofs.trace_command.Traced.write_lines.Goals as goal

pub returns-clause-played : goal.returns-clause-played
returns-clause-played g c =
    let events = c.args.self.now.journal.now.events in
    let board = c.args.tracer.now.playback.board in
    if-then c.write_stretch.result c.write_stretch.ensures.played (λ played.
    played board (c.skip.ensures.played board (begins events c.args.tracer.now.playback c.requires.start)))

pub returns-clause-told : goal.returns-clause-told
returns-clause-told g c =
    last-of c.write_stretch.result c.write_stretch.ensures.told (λ stretch.
    let manner = c.args.self.now.manner in
    let events = c.args.self.now.journal.now.events in
    let board = c.args.tracer.now.playback.board in
    let to = c.args.self.now.part.to in
    let half = g.W.Write.contents c.written.new.writer in
    let new = g.W.Write.contents c.write_stretch.new.writer in
    let there = c.skip.ensures.played board (begins events c.args.tracer.now.playback c.requires.start) in
    let at = subst (λ (n : ℕ). WritesLines [] manner board events n to (shown_by c.skip.new.tracer.printer.options) half new)
    c.in_ok-skip.ensures.at (stretch board there) in
    let shown = subst (λ (p : Printer). WritesLines [] manner board events c.args.self.now.part.from to (shown_by p.options) half new)
    c.skip.ensures.printer at in
    lines-behind head manner board events c.args.self.now.part.from to (shown_by c.args.tracer.now.printer.options)
    (g.W.Write.contents c.args.writer.now) half new
    (subst (λ (them : List ℕ). Appends (g.W.Write.contents c.args.writer.now) half them) c.as_bytes.ensures.value c.in-Ok.ensures) shown)
