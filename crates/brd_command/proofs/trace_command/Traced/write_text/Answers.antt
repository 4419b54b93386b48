use Rattle.std.proofs.Common.{◌∙◌, sym, subst}
use Rattle.brd_board.specs.Board.{BoardState}
use Rattle.brd_journal.specs.Playing.{IsPlayed}
use Rattle.brd_report.specs.Output.{Writes}
use Rattle.brd_printer.specs.Telling.{shown_by}
use Rattle.brd_command.specs.TraceCommand.{TellsSpins}
use Rattle.brd_command.proofs.TraceLemmas.{last-of, text-alone, text-spun}
use Rattle.brd_command.proofs.trace_command.Traced.write_text.Goals as goal

-- Only loads and stores are shown.
pub returns-then-is_some : goal.returns-then-is_some
returns-then-is_some g c =
    let self = c.args.self.now in
    last-of c.write_lines.result c.write_lines.ensures.told (λ lines.
    text-alone c.args.options self.image.now.symbols self.manner c.args.tracer.playback.board self.journal.now.events self.part.from
    self.part.to (shown_by c.args.tracer.printer.options) (g.W.Write.contents c.args.writer.now) (g.W.Write.contents c.write_lines.new.writer)
    (sym c.is_some.ensures ∙ c.if-is_some.true) lines)

-- A copy of the board from before goes on to tell since when processors spin.
pub write_spins-requires-clause-played : goal.write_spins-requires-clause-played
write_spins-requires-clause-played g c =
    subst (λ (b : BoardState). IsPlayed b c.args.self.now.journal.now.events c.write_lines-2.new.tracer.playback) (sym c.in_ok-boot.ensures)
    c.in-Ok.ensures.played

pub returns : goal.returns
returns g c =
    let self = c.args.self.now in
    let middle = g.W.Write.contents c.write_lines-2.new.writer in
    let new = g.W.Write.contents c.write_spins.new.writer in
    last-of c.write_spins.result c.write_spins.ensures (λ spun.
    text-spun c.args.options self.image.now.symbols self.manner c.args.tracer.playback.board self.journal.now.events self.part.from
    self.part.to (shown_by c.args.tracer.printer.options) (g.W.Write.contents c.args.writer.now) middle new
    (sym c.is_some.ensures ∙ c.if-is_some.false) c.in-Ok.ensures.told
    (subst (λ (b : BoardState). Writes (TellsSpins self.image.now.symbols c.args.options.cpu b self.journal.now.events self.part.to) middle new)
    c.in_ok-boot.ensures spun))
