use Rattle.std.proofs.Common.{ℕ, List, ◌≡◌, ◌++◌, refl, sym, ap, ◌∙◌, subst}
use Rattle.std.specs.Prelude.{MatchResult, Ok}
use Rattle.brd_board.specs.Board.{BoardState}
use Rattle.brd_printer.specs.declared.printer.{Manner.Manner}
use Rattle.brd_printer.specs.Telling.{shown_by}
use Rattle.brd_trace.specs.Recorded.{IsNoted}
use Rattle.brd_trace.specs.Dated.{IsDated}
use Rattle.brd_journal.specs.declared.playback.Playback.{Playback}
use Rattle.brd_command.specs.TraceCommand.{KeepsFromAsking, IsPart, IsOfWriting, WritesSummary, WritesText, WritesTimeline, EndsDrawing}
use Rattle.brd_page.specs.Page.{IsLastPage}
use Rattle.brd_report.specs.Output.{Writes}
use Rattle.brd_command.proofs.TraceLemmas.{begins, known, html-ends, json-ends, svg-ends, races-end, stacks-end, summary-ends, text-ends, not_asked, not_chosen}
use Rattle.brd_command.proofs.trace_command.write_trace.Goals as goal

-- The part is that of the whole journal, the tracer has the board of the start, and it shows what the options ask for.
pub returns-in-Text : goal.returns-in-Text
returns-in-Text g c =
    let start = c.args.start in
    let manner : Manner = record { names = c.with_lines-names.result; order = start.image.order; words = c.as_slice-3.result } in
    let first = shown_by c.in_ok-tracer.tracer.printer.options in
    let old = g.W.Write.contents c.args.writer.now in
    let new = g.W.Write.contents c.write_text.new.writer in
    let added = c.in-Ok-choose.ensures in
    let named = added.is ∙ ap (λ (them : List ℕ). Ok them) (sym (c.as_slice-3.ensures ∙ added.all ∙ ap (λ (them : List ℕ). them ++ added.more) c.new-words.ensures)) in
    text-ends start c.args.options c.in-Ok.part manner first old new c.write_text.result
    (subst (λ (n : ℕ). IsPart c.args.options n c.in-Ok.part) c.len.ensures.len c.in-Ok.ensures) c.in-Text.is c.if-options.false c.if-options-2.false c.if-options-3.false
    (record { symbols = c.with_lines-names.ensures.symbols ∙ (c.in_ok-symbols.ensures ∙ c.as_slice.ensures); segments = c.with_lines-names.ensures.segments ∙ c.as_slice-2.ensures; order = refl; words = named })
    (record {
      cpu = ap (λ p. p.options.cpu) c.in_ok-tracer.ensures.printer;
      instructions = ap (λ p. p.options.instructions) c.in_ok-tracer.ensures.printer;
      touching = ap (λ p. p.options.touching) c.in_ok-tracer.ensures.printer ∙ c.is_some.ensures;
      shown = refl;
      held = refl;
    })
    (subst (λ (b : BoardState). MatchResult c.write_text.result
    (λ _. WritesText c.args.options start.image.symbols manner b start.journal.events c.in-Ok.part.from c.in-Ok.part.to first old new) IsOfWriting)
    (ap (λ p. p.board) c.in_ok-tracer.ensures.start) c.write_text.ensures)

-- The timeline is that of the part, on the board of the start.
pub returns-in-Json : goal.returns-in-Json
returns-in-Json g c =
    let start = c.args.start in
    let old = g.W.Write.contents c.args.writer.now in
    let new = g.W.Write.contents c.write_json.new.writer in
    json-ends start c.args.options c.in-Ok.part old new c.write_json.result
    (subst (λ (n : ℕ). IsPart c.args.options n c.in-Ok.part) c.len.ensures.len c.in-Ok.ensures) c.in-Json.is c.if-options.false c.if-options-2.false c.if-options-3.false
    (subst (λ (b : BoardState). MatchResult c.write_json.result
    (λ _. WritesTimeline b start.journal.events c.in-Ok.part.from c.in-Ok.part.to old new) IsOfWriting)
    (ap (λ p. p.board) c.in_ok-tracer.ensures.start) c.write_json.ensures)

-- The picture is that of the part, on the board of the start.
pub returns-in-Svg : goal.returns-in-Svg
returns-in-Svg g c =
    let start = c.args.start in
    let old = g.W.Write.contents c.args.writer.now in
    let new = g.W.Write.contents c.write_svg.new.writer in
    svg-ends start c.args.options c.in-Ok.part old new c.write_svg.result
    (subst (λ (n : ℕ). IsPart c.args.options n c.in-Ok.part) c.len.ensures.len c.in-Ok.ensures) c.in-Svg.is c.if-options.false c.if-options-2.false c.if-options-3.false
    (subst (λ (b : BoardState). EndsDrawing c.write_svg.result b start.journal.events c.in-Ok.part.from c.in-Ok.part.to old new)
    (ap (λ p. p.board) c.in_ok-tracer.ensures.start) c.write_svg.ensures)

-- The page is that of the part, on the board of the start.
pub returns-in-Html : goal.returns-in-Html
returns-in-Html g c =
    let start = c.args.start in
    let old = g.W.Write.contents c.args.writer.now in
    let new = g.W.Write.contents c.write_html.new.writer in
    html-ends start c.args.options c.in-Ok.part old new c.write_html.result
    (subst (λ (n : ℕ). IsPart c.args.options n c.in-Ok.part) c.len.ensures.len c.in-Ok.ensures) c.in-Html.is c.if-options.false c.if-options-2.false c.if-options-3.false
    (subst (λ (b : BoardState). MatchResult c.write_html.result
    (λ _. Writes (IsLastPage b start.journal.events c.in-Ok.part.from c.in-Ok.part.to) old new) IsOfWriting)
    (ap (λ p. p.board) c.in_ok-tracer.ensures.start) c.write_html.ensures)

-- The options give no part of the journal, or name no words.
pub returns-in-Err : goal.returns-in-Err
returns-in-Err g c =
    not_asked c.in-Err.fault c.args.options c.args.start (g.W.Write.contents c.args.writer.now)
    (subst (λ (n : ℕ). KeepsFromAsking c.args.options n c.in-Err.fault) c.len.ensures.len c.in-Err.ensures)

pub returns-in-Err-choose : goal.returns-in-Err-choose
returns-in-Err-choose g c =
    not_chosen c.in-Err-choose.fault c.args.options c.args.start (g.W.Write.contents c.args.writer.now) c.in-Err-choose.ensures

-- The races are looked for as far as the options say, by the names of the image.
pub returns-then-options : goal.returns-then-options
returns-then-options g c =
    races-end c.args.start c.args.options c.in-Ok.part c.with_lines-names.result (g.W.Write.contents c.args.writer.now) (g.W.Write.contents c.write_races.new.writer)
    c.write_races.result (subst (λ (n : ℕ). IsPart c.args.options n c.in-Ok.part) c.len.ensures.len c.in-Ok.ensures) c.if-options.true
    (c.with_lines-names.ensures.symbols ∙ (c.in_ok-symbols.ensures ∙ c.as_slice.ensures)) (c.with_lines-names.ensures.segments ∙ c.as_slice-2.ensures) c.write_races.ensures

-- The stacks are followed as far as the options say.
pub returns-then-options-2 : goal.returns-then-options-2
returns-then-options-2 g c =
    stacks-end c.args.start c.args.options c.in-Ok.part (g.W.Write.contents c.args.writer.now) (g.W.Write.contents c.write_stacks.new.writer)
    c.write_stacks.result (subst (λ (n : ℕ). IsPart c.args.options n c.in-Ok.part) c.len.ensures.len c.in-Ok.ensures) c.if-options.false c.if-options-2.true
    c.write_stacks.ensures

-- The summary is that of the board of the start, by the names of the image.
pub returns-then-options-3 : goal.returns-then-options-3
returns-then-options-3 g c =
    let start = c.args.start in
    let old = g.W.Write.contents c.args.writer.now in
    let new = g.W.Write.contents c.write_summary.new.writer in
    summary-ends start c.args.options c.in-Ok.part c.with_lines-names.result old new c.write_summary.result
    (subst (λ (n : ℕ). IsPart c.args.options n c.in-Ok.part) c.len.ensures.len c.in-Ok.ensures) c.if-options-3.true c.if-options.false c.if-options-2.false
    (c.with_lines-names.ensures.symbols ∙ (c.in_ok-symbols.ensures ∙ c.as_slice.ensures)) (c.with_lines-names.ensures.segments ∙ c.as_slice-2.ensures)
    (subst (λ (b : BoardState). MatchResult c.write_summary.result
    (λ _. WritesSummary c.with_lines-names.result start.image.symbols b start.journal.events c.in-Ok.part.to old new) IsOfWriting)
    (ap (λ p. p.board) c.in_ok-tracer.ensures.start) c.write_summary.ensures)

-- Of a board to which nothing has happened all that the tracer knows is so.
pub write_summary-requires-clause-follows : goal.write_summary-requires-clause-follows
write_summary-requires-clause-follows g c =
    let tracer = c.in_ok-tracer.tracer in
    let events = c.args.start.journal.events in
    let made = c.in_ok-tracer.ensures in
    let at : 0 ≡ tracer.playback.at = sym (ap (λ (p : Playback). p.at) made.start) in
    let board : c.args.start.board ≡ tracer.playback.board = sym (ap (λ (p : Playback). p.board) made.start) in
    record {
      played = begins events tracer.playback (sym at);
      noted = subst (λ (n : ℕ). IsNoted tracer.playback.board events n tracer.notes) at
          (subst (λ (b : BoardState). IsNoted b events 0 tracer.notes) board (made.noted events));
      dated = subst (λ (n : ℕ). IsDated tracer.playback.board events n tracer.notes) at
          (subst (λ (b : BoardState). IsDated b events 0 tracer.notes) board (made.dated events));
    }

pub write_json-requires-clause-knows : goal.write_json-requires-clause-knows
write_json-requires-clause-knows g c =
    known c.args.start.board c.args.start.journal.events c.in_ok-tracer.tracer c.in_ok-tracer.ensures.start
    (c.in_ok-tracer.ensures.noted c.args.start.journal.events)

pub write_svg-requires-clause-knows : goal.write_svg-requires-clause-knows
write_svg-requires-clause-knows g c =
    known c.args.start.board c.args.start.journal.events c.in_ok-tracer.tracer c.in_ok-tracer.ensures.start
    (c.in_ok-tracer.ensures.noted c.args.start.journal.events)
