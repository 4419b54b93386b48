use Rattle.std.proofs.Common.{◌≡◌, ℕ, List, ◌++◌, sym, ap, ◌∙◌, subst}
use Rattle.brd_journal.specs.declared.playback.Playback.{Playback}
use Rattle.brd_journal.specs.Playing.{IsPlayed}
use Rattle.brd_printer.specs.declared.printer.Printer.{Printer}
use Rattle.brd_printer.specs.Telling.{IsFirstLine, held_text, shown_by}
use Rattle.brd_command.specs.TraceCommand.{WritesTold}
use Rattle.brd_command.proofs.TraceLemmas.{in-any, last-of, lines-of}
use Rattle.brd_command.proofs.trace_command.Traced.write_stretch.Goals as goal

pub returns-clause-at : goal.returns-clause-at
returns-clause-at g c =
    in-any c.written-2.result
    (ap (λ (p : Playback). p.at) c.finish.ensures.same ∙ c.in-Ok-write_events.ensures.at)

pub returns-clause-played : goal.returns-clause-played
returns-clause-played g c =
    in-any c.written-2.result (λ boot is.
    let there = subst (λ (p : Playback). IsPlayed boot c.args.self.now.journal.now.events p) (sym c.show.ensures.same) is in
    subst (λ (p : Playback). IsPlayed boot c.args.self.now.journal.now.events p) (sym c.finish.ensures.same)
    (c.in-Ok-write_events.ensures.played boot there))

pub returns-clause-told : goal.returns-clause-told
returns-clause-told g c =
    last-of c.written-2.result c.written-2.ensures (λ last. λ boot is.
    let manner = c.args.self.now.manner in
    let events = c.args.self.now.journal.now.events in
    let from = c.args.tracer.now.playback.at in
    let old = g.W.Write.contents c.args.writer.now in
    let half = g.W.Write.contents c.written.new.writer in
    let most = g.W.Write.contents c.write_events.new.writer in
    let first = c.in_ok-show.ensures.line in
    let before : c.deref.result.now ≡ first.text =
    c.deref.ensures.value ∙ first.behind ∙ ap (λ (them : List ℕ). them ++ first.text) c.new-first.ensures.items in
    let there = subst (λ (p : Playback). IsPlayed boot events p) (sym c.show.ensures.same) is in
    let told = c.in-Ok-write_events.ensures.told boot there in
    let same = subst (λ (p : Playback). WritesTold manner boot events p.at c.args.self.now.part.to c.show.new.self.printer
    c.write_events.new.tracer.printer half most) c.show.ensures.same told in
    let shown = subst (λ (p : Printer). WritesTold manner boot events from c.args.self.now.part.to p c.write_events.new.tracer.printer half most)
    c.show.ensures.printer same in
    lines-of manner boot events from c.args.self.now.part.to (shown_by c.args.tracer.now.printer.options) c.write_events.new.tracer.printer
    old half most (g.W.Write.contents c.written-2.new.writer) c.deref.result.now c.deref-2.result.now
    (subst (λ (them : List ℕ). IsFirstLine manner.names.symbols.now from them) (sym before) first.is_it) c.in-Ok.ensures shown
    (c.deref-2.ensures.value ∙ c.in_ok-finish.ensures.line
    ∙ ap (λ (them : List ℕ). them ++ held_text manner.names.symbols.now c.write_events.new.tracer.printer.held) c.new-last.ensures.items)
    last)
