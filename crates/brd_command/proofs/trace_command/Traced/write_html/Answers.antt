use Rattle.std.proofs.Common.{List, ℕ, sym, subst}
use Rattle.brd_page.specs.Page.{IsLastPage}
use Rattle.brd_command.proofs.TraceLemmas.{page-written}
use Rattle.brd_command.proofs.trace_command.Traced.write_html.Goals as goal

pub returns : goal.returns
returns g c =
    let boot = c.args.tracer.playback.board in
    let events = c.args.self.now.journal.now.events in
    let from = c.args.self.now.part.from in
    let to = c.args.self.now.part.to in
    page-written boot events from to c.deref.result.now (g.W.Write.contents c.args.writer.now) (g.W.Write.contents c.written.new.writer)
    c.written.result (subst (λ (them : List ℕ). IsLastPage boot events from to them) (sym c.deref.ensures.value) c.in_ok-page.ensures)
    c.written.ensures
