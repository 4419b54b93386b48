use Rattle.std.proofs.Common.{◌≡◌, ℕ, List, ◌++◌, sym, ap, ◌∙◌, subst, take}
use Rattle.std.specs.Prelude.{None}
use Rattle.brd_summary.specs.Summary.{IsEnd, IsSummary}
use Rattle.brd_board.specs.Board.{BoardState}
use Rattle.brd_journal.specs.Playing.{IsPlayed}
use Rattle.brd_verdicts.specs.Accounts.{accounts_of_run}
use Rattle.brd_verdicts.specs.Steps.{AreLastSteps}
use Rattle.brd_command.specs.TraceCommand.{TellsSpins}
use Rattle.brd_command.proofs.TraceLemmas.{summary-last}
use Rattle.brd_command.proofs.trace_command.Traced.write_summary.Goals as goal

-- A copy of the board from before goes on to tell since when processors spin.
pub put_spins-requires-clause-played : goal.put_spins-requires-clause-played
put_spins-requires-clause-played g c =
    let boot = c.args.tracer.playback.board in
    subst (λ (b : BoardState). IsPlayed b c.args.self.now.journal.now.events c.play.new.tracer.playback) (sym c.in_ok-boot.ensures)
    (c.in_ok-play.ensures.follows boot c.requires.follows).played

-- What is put behind nothing is all that is there. Behind a summary come the processors that spin.
pub returns : goal.returns
returns g c =
    let boot = c.args.tracer.playback.board in
    let events = c.args.self.now.journal.now.events in
    let names = c.args.self.now.manner.names in
    let symbols = c.args.self.now.image.now.symbols in
    let to = c.args.self.now.part.to in
    let at = c.in_ok-play.ensures.at in
    let follows = c.in_ok-play.ensures.follows boot c.requires.follows in
    let end = c.in_ok-put_end.ensures.end boot events follows.played follows.dated in
    let same : c.in_ok-start.start ≡ boot = c.in_ok-start.ensures ∙ c.in_ok-boot.ensures in
    let found = c.in_ok-found.found in
    let stepped : AreLastSteps boot events c.play.new.tracer.playback.at found.steps =
    subst (λ (n : ℕ). AreLastSteps boot events n found.steps) (sym at)
    (subst (λ (b : BoardState). AreLastSteps b events to found.steps) same c.in_ok-found.ensures.steps) in
    let counted : found.accounts ≡ accounts_of_run boot (take c.play.new.tracer.playback.at events) =
    c.in_ok-found.ensures.accounts ∙ ap (λ (b : BoardState). accounts_of_run b (take to events)) same
    ∙ ap (λ (n : ℕ). accounts_of_run boot (take n events)) (sym at) in
    let more = c.in_ok-put_summary.ensures boot events follows.played follows.noted follows.dated stepped counted in
    let last = c.in_ok-put_spins.ensures in
    let first = end.behind ∙ ap (λ (them : List ℕ). them ++ end.text) c.new-first.ensures.items in
    let rest = more.behind ∙ ap (λ (them : List ℕ). them ++ more.text) c.new-rest.ensures.items in
    summary-last names symbols boot events to (g.W.Write.contents c.args.writer.now) (g.W.Write.contents c.written.new.writer)
    (g.W.Write.contents c.written-2.new.writer) c.deref.result.now more.text last.text c.deref-2.result.now
    (subst (λ (them : List ℕ). IsEnd boot events to them) (sym (c.deref.ensures.value ∙ first))
    (subst (λ (n : ℕ). IsEnd boot events n end.text) at end.is_it))
    (subst (λ (n : ℕ). IsSummary names boot events n more.text) at more.is_it)
    (subst (λ (b : BoardState). TellsSpins symbols None b events to last.text) c.in_ok-boot.ensures last.is_it)
    (c.deref-2.ensures.value ∙ last.behind ∙ ap (λ (them : List ℕ). them ++ last.text) rest)
    c.in-Ok.ensures c.written-2.result c.written-2.ensures
