use Rattle.std.proofs.Common.{◌∙◌, ap, sym, subst}
use Rattle.brd_board.specs.Board.{BoardState}
use Rattle.brd_journal.specs.declared.playback.Playback.{Playback}
use Rattle.brd_journal.specs.Playing.{IsPlayed}
use Rattle.brd_command.proofs.TraceLemmas.{begins}
use Rattle.brd_command.proofs.gdb_history.History.summary.Goals as goal

-- A copy of the board to which nothing has happened goes on to tell since when processors spin.
pub put_spins-requires-clause-played : goal.put_spins-requires-clause-played
put_spins-requires-clause-played g c =
    let events = c.traced-traced.result.journal.now.events in
    let first = c.in_ok-tracer.tracer.playback in
    let there = begins events first (ap (λ (p : Playback). p.at) c.in_ok-tracer.ensures) in
    let board = ap (λ (p : Playback). p.board) c.in_ok-tracer.ensures ∙ sym c.in_ok-boot.ensures in
    c.in_ok-play.ensures.played c.in_ok-boot.boot (subst (λ (b : BoardState). IsPlayed b events first) board there)
