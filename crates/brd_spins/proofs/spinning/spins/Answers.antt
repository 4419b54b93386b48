use Rattle.std.proofs.Common.{arith, List, length, sym, ap, subst, ◌∙◌}
use Rattle.brd_board.specs.Board.{BoardState}
use Rattle.brd_spins.specs.declared.spin.{Spin.Spin, Turning.Turning}
use Rattle.brd_spins.specs.Since.{AreSpins}
use Rattle.brd_spins.specs.Spins.{AreTurnings}
use Rattle.brd_journal.specs.Playing.{board_at}
use Rattle.brd_spins.proofs.ListLemmas.{no-spins, spins-ok}
use Rattle.brd_spins.proofs.spinning.spins.Goals as goal

pub returns : goal.returns
returns c =
    let boot = c.args.boot in
    let events = c.args.journal.now.events in
    let at = c.args.playback.now.at in
    let turnings = c.as_slice-turnings.result.now in
    let same = sym c.as_slice-turnings.ensures.value in
    let are = subst (λ (b : BoardState). AreTurnings b c.in_ok-turnings.turnings.items) c.requires.board
    c.in_ok-turnings.ensures.are in
    spins-ok boot events at turnings c.watch.new.self c.listed.result
    (subst (λ (them : List Turning). AreTurnings (board_at boot events at) them) same are)
    (c.watch.ensures.watched boot (c.new-watching.ensures.watched events)) c.watch.ensures.at (omega arith)
    (ap length (sym same) ∙ c.in_ok-turnings.ensures.eight)
    c.listed.ensures.each c.listed.ensures.all c.listed.ensures.ascending

-- None spins, so no list is shorter.
pub returns-then-not-some_spins : goal.returns-then-not-some_spins
returns-then-not-some_spins c =
    let boot = c.args.boot in
    let events = c.args.journal.now.events in
    let at = c.args.playback.now.at in
    let turnings = c.as_slice-turnings.result.now in
    let same = sym c.as_slice-turnings.ensures.value in
    let are = subst (λ (b : BoardState). AreTurnings b c.in_ok-turnings.turnings.items) c.requires.board
    c.in_ok-turnings.ensures.are in
    subst (λ (spins : List Spin). AreSpins boot events at spins) (sym c.new.ensures)
    (no-spins boot events at turnings (subst (λ (them : List Turning). AreTurnings (board_at boot events at) them)
    same are)
    (ap length (sym same) ∙ c.in_ok-turnings.ensures.eight) (c.some_spins.ensures c.if-not-some_spins.true))
