use Rattle.std.proofs.Common.{ap, ◌∙◌}
use Rattle.brd_board.specs.declared.event.Event.{Event}
use Rattle.brd_board.specs.declared.event.Event.TheVariants.{Step}
use Rattle.brd_board.specs.Board.{Happened}
use Rattle.brd_happening.specs.declared.before.Before.{Before}
use Rattle.brd_happening.specs.declared.happening.{Happening.Happening}
use Rattle.brd_happening.specs.Before.{before_of}
use Rattle.brd_happening.specs.Happening.{happening_from}
use Rattle.brd_spins.specs.Spins.{turn_by}
use Rattle.brd_spins.proofs.turn.take_turn.Goals as goal

pub returns-clause-is : goal.returns-clause-is
returns-clause-is c =
    let event : Event = Step c.args.cpu in
    let report = c.event_apart-report.result in
    let after = c.event_apart-report.new.self in
    c.turn_by.ensures
    ∙ ap (λ (told : Happening). turn_by told.what)
    (c.in_ok-told.ensures.is
    ∙ ap (λ (before : Before). happening_from before report after) c.in_ok-before.ensures
    ∙ ap (λ (done : Happened). happening_from (before_of c.args.board.now event) done.report done.board) c.event_apart-report.ensures)
