use Rattle.std.proofs.Common.{sym, ap, subst, ◌∙◌}
use Rattle.brd_board.specs.Board.{BoardState, registers_of}
use Rattle.brd_blocks.specs.Stepping.{IsStepped}
use Rattle.brd_reach.specs.Rounds.{are_watching, sharing_for}
use Rattle.brd_reach.proofs.StepLemmas.{shown-so}
use Rattle.brd_reach.proofs.step.step.Goals as goal

pub returns-clause-is : goal.returns-clause-is
returns-clause-is c = λ set.
    subst (IsStepped (sharing_for c.args.sharing.now c.args.wanted.now) c.args.board.now c.args.cpu) (sym c.shown.ensures)
    (shown-so c.args.sharing.now c.args.wanted.now c.args.board.now c.args.cpu c.step-stepped.result c.are_watching-watched.result
    (sym (c.are_watching-watched.ensures
    ∙ ap (λ failures. are_watching failures c.registers.result) c.as_slice.ensures
    ∙ ap (are_watching c.args.wanted.now.failures) (c.registers.ensures
    ∙ ap (λ (b : BoardState). registers_of b c.args.cpu) c.step-stepped.ensures.board))) (c.step-stepped.ensures.is set))
