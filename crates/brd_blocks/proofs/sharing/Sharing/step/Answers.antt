use Rattle.std.proofs.Common.{sym, ap, subst, ◌∙◌}
use Rattle.brd_board.specs.Board.{BoardState, Happened}
use Rattle.brd_blocks.specs.declared.stepped.Stepped.{Stepped}
use Rattle.brd_blocks.specs.Owning.{Known, sharing_of}
use Rattle.brd_blocks.specs.Looking.{look_of, stepped_of}
use Rattle.brd_blocks.specs.Stepping.{IsStepped}
use Rattle.brd_blocks.proofs.StepLemmas.{step-so}
use Rattle.brd_blocks.proofs.sharing.Sharing.step.Goals as goal

pub returns-clause-exactly : goal.returns-clause-exactly
returns-clause-exactly c =
    let known : Known = c.args.self.now in
    let board : BoardState = c.args.board.now in
    c.stepped_of.ensures
    ∙ ap (λ look. stepped_of look c.event_apart-report.result) c.look_at-look.ensures
    ∙ ap (λ (done : Happened). stepped_of (look_of known board c.args.cpu) done.report) c.event_apart-report.ensures

pub returns-clause-is : goal.returns-clause-is
returns-clause-is c links =
    subst (λ (it : Stepped). IsStepped (sharing_of c.args.self.now) c.args.board.now c.args.cpu it) (sym (returns-clause-exactly c))
    (step-so c.args.self.now c.args.board.now c.args.cpu links)
