use Rattle.std.proofs.Common.{◌≡◌, ℕ, List, length, get_or, ap, subst, ◌∙◌, arith}
use Rattle.brd_journal.specs.declared.run.Run.{Run}
use Rattle.brd_journal.specs.Runs.{starts_of}
use Rattle.brd_journal.proofs.StartLemmas.{length-starts, start_at}
use Rattle.brd_journal.proofs.RestLemmas.{rest_there, run_ended}
use Rattle.brd_journal.proofs.runs.RunTable.rest_in.Goals as goal
use Rattle.brd_journal.proofs.runs.RunTable.rest_in.Goals.{After-index-start}

run_is : (c : After-index-start) → c.index-run.result.now ≡ get_or c.args.self.now c.args.index c.index-run.result.now
run_is c = let P : List Run → Type 0 = λ rs. c.index-run.result.now ≡ get_or rs c.args.index c.index-run.result.now in subst P c.self.view_is c.index-run.ensures

start_is : (c : After-index-start) → c.index-start.result.now ≡ get_or (starts_of c.args.self.now) c.args.index c.index-start.result.now
start_is c =
    let P : List ℕ → Type 0 = λ starts. c.index-start.result.now ≡ get_or starts c.args.index c.index-start.result.now in
    subst P (c.self.invariant ∙ ap starts_of c.self.view_is) c.index-start.ensures

pub index-start-requires : goal.index-start-requires
index-start-requires c = omega (arith, c.if-index-len.false, length-starts 0 c.self.inside.runs.items, ap length c.self.invariant)

pub returns-then-others-start-clause-ended : goal.returns-then-others-start-clause-ended
returns-then-others-start-clause-ended c =
    let e = (goal.at.returns-then-others-start-clause-ended c).After-index-start in
    λ none within begun.
    omega (arith, c.if-others-start.true, start_is e, start_at 0 c.args.self.now c.args.index c.index-start.result.now within, begun)

pub returns-then-gone-run-clause-ended : goal.returns-then-gone-run-clause-ended
returns-then-gone-run-clause-ended c =
    let e = (goal.at.returns-then-gone-run-clause-ended c).After-index-start in
    λ none within begun.
    run_ended c.args.self.now c.args.others c.args.index c.index-start.result.now c.index-run.result.now within (run_is e) (start_is e)
    (omega (arith, c.if-others-start.false)) c.if-gone-run.true

pub returns-clause-rest : goal.returns-clause-rest
returns-clause-rest c =
    let e = (goal.at.returns-clause-rest c).After-index-start in
    rest_there c.args.self.now c.args.others c.args.index c.index-start.result.now c.index-run.result.now c.requires
    (omega (arith, ap length c.self.view_is, c.if-index-len.false)) (run_is e) (start_is e) (omega (arith, c.if-others-start.false)) c.if-gone-run.false
