use Rattle.std.proofs.Common.{sym, subst, ◌∙◌}
use Rattle.brd_stub.specs.declared.stepping.Stepped.{Stepped}
use Rattle.brd_stub.specs.Moving.{stepping, GoesForward}
use Rattle.brd_stub.specs.Answers.{may_move, whose_of, Stops}
use Rattle.brd_stub.proofs.AnswerLemmas.{if-all, if-then}
use Rattle.brd_stub.proofs.SessionLemmas.{went-forward, stayed-there, said-on, said-none}
use Rattle.brd_stub.proofs.session.Session.go_forward.Goals as goal

pub returns-then-not-may_move-clause-becomes : goal.returns-then-not-may_move-clause-becomes
returns-then-not-may_move-clause-becomes g c =
    if-all _ (stayed-there c.args.self.now c.args.how (sym c.may_move.ensures ∙ c.if-not-may_move.true)) c.error.result

pub returns-then-not-may_move-clause-says : goal.returns-then-not-may_move-clause-says
returns-then-not-may_move-clause-says g c =
    if-then _ _ (λ answer is. said-none (may_move c.args.self.now c.args.how) _ _ _
    (sym c.may_move.ensures ∙ c.if-not-may_move.true) is)
    c.error.result c.error.ensures.says

pub returns-then-not-may_move-clause-shows : goal.returns-then-not-may_move-clause-shows
returns-then-not-may_move-clause-shows g c =
    if-then _ _ (λ answer is. said-none (may_move c.args.self.now c.args.how) _ _ _
    (sym c.may_move.ensures ∙ c.if-not-may_move.true) is)
    c.error.result c.error.ensures.shows

pub returns-clause-becomes : goal.returns-clause-becomes
returns-clause-becomes g c =
    if-then _ _ (λ answer is. went-forward c.args.self.now c.go_on.new.self c.args.how
    (sym c.may_move.ensures ∙ c.if-not-may_move.false)
    (subst (λ (it : Stepped). Stops (GoesForward c.args.self.now.points (whose_of c.args.self.now) c.args.self.now.told
    (stepping c.args.self.now.points it c.args.self.now.debugger)) c.args.self.now c.go_on.new.self)
    c.stepped_by-stepped.ensures is))
    c.go_on.result c.go_on.ensures.becomes

pub returns-clause-says : goal.returns-clause-says
returns-clause-says g c =
    if-then _ _ (λ answer is. said-on (may_move c.args.self.now c.args.how) _ _ _
    (sym c.may_move.ensures ∙ c.if-not-may_move.false) is)
    c.go_on.result c.go_on.ensures.says

pub returns-clause-shows : goal.returns-clause-shows
returns-clause-shows g c =
    if-then _ _ (λ answer is. said-on (may_move c.args.self.now c.args.how) _ _ _
    (sym c.may_move.ensures ∙ c.if-not-may_move.false) is)
    c.go_on.result c.go_on.ensures.shows
