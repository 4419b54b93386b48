use Rattle.brd_stub.specs.Moving.{stepping, of_all, GoesBack}
use Rattle.brd_stub.proofs.AnswerLemmas.{if-all}
use Rattle.brd_stub.proofs.SessionLemmas.{move-ends}
use Rattle.brd_stub.proofs.session.Session.go_back.Goals as goal

pub returns-clause-becomes : goal.returns-clause-becomes
returns-clause-becomes g c =
    if-all _ (move-ends GoesBack c.args.self.now c.prepare.new.self c.stopped.new.self
    (stepping c.args.self.now.points (of_all c.args.stepper) c.args.self.now.debugger)
    (record { debugger = c.backward.new.debugger; stop = c.in_ok-stop.stop }) c.as_slice.result.now c.whose-last.result
    c.prepare.ensures c.as_slice.ensures.is c.whose-last.ensures c.in_ok-stop.ensures c.stopped.ensures.becomes)
    c.stopped.result
