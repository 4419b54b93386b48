use Rattle.brd_stub.specs.Moving.{stepping, GoesForward}
use Rattle.brd_stub.proofs.AnswerLemmas.{if-all}
use Rattle.brd_stub.proofs.SessionLemmas.{move-ends}
use Rattle.brd_stub.proofs.session.Session.go_on.Goals as goal

pub returns-clause-becomes : goal.returns-clause-becomes
returns-clause-becomes g c =
    if-all _ (move-ends GoesForward c.args.self.now c.prepare.new.self c.stopped.new.self
    (stepping c.args.self.now.points c.args.stepped c.args.self.now.debugger)
    (record { debugger = c.forward.new.debugger; stop = c.in_ok-stop.stop }) c.as_slice.result.now c.whose-last.result
    c.prepare.ensures c.as_slice.ensures.is c.whose-last.ensures c.in_ok-stop.ensures c.stopped.ensures.becomes)
    c.stopped.result
