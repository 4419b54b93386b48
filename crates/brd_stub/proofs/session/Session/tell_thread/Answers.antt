use Rattle.std.proofs.Common.{ap, ◌∙◌}
use Rattle.brd_stub.specs.Halting.{fitting}
use Rattle.brd_stub.proofs.session.Session.tell_thread.Goals as goal

pub returns-clause-says : goal.returns-clause-says
returns-clause-says c = rw c.plain.ensures.reply (c.short.ensures.fitting ∙ ap fitting c.in_ok-reply.ensures)
