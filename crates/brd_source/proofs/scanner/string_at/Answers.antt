use Rattle.brd_source.proofs.Runs.{behind_closed, behind_open}
use Rattle.brd_source.proofs.scanner.string_at.Goals as goal

pub returns-in_default-clause-rest : goal.returns-in_default-clause-rest
returns-in_default-clause-rest c = behind_open c.args.rest.now c.in_default.ensures.len

pub returns-clause-rest : goal.returns-clause-rest
returns-clause-rest c = rw c.split_at-2.ensures.back (behind_closed c.in-Some.len c.args.rest.now c.in-Some.ensures.len)
