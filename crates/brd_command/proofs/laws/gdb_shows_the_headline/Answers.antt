use Rattle.brd_command.proofs.GdbHeadlineLemmas.{gdb_shows, reads_headline}
use Rattle.brd_command.proofs.laws.gdb_shows_the_headline.Goals as goal

pub returns-clause-session : goal.returns-clause-session
returns-clause-session g c = gdb_shows

pub returns-clause-reads : goal.returns-clause-reads
returns-clause-reads g c = reads_headline
