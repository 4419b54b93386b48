use Rattle.brd_journal.specs.Journal.{most_runs}
use Rattle.brd_running.proofs.race_command.shown_of.Goals as goal

pub returns : goal.returns
returns g c =
    let is_text = rw c.journal.ensures.is at c.in_ok-journal.ensures.is in
    let is_read = rw c.journal.ensures.is at c.in_ok-journal.ensures.again in
    let is_reported = rw (c.len.ensures.len, c.journal-2.ensures.is, c.board.ensures) at c.in_ok-report.ensures in
    record { is_text = is_text; is_read = is_read most_runs c.requires; is_reported = is_reported }
