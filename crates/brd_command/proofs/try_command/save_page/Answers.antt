use Rattle.std.proofs.Common.{refl}
use Rattle.brd_command.specs.TryCommand.SavesPage.{no_page, paged}
use Rattle.brd_command.proofs.try_command.save_page.Goals as goal

pub returns-in-Ok : goal.returns-in-Ok
returns-in-Ok g c = paged c.in-Ok.ensures (rw c.deref.ensures.value at c.save.ensures)

pub returns-in-Err : goal.returns-in-Err
returns-in-Err g c = no_page c.in-Err.ensures refl refl
