use Rattle.std.proofs.Common.{refl}
use Rattle.brd_running.specs.Files.{not_opened, ended}
use Rattle.brd_running.proofs.debug_command.debug_files.Goals as goal

pub returns-in-Err : goal.returns-in-Err
returns-in-Err g c = not_opened c.in-Err.ensures refl (refl, refl)

pub returns : goal.returns
returns g c = ended c.in-Ok.ensures c.debug.ensures
