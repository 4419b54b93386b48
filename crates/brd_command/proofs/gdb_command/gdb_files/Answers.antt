use Rattle.std.proofs.Common.{refl}
use Rattle.brd_running.specs.Files.{not_opened, ended}
use Rattle.brd_command.proofs.gdb_command.gdb_files.Goals as goal

pub returns-in-Err : goal.returns-in-Err
returns-in-Err g c = not_opened c.in-Err.ensures refl (refl, refl)

pub returns : goal.returns
returns g c = ended c.in-Ok.ensures c.gdb.ensures
