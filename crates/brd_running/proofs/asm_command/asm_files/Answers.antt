use Rattle.brd_running.specs.Files.{not_opened, not_created, ended}
use Rattle.brd_running.proofs.asm_command.asm_files.Goals as goal

pub returns-in-Err : goal.returns-in-Err
returns-in-Err g c = not_opened c.in-Err.ensures c.of_open.ensures

pub returns-in-Err-create : goal.returns-in-Err-create
returns-in-Err-create g c = not_created c.in-Ok.ensures c.in-Err-create.ensures c.of_open-in-Err-create.ensures

pub returns : goal.returns
returns g c = ended c.in-Ok.ensures c.in-Ok-create.ensures c.close.ensures c.asm-ended.ensures
