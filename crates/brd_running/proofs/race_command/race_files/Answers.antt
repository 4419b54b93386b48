use Rattle.std.proofs.Common.{refl}
use Rattle.brd_running.specs.Files.{not_opened, not_created, ended}
use Rattle.brd_running.proofs.RaceLemmas.{unkept_ends}
use Rattle.brd_running.proofs.race_command.race_files.Goals as goal

pub returns-in-Err : goal.returns-in-Err
returns-in-Err g c = not_opened c.in-Err.ensures refl refl

pub returns-in-Err-renew : goal.returns-in-Err-renew
returns-in-Err-renew g c = not_created c.in-Ok.ensures c.in-Err-renew.ensures c.of_open.ensures refl

pub returns-in-Ok-keep : goal.returns-in-Ok-keep
returns-in-Ok-keep g c = ended c.in-Ok.ensures c.in-Ok-renew.ensures c.in-Ok-keep.ensures c.race_on-ended.ensures

pub returns : goal.returns
returns g c =
    ended c.in-Ok.ensures c.in-Ok-renew.ensures c.in-Err-keep.ensures
    (unkept_ends c.args.quota _ _ _ _ c.in-Err-keep.error c.race_on-ended.result c.unkept.result c.unkept.ensures
    (g.F.Input.Read.remaining c.in-Ok.inputs.image) (g.F.Input.Read.remaining c.in-Ok.inputs.config)
    (g.F.Input.Read.remaining c.in-Ok.inputs.last) c.race_on-ended.ensures)
