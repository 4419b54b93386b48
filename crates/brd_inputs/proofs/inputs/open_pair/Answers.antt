use Rattle.std.proofs.Common.{refl}
use Rattle.brd_inputs.specs.Opening.OpensPair.{no_image, no_config, both}
use Rattle.brd_inputs.proofs.inputs.open_pair.Goals as goal

pub returns-in-Err : goal.returns-in-Err
returns-in-Err g c = no_image c.in-Err.ensures c.of_open.ensures

pub returns-in-Err-open : goal.returns-in-Err-open
returns-in-Err-open g c = no_config c.in-Ok.ensures c.in-Err-open.ensures c.of_open-in-Err-open.ensures

pub returns : goal.returns
returns g c = both c.in-Ok.ensures c.in-Ok-open.ensures refl
