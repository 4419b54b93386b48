use Rattle.std.proofs.Common.{refl}
use Rattle.brd_inputs.specs.Opening.OpensInputs.{no_last, all}
use Rattle.brd_inputs.proofs.OpeningLemmas.{not_opened, was_opened}
use Rattle.brd_inputs.proofs.inputs.open_inputs.Goals as goal

pub returns-in-Err : goal.returns-in-Err
returns-in-Err g c = not_opened _ _ _ _ _ _ _ c.in-Err.ensures

pub returns-in-Err-open : goal.returns-in-Err-open
returns-in-Err-open g c =
    let two = was_opened _ _ _ _ c.in-Ok.pair _ c.in-Ok.ensures in
    no_last two.1 two.2 c.in-Err-open.ensures c.of_open.ensures

pub returns : goal.returns
returns g c =
    let two = was_opened _ _ _ _ c.in-Ok.pair _ c.in-Ok.ensures in
    all two.1 two.2 c.in-Ok-open.ensures refl
