use Rattle.brd_inputs.specs.Start.{IsRaceStart}
use Rattle.brd_inputs.specs.declared.input_name.InputName.TheVariants as input_name
use Rattle.brd_inputs.proofs.StartLemmas.{made}
use Rattle.brd_inputs.proofs.start.read_race_start.Goals as goal

pub returns : goal.returns
returns g c =
    made IsRaceStart input_name.Script (g.R.Read.remaining c.args.inputs.now.image) (g.R.Read.remaining c.args.inputs.now.config) (g.R.Read.remaining c.args.inputs.now.last)
    c.in-Ok.texts c.make_race_start.result c.in-Ok.ensures c.make_race_start.ensures
