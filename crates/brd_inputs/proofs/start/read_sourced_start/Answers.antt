use Rattle.brd_inputs.specs.Start.{IsStart}
use Rattle.brd_inputs.specs.declared.input_name.InputName.TheVariants as input_name
use Rattle.brd_inputs.proofs.StartLemmas.{made}
use Rattle.brd_inputs.proofs.start.read_sourced_start.Goals as goal

pub returns-clause-starts : goal.returns-clause-starts
returns-clause-starts g c =
    made IsStart input_name.Journal (g.R.Read.remaining c.args.inputs.now.image) (g.R.Read.remaining c.args.inputs.now.config) (g.R.Read.remaining c.args.inputs.now.last)
    c.in-Ok.texts c.make_start.result c.in-Ok.ensures c.make_start.ensures
