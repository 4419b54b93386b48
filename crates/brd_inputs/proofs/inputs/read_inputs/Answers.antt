use Rattle.std.proofs.Common.{refl}
use Rattle.brd_inputs.proofs.StartLemmas.{last_not_read, none_read, read}
use Rattle.brd_inputs.proofs.inputs.read_inputs.Goals as goal

pub returns-in-Err : goal.returns-in-Err
returns-in-Err g c = none_read _ (g.R.Read.remaining c.args.inputs.now.image) (g.R.Read.remaining c.args.inputs.now.config) (g.R.Read.remaining c.args.inputs.now.last) _ c.in-Err.ensures

pub returns-in-Err-read_whole : goal.returns-in-Err-read_whole
returns-in-Err-read_whole g c =
    last_not_read _ (g.R.Read.remaining c.args.inputs.now.image) (g.R.Read.remaining c.args.inputs.now.config) (g.R.Read.remaining c.args.inputs.now.last)
    c.in-Ok.texts _ c.requires c.in-Ok.ensures c.in-Err-read_whole.ensures

pub returns : goal.returns
returns g c =
    read (g.R.Read.remaining c.args.inputs.now.image) (g.R.Read.remaining c.args.inputs.now.config) (g.R.Read.remaining c.args.inputs.now.last)
    c.in-Ok.texts _ refl refl c.in-Ok.ensures c.in-Ok-read_whole.ensures
