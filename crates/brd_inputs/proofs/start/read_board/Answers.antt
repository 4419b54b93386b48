use Rattle.brd_inputs.proofs.StartLemmas.{made_of_both, not_read_of}
use Rattle.brd_inputs.proofs.start.read_board.Goals as goal

pub returns-in-Err : goal.returns-in-Err
returns-in-Err g c = not_read_of (g.R.Read.remaining c.args.pair.now.image) (g.R.Read.remaining c.args.pair.now.config) _ c.in-Err.ensures

pub returns : goal.returns
returns g c =
    made_of_both (g.R.Read.remaining c.args.pair.now.image) (g.R.Read.remaining c.args.pair.now.config) c.in-Ok.texts c.make_board.result _ _
    c.in-Ok.ensures c.deref.ensures.value c.deref-2.ensures.value c.make_board.ensures
