use Rattle.clap.specs.Words.{found_of}
use Rattle.brd_cli.proofs.NumberLemmas.{is_given}
use Rattle.brd_cli.proofs.request.position_of.Goals as goal

pub returns : goal.returns
returns c = is_given 64 (found_of c.args.arguments.now) c.args.name.now c.get_one.result c.get_one.ensures.none c.get_one.ensures.value
