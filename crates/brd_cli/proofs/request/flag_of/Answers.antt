use Rattle.std.proofs.Common.{Option, subst}
use Rattle.clap.proofs.WalkLemmas.{one_text-rows}
use Rattle.clap.specs.Words.{Text, found_of}
use Rattle.brd_cli.specs.Requests.{IsFlag}
use Rattle.brd_cli.proofs.request.flag_of.Goals as goal

pub returns : goal.returns
returns c =
    let found = found_of c.args.arguments.now in
    let flag = c.get_flag.ensures in
    subst (λ (text : Option Text). IsFlag text c.get_flag.result) (one_text-rows found c.args.name.now)
    (flag.none, flag.value, flag.other)
