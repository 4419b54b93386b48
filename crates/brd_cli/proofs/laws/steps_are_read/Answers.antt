use Rattle.std.proofs.Common.{◌≡◌, codes, true, Option, Some, [], ◌∷◌}
use Rattle.clap.proofs.OnLiterals.{clap_on_literals}
use Rattle.clap.specs.Words.{Text, subcommand_of}
use Rattle.brd_command.specs.declared.request.Request.{Request}
use Rattle.brd_cli.specs.Laws.{is_plain}
use Rattle.brd_cli.specs.Requests.{AreWords, IsAsked}
use Rattle.brd_cli.specs.Usage.{board}
use Rattle.brd_cli.proofs.LawLemmas.{no_hyphen, no_hyphens, no_long, no_short}
use Rattle.brd_cli.proofs.laws.steps_are_read.Goals as goal

words : (program steps : Text) → is_plain steps ≡ true → (request : Option Request)
    → IsAsked (subcommand_of board (program ∷ codes "words" ∷ steps ∷ [])) request → AreWords (Some steps) request
unfolding clap_on_literals
words program steps plain request is = rw (no_hyphens steps plain, no_long steps plain, no_short steps plain, no_hyphen steps plain) at is

pub returns : goal.returns
returns c = words
