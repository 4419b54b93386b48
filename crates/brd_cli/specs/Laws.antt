-- What the laws of the command line speak of.
use Rattle.std.specs.Prelude.{◌≡◌, ◌==◌, Bool, List, [], ◌∷◌, Option, Some, not, true, option_map}
use Rattle.clap.specs.Words.{Text, fault_of, subcommand_of}
use Rattle.brd_command.specs.declared.request.Request.{Request}
use Rattle.brd_cli.specs.Requests.{IsAsked, spoken}
use Rattle.brd_cli.specs.Usage.{board}

-- a word that doesn't begin with a hyphen (45)
abbrev pub is_plain : Text → Bool
is_plain [] = true
is_plain (first ∷ rest) = not (first == 45)

-- nothing is wrong with the words of a command line, and what they ask for is this command with these files
abbrev pub AskFor : List Text → Text × List Text → Type 0
AskFor words command = (fault_of board words ≡ [])
    × ((request : Option Request) → IsAsked (subcommand_of board words) request
    → option_map spoken request ≡ Some command)
