-- A program to which commands are added.
use Rattle.std.proofs.Common.{◌∙◌, ◌≡◌, ap}
use Rattle.std.specs.Prelude.{Err, IfOk, Ok, Result}
use Rattle.clap.specs.Words.{App, app_of, with_subcommand}
use Rattle.clap.specs.declared.builder.command.Command.{Command}
use Rattle.brd_base.specs.declared.no_memory.NoMemory.{NoMemory}
use Rattle.brd_cli.specs.Usage.{AddsForm, HasAdded}

-- one command more
pub adds : (form before : App) (old command new : Result Command NoMemory) → IfOk command (AddsForm form)
    → IfOk new (HasAdded old command) → IfOk old (λ program. app_of program ≡ before)
    → IfOk new (λ program. app_of program ≡ with_subcommand before form.top)
adds form before (Ok old) (Ok command) (Ok new) is added so_far =
    is old new added ∙ ap (λ (program : App). with_subcommand program form.top) so_far
adds form before (Ok old) (Err fault) (Ok new) is added so_far = absurd added
adds form before (Err fault) command (Ok new) is added so_far = absurd added
adds form before old command (Err fault) is added so_far = tt
