-- From an object file that `asm` would write to what `try` tells of its source.
use Rattle.std.proofs.Common.{◌≡◌, ℕ, List, false}
use Rattle.std.specs.Prelude.{Option}
use Rattle.brd_board.specs.Board.{after}
use Rattle.brd_inputs.specs.FileKinds.{is_object_file}
use Rattle.brd_report.specs.Output.{Writes}
use Rattle.brd_try.specs.declared.options.TryOptions.{TryOptions}
use Rattle.brd_running.specs.AsmCommand.{IsObjectFile}
use Rattle.brd_command.specs.TryCommand.{ShowsTried, Tries}
use Rattle.brd_command.proofs.HeadlineLemmas.{headline}

pub try_shows : (options : TryOptions) (source elf config journal : List ℕ) (old new : Option (List ℕ))
    → is_object_file source ≡ false → Tries options source elf config journal old new
    → Writes (ShowsTried options source elf config journal) old new
try_shows options source elf config journal old new is tries =
    let object : IsObjectFile source elf = rw is at tries.tried.is_object in
    let it = tries.tried.tried in
    record {
      bytes = tries.told;
      are_meant = record {
        journal = it.start.journal;
        is_read = it.is_start.reads;
        board = after it.start.board it.start.journal.events;
        headline = headline source elf config it.start.journal.events it.start.board object it.is_start.loads;
        is_told = it.told;
      };
      written = tries.written;
    }
