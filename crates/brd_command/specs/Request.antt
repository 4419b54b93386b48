-- How a request ends, on files, standard input and standard output, each before and after the command. `opened`,
-- `created` and `closed` say what calls on files did, `remaining` what a file has left to read, `contents` what a file
-- holds that is written; `unread` says what standard input has left to read, `written` what standard output has taken.
use Rattle.std.specs.Prelude.{◌≡◌, ℕ, List, Option, option_map, IfSome, Result}
use Rattle.std.specs.declared.io.Error.{Error}
use Rattle.brd_running.specs.Files.{AsmFilesEnd, RunFilesEnd, RaceFilesEnd, DebugFilesEnd}
use Rattle.brd_command.specs.TraceFiles.{TraceFilesEnd}
use Rattle.brd_running.specs.ExploreCommand.{ExploreFilesEnd}
use Rattle.brd_command.specs.GdbCommand.{GdbFilesEnd}
use Rattle.brd_command.specs.JournalCommand.{JournalEnds}
use Rattle.brd_running.specs.ShrinkCommand.{ShrinkFilesEnd}
use Rattle.brd_command.specs.TryCommand.{TryFilesEnd}
use Rattle.brd_running.specs.WordsCommand.{WordsEnds}
use Rattle.brd_inputs.specs.declared.fault.CommandFault.{CommandFault}
use Rattle.brd_command.specs.declared.request.Request.{Request}
use Rattle.brd_command.specs.declared.request.Request.TheVariants.{Words, Asm, Run, Race, Debug, Trace, Journal}
use Rattle.brd_command.specs.declared.request.Request.TheVariants.{Explore, Gdb, Shrink, Try}

module _ {F I O R W : Type 0}
    (opened : F → List ℕ → Result I Error → F → Type 0) (created : F → List ℕ → Result O Error → F → Type 0)
    (closed : F → O → F → Type 0) (remaining : I → Option (List ℕ)) (contents : O → Option (List ℕ))
    (unread : R → Option (List ℕ)) (written : W → Option (List ℕ)) where
  -- (It isn't an abbreviation: written out of a request that isn't known it has the ends of all commands.)
  -- `words` and `journal` touch no file, `asm` neither reads standard input nor writes standard output, and `run`,
  -- `race`, `trace`, `journal`, `explore`, `shrink` and `try` don't read standard input.
  unfoldable pub RequestEnds : Request → F → F → R → R → W → W → Result Unit CommandFault → Type 0
  RequestEnds (Words steps) files_old files input_old input output_old output result =
      IfSome (unread input_old) (λ text. WordsEnds result text steps (written output_old) (written output))
      × (files ≡ files_old)
  RequestEnds (Asm source out) files_old files input_old input output_old output result =
      AsmFilesEnd opened created closed remaining contents files_old source.now out.now result files
      × (input ≡ input_old) × (output ≡ output_old)
  RequestEnds (Run image config journal) files_old files input_old input output_old output result =
      RunFilesEnd opened remaining files_old image.now config.now journal.now
      (written output_old) (written output) result files
      × (input ≡ input_old)
  RequestEnds (Race image config script quota out) files_old files input_old input output_old output result =
      RaceFilesEnd opened created closed remaining contents files_old image.now config.now script.now quota out.now
      (written output_old) (written output) result files
      × (input ≡ input_old)
  RequestEnds (Debug image config journal) files_old files input_old input output_old output result =
      DebugFilesEnd opened remaining unread files_old image.now config.now journal.now
      input_old input (written output_old) (written output) result files
  RequestEnds (Gdb image config journal) files_old files input_old input output_old output result =
      GdbFilesEnd opened remaining unread files_old image.now config.now journal.now
      input_old input (written output_old) (written output) result files
  RequestEnds (Trace image config journal options) files_old files input_old input output_old output result =
      TraceFilesEnd opened remaining files_old image.now config.now journal.now options
      (written output_old) (written output) result files
      × (input ≡ input_old)
  RequestEnds (Journal cpus events options) files_old files input_old input output_old output result =
      JournalEnds result cpus events options (written output_old) (written output)
      × (files ≡ files_old) × (input ≡ input_old)
  RequestEnds (Explore image config options out) files_old files input_old input output_old output result =
      ExploreFilesEnd opened created closed remaining contents files_old image.now config.now options
      (option_map (λ name. name.now) out) (written output_old) (written output) result files
      × (input ≡ input_old)
  RequestEnds (Shrink image config journal options out) files_old files input_old input output_old output result =
      ShrinkFilesEnd opened created closed remaining contents files_old image.now config.now journal.now options
      (option_map (λ name. name.now) out) (written output_old) (written output) result files
      × (input ≡ input_old)
  RequestEnds (Try source options keep page) files_old files input_old input output_old output result =
      TryFilesEnd opened created closed remaining contents files_old source.now options
      (option_map (λ name. name.now) keep) (option_map (λ name. name.now) page)
      (written output_old) (written output) result files
      × (input ≡ input_old)
