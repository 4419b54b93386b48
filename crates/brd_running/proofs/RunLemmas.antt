-- A run of what was read.
use Rattle.std.proofs.Common.{◌≡◌, ℕ, List, length, subst}
use Rattle.std.specs.Prelude.{Option, Some, None, IfSome, Ok, Err}
use Rattle.std.specs.Io.KnownBytes.{Appends}
use Rattle.std.specs.declared.io.Error.{Error}
use Rattle.brd_board.specs.Board.{after}
use Rattle.brd_report.specs.Output.{AppendsFront}
use Rattle.brd_report.specs.Report.{report_of}
use Rattle.brd_running.specs.RunCommand.{RunEnds}
use Rattle.brd_inputs.specs.Start.{AreWithin, IsStart}
use Rattle.brd_inputs.specs.declared.fault.CommandFault.TheVariants.{Write}
use Rattle.brd_inputs.specs.declared.start.Start.{Start}

module _ (start : Start) (o output : List ℕ) (o-is : o ≡ output)
    (shown : output ≡ report_of (length start.journal.events) (after start.board start.journal.events)) where
  pub reported : (image config journal old new : Option (List ℕ))
      → IfSome image (λ i. IfSome config (λ c. IfSome journal (λ j. AreWithin i c j × IsStart i c j start)))
      → Appends old new o → IfSome image (λ i. IfSome config (λ c. IfSome journal (λ j. RunEnds (Ok tt) i c j old new)))
  reported None config journal old new starts written = tt
  reported (Some i) None journal old new starts written = tt
  reported (Some i) (Some c) None old new starts written = tt
  reported (Some i) (Some c) (Some j) old new starts written = record {
    bytes = output;
    are_meant = record { start = start; within = starts.0; is_start = starts.1; shown = shown };
    written = subst (λ (x : List ℕ). Appends old new x) o-is written;
  }

  pub not_reported : (image config journal old new : Option (List ℕ)) (error : Error)
      → IfSome image (λ i. IfSome config (λ c. IfSome journal (λ j. AreWithin i c j × IsStart i c j start)))
      → AppendsFront old new o → IfSome image (λ i. IfSome config (λ c. IfSome journal (λ j. RunEnds (Err (Write error)) i c j old new)))
  not_reported None config journal old new error starts written = tt
  not_reported (Some i) None journal old new error starts written = tt
  not_reported (Some i) (Some c) None old new error starts written = tt
  not_reported (Some i) (Some c) (Some j) old new error starts written = record {
    bytes = output;
    are_meant = record { start = start; within = starts.0; is_start = starts.1; shown = shown };
    written = subst (λ (x : List ℕ). AppendsFront old new x) o-is written;
  }
