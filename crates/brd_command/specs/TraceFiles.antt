-- How `trace` ends on its files, as brd_running/specs/Files.antt says it of other commands.
use Rattle.std.specs.Prelude.{◌≡◌, ℕ, List, Option, Result}
use Rattle.std.specs.declared.io.Error.{Error}
use Rattle.brd_running.specs.Files.{FilesEnd}
use Rattle.brd_command.specs.TraceCommand.{TraceEnds}
use Rattle.brd_inputs.specs.declared.fault.CommandFault.{CommandFault}
use Rattle.brd_command.specs.declared.trace_options.TraceOptions.{TraceOptions}

-- The trace is written only where all three files were opened; else nothing was written.
abbrev pub TraceFilesEnd : {F R : Type 0} → (F → List ℕ → Result R Error → F → Type 0) → (R → Option (List ℕ)) →
    F → List ℕ → List ℕ → List ℕ → TraceOptions → Option (List ℕ) → Option (List ℕ) → Result Unit CommandFault → F →
    Type 0
TraceFilesEnd opened remaining old image config journal options before after result new =
    FilesEnd opened remaining (λ file statements events. TraceEnds result options file statements events before after)
    (before ≡ after) old image config journal result new
