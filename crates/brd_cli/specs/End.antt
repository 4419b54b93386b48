-- How the program ends.
use Rattle.std.specs.Prelude.{◌≡◌, ◌≢◌, ℕ, Result, Ok, Err}
use Rattle.clap.specs.Words.{kind_of}
use Rattle.clap.specs.declared.error.Error.{Error}
use Rattle.clap.specs.declared.error.kind.ErrorKind.{ErrorKind}
use Rattle.clap.specs.declared.error.kind.ErrorKind.TheVariants.{DisplayHelp, DisplayVersion, OutOfMemory}
use Rattle.brd_data.specs.Faults as laying
use Rattle.brd_inputs.specs.Faults.{status_of}
use Rattle.brd_inputs.specs.declared.fault.CommandFault.TheVariants.{NoMemory}
use Rattle.brd_cli.specs.declared.end.EarlyEnd.{EarlyEnd}
use Rattle.brd_cli.specs.declared.end.EarlyEnd.TheVariants.{Data, Fault, Input, Usage}

-- the status of a command line that isn't done: help that was asked for is no fault
abbrev pub status_of_usage : ErrorKind → ℕ
status_of_usage DisplayHelp = 0
status_of_usage DisplayVersion = 0
status_of_usage OutOfMemory = 3
status_of_usage _ = 2

-- the status that the program ends with
abbrev pub status_of_end : Result Unit EarlyEnd → ℕ
status_of_end (Ok done) = 0
status_of_end (Err (Fault fault)) = status_of fault
status_of_end (Err (Data fault)) = laying.status_of fault
status_of_end (Err (Input fault)) = 2
status_of_end (Err (Usage error)) = status_of_usage (kind_of error)

-- the program has run out of memory
abbrev pub IsWantOfMemory : EarlyEnd → Type 0
IsWantOfMemory stop = stop ≡ Fault NoMemory

-- a parse that failed: for lack of memory, or by the command line
abbrev pub IsEarlyEndOf : Error → EarlyEnd → Type 0
IsEarlyEndOf error (Fault fault) = (kind_of error ≡ OutOfMemory) × (fault ≡ NoMemory)
IsEarlyEndOf error (Data fault) = ⊥
IsEarlyEndOf error (Input fault) = ⊥
IsEarlyEndOf error (Usage e) = (kind_of error ≢ OutOfMemory) × (e ≡ error)
