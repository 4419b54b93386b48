-- The faults of requests with data, and the status that each ends with.
use Rattle.std.specs.Prelude.{◌≡◌, ℕ}
use Rattle.brd_inputs.specs.Faults as command
use Rattle.brd_inputs.specs.declared.fault.CommandFault.TheVariants.{NoMemory}
use Rattle.brd_data.specs.declared.fault.DataFault.{DataFault}
use Rattle.brd_data.specs.declared.fault.DataFault.TheVariants.{Command, Data, Misfit}
use Rattle.brd_data.specs.declared.fault.DataProblem.{DataProblem}
use Rattle.brd_data.specs.declared.fault.DataProblem.TheVariants.{Form, NoAddress, NoSymbol, Open, Read, TooLong}
use Rattle.brd_data.specs.declared.fault.DataProblem.TheVariants.{Outside, TooLarge, Overlap}

abbrev pub status_of_problem : DataProblem → ℕ
status_of_problem Form = 2
status_of_problem NoAddress = 2
status_of_problem NoSymbol = 2
status_of_problem (Open error) = 4
status_of_problem (Read error) = 4
status_of_problem TooLong = 4
status_of_problem (Outside size) = 1
status_of_problem (TooLarge size most) = 1
status_of_problem Overlap = 1

-- the status that the program ends with
abbrev pub status_of : DataFault → ℕ
status_of (Command fault) = command.status_of fault
status_of (Data text problem) = status_of_problem problem
status_of Misfit = 1

abbrev pub IsWantOfMemory : DataFault → Type 0
IsWantOfMemory fault = fault ≡ Command NoMemory
