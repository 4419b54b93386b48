-- The command `trace`, with the data races of a run.
use Rattle.std.specs.Prelude.{◌≢◌, ◌≤◌, ℕ, List, length, take, Option}
use Rattle.std.specs.Io.KnownBytes.{Appends}
use Rattle.brd_config.specs.declared.objects.QueueConfig.{QueueConfig}
use Rattle.brd_board.specs.declared.event.Event.{Event}
use Rattle.brd_board.specs.Board.{BoardState}
use Rattle.brd_inputs.specs.declared.fault.CommandFault.{CommandFault}
use Rattle.brd_inputs.specs.declared.fault.CommandFault.TheVariants as command
use Rattle.brd_inputs.specs.declared.trace_fault.TraceFault.TheVariants as trace
use Rattle.brd_order.specs.declared.deed.Race.{Race}
use Rattle.brd_order.specs.declared.fault.OrderFault.{OrderFault}
use Rattle.brd_order.specs.declared.fault.OrderFault.TheVariants.{NoMemory, TooManyTouches, TooManyThings}
use Rattle.brd_order.specs.declared.fault.OrderFault.TheVariants.{TooManyDeeds}
use Rattle.brd_order.specs.Races.{AreRaces}
use Rattle.brd_order.specs.Refusals.{MayRefuse}
use Rattle.brd_deeds.specs.Deeds.{deeds_of_run}
use Rattle.brd_names.specs.declared.names.Names.{Names}
use Rattle.brd_names.specs.Races.{races_text}

-- The races of the first events of a list, on a board with these data queues, were written: of all deeds of that run
-- the first one of each word that has one.
pub record WritesRaces (names : Names) (queues : List QueueConfig) (board : BoardState) (events : List Event) (to : ℕ)
    (old new : Option (List ℕ)) : Type 0 where
  pub races : List Race
  pub are : AreRaces (deeds_of_run queues board (take to events)) races
  pub written : Appends old new (races_text names races)

-- The order isn't followed to the end: the deeds of the events up to some place are as many as it takes for that.
pub record MayStop (queues : List QueueConfig) (board : BoardState) (events : List Event) (to : ℕ)
    (fault : OrderFault) : Type 0 where
  pub at : ℕ
  pub within : at ≤ to
  pub refused : MayRefuse (length (deeds_of_run queues board (take at events))) fault

-- there are more touches, things or deeds than are kept or can be counted
pub record AreTooMany (queues : List QueueConfig) (board : BoardState) (events : List Event) (to : ℕ) : Type 0 where
  pub fault : OrderFault
  pub of_many : fault ≢ NoMemory
  pub stops : MayStop queues board events to fault

-- the fault of the command
abbrev pub fault_of : OrderFault → CommandFault
fault_of NoMemory = command.NoMemory
fault_of TooManyTouches = command.Trace trace.TooManyTouches
fault_of TooManyThings = command.Trace trace.TooManyTouches
fault_of TooManyDeeds = command.Trace trace.TooManyTouches
