-- A board with these data queues has played the first events of a list, and their deeds were taken.
use Rattle.std.specs.Prelude.{◌≡◌, ℕ, List, length, take}
use Rattle.brd_config.specs.declared.objects.QueueConfig.{QueueConfig}
use Rattle.brd_board.specs.declared.event.Event.{Event}
use Rattle.brd_board.specs.Board.{BoardState}
use Rattle.brd_journal.specs.Playing.{IsPlayed}
use Rattle.brd_order.specs.After.{IsAfter}
use Rattle.brd_order.specs.Refusals.{IsKept}
use Rattle.brd_deeds.specs.declared.log.Log.{Log}
use Rattle.brd_deeds.specs.declared.racing.Racing.{Racing}
use Rattle.brd_deeds.specs.Past.{past_of}
use Rattle.brd_deeds.specs.Deeds.{deeds_from}

-- the deeds of the events up to a position, and what is remembered there
abbrev pub deeds_up_to : List QueueConfig → BoardState → List Event → ℕ → Log
deeds_up_to queues boot events at = deeds_from 0 (past_of queues) boot (take at events)

pub record IsRaced (queues : List QueueConfig) (boot : BoardState) (events : List Event) (racing : Racing) :
    Type 0 where
  pub played : IsPlayed boot events racing.playback
  pub past : racing.log.past ≡ (deeds_up_to queues boot events racing.playback.at).past
  pub order : IsAfter (deeds_up_to queues boot events racing.playback.at).deeds racing.order
  pub kept : IsKept (length (deeds_up_to queues boot events racing.playback.at).deeds) racing.order
