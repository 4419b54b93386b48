use Rattle.std.proofs.Common.{ℕ, ◌≤◌, List, length, take, subst, arith}
use Rattle.std.specs.Prelude.{Result, Ok, Err, IfOk, IfErr}
use Rattle.brd_config.specs.declared.objects.QueueConfig.{QueueConfig}
use Rattle.brd_board.specs.declared.event.Event.{Event}
use Rattle.brd_board.specs.Board.{BoardState}
use Rattle.brd_order.specs.declared.deed.Race.{Race}
use Rattle.brd_order.specs.declared.fault.OrderFault.{OrderFault}
use Rattle.brd_order.specs.Races.{AreRaces}
use Rattle.brd_order.specs.Refusals.{MayRefuse}
use Rattle.brd_deeds.specs.Deeds.{deeds_of_run}
use Rattle.brd_command.specs.RacesCommand.{MayStop}
use Rattle.brd_command.proofs.races_command.races_of.Goals as goal

stops-at : (queues : List QueueConfig) (board : BoardState) (events : List Event) (at to : ℕ) (result : Result (List Race) OrderFault) → at ≤ to →
    IfErr result (MayRefuse (length (deeds_of_run queues board (take at events)))) → IfErr result (MayStop queues board events to)
stops-at queues board events at to (Ok races) within refused = tt
stops-at queues board events at to (Err fault) within refused = record { at = at; within = within; refused = refused }

pub returns-clause-are : goal.returns-clause-are
returns-clause-are g c =
    let events = c.args.journal.now.events in
    let queues = c.args.queues.now in
    subst (λ (n : ℕ). IfOk c.finish.result (AreRaces (deeds_of_run queues c.args.board (take n events)))) c.in-Ok-play.ensures.at
    (c.finish.ensures.races queues c.args.board events (c.in-Ok-play.ensures.raced queues c.args.board (c.in-Ok.ensures.raced events)))

pub returns-clause-stops : goal.returns-clause-stops
returns-clause-stops g c =
    let events = c.args.journal.now.events in
    let queues = c.args.queues.now in
    let at = c.play.new.racing.playback.at in
    stops-at queues c.args.board events at c.args.to c.finish.result (omega (arith, c.in-Ok-play.ensures.at))
    (c.finish.ensures.refuses queues c.args.board events (c.in-Ok-play.ensures.raced queues c.args.board (c.in-Ok.ensures.raced events)))

pub returns-in-Err-clause-stops : goal.returns-in-Err-clause-stops
returns-in-Err-clause-stops g c = record { at = 0; within = omega arith; refused = tt }

pub returns-in-Err-play-clause-stops : goal.returns-in-Err-play-clause-stops
returns-in-Err-play-clause-stops g c =
    c.in-Err-play.ensures.stops c.args.queues.now c.args.board (c.in-Ok.ensures.raced c.args.journal.now.events)
