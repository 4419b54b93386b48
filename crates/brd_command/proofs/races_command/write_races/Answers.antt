use Rattle.std.proofs.Common.{◌≡◌, ℕ, List, ◌++◌, take, refl, sym, ap, ◌∙◌, subst}
use Rattle.std.proofs.lemmas.Bool.{false≢true}
use Rattle.std.specs.Prelude.{Bool, true, false, Option, Result, Ok, Err, MatchResult}
use Rattle.std.specs.Io.KnownBytes.{Appends}
use Rattle.brd_config.specs.declared.objects.QueueConfig.{QueueConfig}
use Rattle.brd_board.specs.declared.event.Event.{Event}
use Rattle.brd_board.specs.Board.{BoardState}
use Rattle.brd_inputs.specs.declared.fault.CommandFault.{CommandFault}
use Rattle.brd_inputs.specs.declared.fault.CommandFault.TheVariants as fault
use Rattle.brd_order.specs.declared.deed.Race.{Race}
use Rattle.brd_order.specs.declared.fault.OrderFault.{OrderFault}
use Rattle.brd_order.specs.declared.fault.OrderFault.TheVariants as order
use Rattle.brd_order.specs.Races.{AreRaces}
use Rattle.brd_deeds.specs.Deeds.{deeds_of_run}
use Rattle.brd_names.specs.declared.names.Names.{Names}
use Rattle.brd_names.specs.Races.{races_text}
use Rattle.brd_running.proofs.RaceLemmas.{keeps}
use Rattle.brd_command.specs.RacesCommand.{MayStop, fault_of}
use Rattle.brd_command.specs.TraceCommand.{EndsRacing, IsOfWriting}
use Rattle.brd_command.proofs.races_command.write_races.Goals as goal

races-written : (names : Names) (queues : List QueueConfig) (board : BoardState) (events : List Event) (to : ℕ) (races : List Race) (bytes : List ℕ) (old new : Option (List ℕ))
    (result : Result Unit CommandFault) → AreRaces (deeds_of_run queues board (take to events)) races → bytes ≡ races_text names races
    → MatchResult result (λ _. Appends old new bytes) IsOfWriting → EndsRacing result names queues board events to old new
races-written names queues board events to races bytes old new (Ok done) are is written =
    record { races = races; are = are; written = subst (Appends old new) is written }
races-written names queues board events to races bytes old new (Err fault.NoMemory) are is of = tt
races-written names queues board events to races bytes old new (Err fault.Argument) are is of = absurd of
races-written names queues board events to races bytes old new (Err (fault.Words a)) are is of = absurd of
races-written names queues board events to races bytes old new (Err (fault.Source a b c)) are is of = absurd of
races-written names queues board events to races bytes old new (Err fault.ImageTooLarge) are is of = absurd of
races-written names queues board events to races bytes old new (Err (fault.Open a b)) are is of = absurd of
races-written names queues board events to races bytes old new (Err (fault.Read a b)) are is of = absurd of
races-written names queues board events to races bytes old new (Err (fault.TooLong a)) are is of = absurd of
races-written names queues board events to races bytes old new (Err (fault.TooManyReads a)) are is of = absurd of
races-written names queues board events to races bytes old new (Err (fault.Build a b)) are is of = absurd of
races-written names queues board events to races bytes old new (Err (fault.Journal a b)) are is of = absurd of
races-written names queues board events to races bytes old new (Err (fault.OtherOrder a)) are is of = absurd of
races-written names queues board events to races bytes old new (Err (fault.Script a b)) are is of = absurd of
races-written names queues board events to races bytes old new (Err (fault.Race a)) are is of = absurd of
races-written names queues board events to races bytes old new (Err (fault.Trace a)) are is of = absurd of
races-written names queues board events to races bytes old new (Err (fault.Schedule a)) are is of = absurd of
races-written names queues board events to races bytes old new (Err (fault.Search a)) are is of = absurd of
races-written names queues board events to races bytes old new (Err fault.Fails) are is of = absurd of
races-written names queues board events to races bytes old new (Err fault.Passes) are is of = absurd of
races-written names queues board events to races bytes old new (Err (fault.Write a)) are is of = tt

abbrev is_of_memory : OrderFault → Bool
is_of_memory order.NoMemory = true
is_of_memory order.TooManyTouches = false
is_of_memory order.TooManyThings = false
is_of_memory order.TooManyDeeds = false

races-stopped : (names : Names) (queues : List QueueConfig) (board : BoardState) (events : List Event) (to : ℕ) (known : Option (List ℕ)) (cause : OrderFault)
    → MayStop queues board events to cause → EndsRacing (Err (fault_of cause)) names queues board events to known known
races-stopped names queues board events to known order.NoMemory stops = tt
races-stopped names queues board events to known order.TooManyTouches stops =
    (refl, (record { fault = order.TooManyTouches; of_many = λ same. false≢true (ap is_of_memory same); stops = stops }, keeps known))
races-stopped names queues board events to known order.TooManyThings stops =
    (refl, (record { fault = order.TooManyThings; of_many = λ same. false≢true (ap is_of_memory same); stops = stops }, keeps known))
races-stopped names queues board events to known order.TooManyDeeds stops =
    (refl, (record { fault = order.TooManyDeeds; of_many = λ same. false≢true (ap is_of_memory same); stops = stops }, keeps known))

pub returns : goal.returns
returns g c =
    let events = c.args.journal.now.events in
    let queues = c.args.config.now.queues in
    races-written c.args.names queues c.args.board events c.args.to c.in-Ok.races c.deref.result.now
    (g.W.Write.contents c.args.writer.now) (g.W.Write.contents c.written.new.writer) c.written.result
    (subst (λ (qs : List QueueConfig). AreRaces (deeds_of_run qs c.args.board (take c.args.to events)) c.in-Ok.races) c.as_slice-queues.ensures
    c.in-Ok.ensures.are)
    (c.deref.ensures.value ∙ c.in_ok-put_races.ensures ∙ ap (λ (bytes : List ℕ). bytes ++ races_text c.args.names c.as_slice.result.now) c.new-out.ensures.items
    ∙ ap (races_text c.args.names) c.as_slice.ensures)
    c.written.ensures

pub returns-in-Err : goal.returns-in-Err
returns-in-Err g c =
    let events = c.args.journal.now.events in
    let known = g.W.Write.contents c.args.writer.now in
    subst (λ (fault : CommandFault). EndsRacing (Err fault) c.args.names c.args.config.now.queues c.args.board events c.args.to known known)
    (sym c.fault_of.ensures)
    (races-stopped c.args.names c.args.config.now.queues c.args.board events c.args.to known c.in-Err.fault
    (subst (λ (qs : List QueueConfig). MayStop qs c.args.board events c.args.to c.in-Err.fault) c.as_slice-queues.ensures c.in-Err.ensures.stops))
