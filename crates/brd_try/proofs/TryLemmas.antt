-- What is run of an object file, put together.
use Rattle.std.proofs.Common.{◌≡◌, ◌≤◌, ◌∙◌, ℕ, List, length, ap, subst}
use Rattle.std.specs.Prelude.{Ok}
use Rattle.brd_board.specs.Board.{BoardState, after}
use Rattle.brd_image.specs.declared.building.Loaded.{Loaded}
use Rattle.brd_inputs.specs.Start.{IsMade, KeepsFromBuilding}
use Rattle.brd_inputs.specs.declared.fault.CommandFault.{CommandFault}
use Rattle.brd_inputs.specs.declared.fault.CommandFault.TheVariants.{NoMemory, Build, Schedule}
use Rattle.brd_inputs.specs.declared.schedule_fault.ScheduleFault.TheVariants.{TooLong}
use Rattle.brd_journal.specs.Journal.{JournalState, most_runs}
use Rattle.brd_journal.specs.Reading.{journal_of}
use Rattle.brd_journal.specs.Runs.{runs_of}
use Rattle.brd_journal.specs.Text.{text_of}
use Rattle.brd_journal.specs.declared.fault.JournalFault.{JournalFault}
use Rattle.brd_journal.specs.declared.fault.JournalFault.TheVariants as journal_fault
use Rattle.brd_schedule.specs.Schedule.{EndsMaking, made}
use Rattle.brd_schedule.specs.declared.plan.Plan.{Plan}
use Rattle.brd_try.specs.Config.{config_of}
use Rattle.brd_try.specs.Told.{IsTold}
use Rattle.brd_try.specs.Tries.{IsTried, KeepsFromTrying, fault_of}
use Rattle.brd_try.specs.Turning.{HasTurned, IsUnturned, KeepsFromTurns, TakesTurns}
use Rattle.brd_try.specs.Turns.{IsPlan, steps_in}
use Rattle.brd_try.specs.declared.options.TryOptions.{TryOptions}
use Rattle.brd_try.specs.declared.turning.Turned.{Turned}

pub tried : (options : TryOptions) (object config journal text : List ℕ) (cpus : ℕ) (it : Loaded) (turned : Turned)
    → cpus ≡ options.cpus → config ≡ config_of cpus object → IsMade object config it
    → TakesTurns options it.board turned → journal ≡ text_of turned.journal.order turned.journal.events
    → ((limit : ℕ) → length (runs_of turned.journal.events) ≤ limit → journal_of limit journal
    ≡ Ok (record { limit = limit; order = turned.journal.order; events = turned.journal.events }))
    → IsTold cpus turned.steps turned.board text → IsTried options object config journal text
tried options object config journal text cpus it turned count is made turns shown again told =
    let state : JournalState =
    record { limit = most_runs; order = turned.journal.order; events = turned.journal.events } in
    record {
      is_config = is ∙ ap (λ (n : ℕ). config_of n object) count;
      start = record { board = it.board; image = it.image; config = it.config; journal = state };
      is_start = record {
        loads = made.loads;
        is_image = made.is_image;
        is_configuration = made.is_configuration;
        reads = again most_runs turns.room;
        orders = turns.order;
      };
      is_journal = shown;
      plan = turns.plan;
      is_plan = turns.is_plan;
      len = turns.len;
      turns = turns.turns;
      ends = turns.ends;
      told =
          subst (λ (n : ℕ). IsTold n (steps_in turned.journal.events) (after it.board turned.journal.events) text) count
          (subst (λ (steps : ℕ). IsTold cpus steps (after it.board turned.journal.events) text) turns.steps
          (subst (λ (b : BoardState). IsTold cpus turned.steps b text) turns.board told));
    }

-- the turns of a plan are those of its options
pub taken : (options : TryOptions) (boot : BoardState) (cpus : ℕ) (plan : Plan) (events : JournalState) (turned : Turned)
    → cpus ≡ options.cpus → IsPlan options plan → events.events ≡ made plan plan.events
    → events.order ≡ boot.memory.order → HasTurned boot cpus events turned → TakesTurns options boot turned
taken options boot cpus plan events turned count is exact order has =
    let ends = rw (exact, count) at has.ends in
    record {
      plan = plan;
      is_plan = is;
      len = has.len;
      turns = rw exact at has.taken;
      ends = ends;
      board = has.board;
      steps = has.steps;
      order = has.order ∙ order;
      room = has.room;
    }

-- why there is no journal of a plan
pub unmade : (options : TryOptions) (plan : Plan) (fault : JournalFault) → plan.events ≡ options.steps
    → EndsMaking plan fault → KeepsFromTurns options (fault_of fault)
unmade options plan journal_fault.NoMemory is ends = tt
unmade options plan journal_fault.Full is ends = rw is at ends
unmade options plan (journal_fault.Syntax line) is ends = absurd ends

-- why a board takes no turns of it
pub untaken : (options : TryOptions) (events : JournalState) (fault : JournalFault)
    → length events.events ≡ options.steps → IsUnturned events fault → KeepsFromTurns options (fault_of fault)
untaken options events journal_fault.NoMemory is ends = tt
untaken options events journal_fault.Full is ends = rw is at ends
untaken options events (journal_fault.Syntax line) is ends = absurd ends

-- and these are why nothing is run
pub of_building : (options : TryOptions) (object config : List ℕ) (cpus : ℕ) (fault : CommandFault)
    → cpus ≡ options.cpus → config ≡ config_of cpus object → KeepsFromBuilding object config fault
    → KeepsFromTrying options object fault
of_building options object config cpus NoMemory count is keeps = tt
of_building options object config cpus (Build fault kind) count is keeps = rw (is, count) at keeps
of_building options object config cpus fault count is keeps = absurd keeps

pub of_turns : (options : TryOptions) (object : List ℕ) (fault : CommandFault) → KeepsFromTurns options fault
    → KeepsFromTrying options object fault
of_turns options object NoMemory keeps = tt
of_turns options object (Schedule TooLong) keeps = keeps
of_turns options object fault keeps = absurd keeps
