-- Which steps a search leaves out.
--
-- A processor falls asleep by an instruction that touches nothing but registers. It sleeps while other processors
-- execute one instruction after the other, and leave that instruction's word as it was: all of these could as well come
-- before it. So where another processor has stepped last, its next step is left out: the schedule on which it executes
-- that instruction just before this step comes to the same board, with the same events, and preempts no more often.
use Rattle.std.specs.Prelude.{ℕ, ◌+◌, ◌%◌, ◌==◌, Bool, true, false, not, ◌&&◌, if◌then◌else◌}
use Rattle.std.specs.Prelude.{Option, Some, None, is_some}
use Rattle.brd_isa.specs.declared.instruction.Insn.{Insn}
use Rattle.brd_isa.specs.Decoding.{decoded}
use Rattle.brd_isa.specs.Local.{is_local}
use Rattle.brd_mem.specs.Memory.{byte_at}
use Rattle.brd_exec.specs.State.{State}
use Rattle.brd_kernel.specs.declared.processor.Standing.{Standing}
use Rattle.brd_kernel.specs.declared.processor.Standing.TheVariants as standing
use Rattle.brd_board.specs.declared.event.Event.{Event}
use Rattle.brd_board.specs.declared.event.Event.TheVariants.{Step, Tick, Raise}
use Rattle.brd_board.specs.declared.event.Report.{Report}
use Rattle.brd_board.specs.declared.event.Report.TheVariants as report
use Rattle.brd_board.specs.Board.{BoardState, Happened, happens, registers_of, standing_of}
use Rattle.brd_explore.specs.declared.asleep.Asleep.{Asleep}
use Rattle.brd_explore.specs.declared.wanted.Wanted.{Wanted}
use Rattle.brd_explore.specs.Failures.{word_in, is_value}
use Rattle.brd_explore.specs.Schedules.{Place, is_last, next}

-- an instruction was executed, and went on
abbrev pub has_run : Report → Bool
has_run report.Off = false
has_run report.NoSuch = false
has_run report.Stopped = false
has_run (report.Accepted line) = false
has_run (report.Ran address) = true
has_run (report.Called address) = false
has_run (report.Faulted address) = false
has_run report.Idle = false
has_run report.Ticked = false
has_run report.TimeOver = false
has_run report.Raised = false

-- the task that a processor runs
abbrev pub task_in : Option Standing → Option ℕ
task_in None = None
task_in (Some standing.Idle) = None
task_in (Some standing.Stopped) = None
task_in (Some (standing.Task id)) = Some id
task_in (Some (standing.Handler line)) = None

abbrev pub differ : Option ℕ → Option ℕ → Bool
differ None other = true
differ (Some one) None = true
differ (Some one) (Some other) = not (one == other)

-- Two processors don't run one task. (No two of a board that was booted ever do.)
unfoldable pub are_apart : BoardState → ℕ → ℕ → Bool
are_apart b one other = differ (task_in (standing_of b one)) (task_in (standing_of b other))

-- the word at an address that is a multiple of 4, where RAM has its four bytes
unfoldable pub code_at : BoardState → ℕ → Option ℕ
code_at b address =
    if address % 4 == 0 then
    word_in b.memory.order (byte_at b.memory address) (byte_at b.memory (address + 1)) (byte_at b.memory (address + 2))
    (byte_at b.memory (address + 3)) else None

abbrev pub is_local_insn : Option Insn → Bool
is_local_insn None = false
is_local_insn (Some insn) = is_local insn

abbrev pub asleep_by : ℕ → ℕ → Option ℕ → Option Asleep
asleep_by cpu address None = None
asleep_by cpu address (Some word) =
    if is_local_insn (decoded word) then Some (record { cpu = cpu; address = address; word = word }) else None

abbrev pub asleep_in : BoardState → ℕ → Option State → Option Asleep
asleep_in b cpu None = None
asleep_in b cpu (Some context) = asleep_by cpu context.pc (code_at b context.pc)

-- how a processor falls asleep by its next step, if that executes an instruction: where the instruction is local
unfoldable pub falls_asleep : BoardState → ℕ → Option Asleep
falls_asleep b cpu = asleep_in b cpu (registers_of b cpu)

-- who sleeps may sleep on over a step of a processor: it is another one
abbrev pub apart_from : BoardState → ℕ → Option Asleep → Option Asleep
apart_from b cpu None = None
apart_from b cpu (Some asleep) =
    if not (asleep.cpu == cpu) && are_apart b asleep.cpu cpu then Some asleep else None

-- and his instruction's word is still there
abbrev pub is_kept : BoardState → Option Asleep → Bool
is_kept b None = false
is_kept b (Some asleep) = is_value asleep.word (code_at b asleep.address)

abbrev pub asleep_if : Bool → Bool → Option Asleep → Option Asleep → Option Asleep
asleep_if false kept was falls = None
asleep_if true true was falls = was
asleep_if true false was falls = falls

abbrev pub asleep_by_step : BoardState → ℕ → Option Asleep → Happened → Option Asleep
asleep_by_step b cpu was done = asleep_if (has_run done.report) (is_kept done.board was) was (falls_asleep b cpu)

-- who sleeps after an event; one at most is kept in mind
unfoldable pub asleep_after : BoardState → Option Asleep → Event → Option Asleep
asleep_after b asleep (Step cpu) = asleep_by_step b cpu (apart_from b cpu asleep) (happens b (Step cpu))
asleep_after b asleep Tick = None
asleep_after b asleep (Raise line) = None

-- A place, and who sleeps there.
pub record Spot : Type 0 where
  pub place : Place
  pub asleep : Option Asleep

-- a place where nobody sleeps
abbrev pub awake : Place → Spot
awake p = record { place = p; asleep = None }

abbrev pub next_spot : Spot → Event → Spot
next_spot spot event = record {
  place = next spot.place event;
  asleep = asleep_after spot.place.board spot.asleep event;
}

abbrev pub sleeps : Option Asleep → ℕ → Bool
sleeps None cpu = false
sleeps (Some asleep) cpu = asleep.cpu == cpu

-- somebody executes on a processor of a board that is on
abbrev pub executes : BoardState → ℕ → Bool
executes b cpu = not b.kernel.off && is_some (registers_of b cpu)

-- A step is left out whose processor sleeps, and wasn't the last one to step. (Where the end of a schedule goes on to a
-- fair end, every step is tried.)
unfoldable pub is_left_out : Wanted → Spot → Event → Bool
is_left_out wanted spot (Step cpu) =
    sleeps spot.asleep cpu && not (is_last spot.place.last cpu) && executes spot.place.board cpu && wanted.rounds == 0
is_left_out wanted spot Tick = false
is_left_out wanted spot (Raise line) = false
