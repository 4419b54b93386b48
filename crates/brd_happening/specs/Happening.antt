-- What happens in an event, by the board before it and the one after it.
use Rattle.std.specs.Prelude.{ℕ, Bool, true, false, not, ◌&&◌, if◌then◌else◌, List, [], Option, None, Some}
use Rattle.std.specs.Option.{option_map}
use Rattle.std.specs.List.{filter_map}
use Rattle.brd_isa.specs.declared.instruction.Insn.{Insn}
use Rattle.brd_exec.specs.State.{State}
use Rattle.brd_board.specs.declared.event.Event.{Event}
use Rattle.brd_board.specs.declared.event.Event.TheVariants.{Step, Tick, Raise}
use Rattle.brd_board.specs.declared.event.Report.{Report}
use Rattle.brd_board.specs.declared.event.Report.TheVariants as report
use Rattle.brd_board.specs.declared.view.Fault.{Fault}
use Rattle.brd_board.specs.Board.{BoardState, Happened, happens, registers_of, fault_of}
use Rattle.brd_happening.specs.declared.found.Found.{Found}
use Rattle.brd_happening.specs.declared.before.Before.{Before}
use Rattle.brd_happening.specs.declared.release.Release.{Release}
use Rattle.brd_happening.specs.declared.rung.Rung.{Rung}
use Rattle.brd_happening.specs.declared.happening.{What.What, Happening.Happening}
use Rattle.brd_happening.specs.declared.happening.What.TheVariants as what
use Rattle.brd_happening.specs.declared.happening.Why.TheVariants as why
use Rattle.brd_happening.specs.Found.{word_around}
use Rattle.brd_happening.specs.Instruction.{instruction_of}
use Rattle.brd_happening.specs.Cause.{cause_of}
use Rattle.brd_happening.specs.Release.{waiters_of, release_in}
use Rattle.brd_happening.specs.Call.{call_of}
use Rattle.brd_happening.specs.Before.{before_of}

-- an instruction that was done: as it was found before it, and by the registers and the memory after it
abbrev pub instruction_from : Option Insn → Option State → Found → BoardState → What
instruction_from (Some insn) (Some s) found after =
    what.Instruction (instruction_of insn found s (word_around after.memory found.address))
instruction_from (Some insn) None found after = what.Untold
instruction_from None context found after = what.Untold

abbrev pub instruction_by : Found → BoardState → What
instruction_by found after = instruction_from found.insn (registers_of after found.cpu) found after

-- an exception, as the processor keeps it after the event
abbrev pub exception_by : Found → Option Fault → What
exception_by found None = what.Untold
exception_by found (Some fault) =
    what.Exception (record { fault = fault; insn = found.insn; cause = cause_of fault.code found })

-- an instruction that was found, and reported this
abbrev pub executed_by : Found → Report → BoardState → What
executed_by found (report.Ran address) after = instruction_by found after
executed_by found (report.Called address) after = what.Call (call_of found after)
executed_by found (report.Faulted address) after = exception_by found (fault_of after found.cpu)
executed_by found _ after = what.Untold

abbrev pub executed_in : Option Found → Report → BoardState → What
executed_in None told after = what.Untold
executed_in (Some found) told after = executed_by found told after

-- An interrupt that is raised while its line is pending is lost.
abbrev pub was_raised : Event → Bool → What
was_raised (Raise line) pending = if pending then what.Lost line else what.Raised line
was_raised (Step cpu) pending = what.Untold
was_raised Tick pending = what.Untold

abbrev pub no_such : Event → What
no_such (Step cpu) = what.Nothing why.NoProcessor
no_such (Raise line) = what.Nothing (why.NoHandler line)
no_such Tick = what.Untold

-- what an event was that reported this, by what was read before it and the board after it
abbrev pub what_of : Before → Report → BoardState → What
what_of before report.Off after = what.Nothing why.Off
what_of before report.NoSuch after = no_such before.event
what_of before report.Stopped after = what.Nothing why.Stopped
what_of before (report.Accepted line) after = what.Accepted line
what_of before (report.Ran address) after = executed_in before.found (report.Ran address) after
what_of before (report.Called address) after = executed_in before.found (report.Called address) after
what_of before (report.Faulted address) after = executed_in before.found (report.Faulted address) after
what_of before report.Idle after = what.Nothing why.Idle
what_of before report.Ticked after = what.Tick after.kernel.time.count
what_of before report.TimeOver after = what.Nothing why.TimeOver
what_of before report.Raised after = was_raised before.event before.pending

-- calls and ticks release tasks, and with the profile exceptions, which end a task that gives its mutexes back
abbrev pub releases : Bool → Report → Bool
releases standard report.Off = false
releases standard report.NoSuch = false
releases standard report.Stopped = false
releases standard (report.Accepted line) = false
releases standard (report.Ran address) = false
releases standard (report.Called address) = true
releases standard (report.Faulted address) = standard
releases standard report.Idle = false
releases standard report.Ticked = true
releases standard report.TimeOver = false
releases standard report.Raised = false

-- those who waited before and are released after
abbrev pub released_in : Before → Report → BoardState → List Release
released_in before told after =
    if releases before.standard told then filter_map (release_in after) before.waiters else []

-- the lines of time handlers that a tick raised, if it was counted
abbrev pub rung_in : Before → Report → List Rung
rung_in before report.Ticked = before.due
rung_in before _ = []

abbrev pub processor_of : Event → Option ℕ
processor_of (Step cpu) = Some cpu
processor_of Tick = None
processor_of (Raise line) = None

abbrev pub place_of : Option Found → Option ℕ
place_of found = option_map (λ found. found.context.pc) found

abbrev pub happening_from : Before → Report → BoardState → Happening
happening_from before told after = record {
  cpu = processor_of before.event;
  who = before.who;
  place = place_of before.found;
  what = what_of before told after;
  released = released_in before told after;
  rung = rung_in before told;
  goes_off = after.kernel.off && not before.off;
}

-- what happens in an event
abbrev pub happening_of : BoardState → Event → Happening
happening_of b event =
    happening_from (before_of b event) (happens b event).report (happens b event).board

-- the tasks that an event releases: of all that wait before it those whose call is answered after it
abbrev pub released_between : BoardState → Happened → List Release
released_between b h =
    if releases b.kernel.standard h.report then filter_map (release_in h.board) (waiters_of b) else []

-- something is told of an event
abbrev pub is_told : What → Bool
is_told what.Untold = false
is_told _ = true
