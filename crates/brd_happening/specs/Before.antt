-- What has to be read of a board before an event.
use Rattle.std.specs.Prelude.{Bool, true, false, ◌||◌, if◌then◌else◌, List, [], Option, None, Some}
use Rattle.brd_isa.specs.declared.instruction.Insn.{Insn}
use Rattle.brd_kernel.specs.declared.processor.Standing.{Standing}
use Rattle.brd_kernel.specs.Kernel.{line_at}
use Rattle.brd_board.specs.declared.event.Event.{Event}
use Rattle.brd_board.specs.declared.event.Event.TheVariants.{Step, Tick, Raise}
use Rattle.brd_board.specs.Board.{BoardState, standing_of}
use Rattle.brd_happening.specs.declared.found.Found.{Found}
use Rattle.brd_happening.specs.declared.release.Waiter.{Waiter}
use Rattle.brd_happening.specs.declared.before.Before.{Before}
use Rattle.brd_happening.specs.Found.{found_on}
use Rattle.brd_happening.specs.Release.{waiters_of}
use Rattle.brd_happening.specs.Rung.{due_in}

-- what the processor does whose step an event is
abbrev pub who_of : BoardState → Event → Option Standing
who_of b (Step cpu) = standing_of b cpu
who_of b Tick = None
who_of b (Raise line) = None

-- what the processor finds whose step an event is
abbrev pub found_in : BoardState → Event → Option Found
found_in b (Step cpu) = found_on b cpu
found_in b Tick = None
found_in b (Raise line) = None

-- whether the line is pending that an event raises
abbrev pub is_pending : BoardState → Event → Bool
is_pending b (Step cpu) = false
is_pending b Tick = false
is_pending b (Raise line) = (line_at b.kernel line).pending

-- Calls and ticks release tasks, and with the profile exceptions, which end a task that gives its mutexes back: only of
-- an event that may be one of these it matters who waits.

abbrev pub is_call : Option Insn → Bool
is_call (Some (Insn.Syscall code)) = true
is_call _ = false

abbrev pub finds_call : Option Found → Bool
finds_call None = false
finds_call (Some found) = is_call found.insn

abbrev pub may_release : BoardState → Event → Option Found → Bool
may_release b (Step cpu) found = b.kernel.standard || finds_call found
may_release b Tick found = true
may_release b (Raise line) found = false

abbrev pub waiters_in : BoardState → Bool → List Waiter
waiters_in b asked = if asked then waiters_of b else []

-- what has to be read before an event
abbrev pub before_of : BoardState → Event → Before
before_of b event = record {
  event = event;
  who = who_of b event;
  found = found_in b event;
  pending = is_pending b event;
  standard = b.kernel.standard;
  waiters = waiters_in b (may_release b event (found_in b event));
  due = due_in b event;
  off = b.kernel.off;
}
