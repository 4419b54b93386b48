-- What a session answers, and what becomes of it.
use Rattle.std.specs.Prelude.{◌≡◌, ℕ, ◌≤◌, nat_le, Bool, true, false, if◌then◌else◌, is_some, List, [], length}
use Rattle.std.specs.Prelude.{nat_lt, slice_index_or, slice_set, replicate, Option, Some, None, codes}
use Rattle.brd_board.specs.declared.event.Event.{Event}
use Rattle.brd_board.specs.Board.{BoardState}
use Rattle.brd_debug.specs.Debugger.{shown}
use Rattle.brd_debug.specs.Stops.{no_stops}
use Rattle.brd_gdb.specs.Receiving.{packet_size}
use Rattle.brd_gdb.specs.declared.request.PointKind.{PointKind}
use Rattle.brd_gdb.specs.declared.request.Move.{Move}
use Rattle.brd_gdb.specs.declared.request.Move.TheVariants as move
use Rattle.brd_gdb.specs.declared.request.ThreadId.{ThreadId}
use Rattle.brd_gdb.specs.declared.request.ThreadId.TheVariants as id
use Rattle.brd_gdb.specs.declared.request.ThreadKind.{ThreadKind}
use Rattle.brd_gdb.specs.declared.request.MarkName.{MarkName}
use Rattle.brd_gdb.specs.declared.request.Monitor.TheVariants.{Goto, Threads, Mark, Back, MarkByName, GotoName}
use Rattle.brd_gdb.specs.declared.request.Request.{Request}
use Rattle.brd_gdb.specs.declared.request.Request.TheVariants as request
use Rattle.brd_stub.specs.declared.session.Session.{Session}
use Rattle.brd_stub.specs.declared.points.Point.{Point}
use Rattle.brd_stub.specs.declared.halt.Reason.{Reason}
use Rattle.brd_stub.specs.declared.halt.Told.TheVariants as told
use Rattle.brd_stub.specs.Registers.{context_or_rest, registers_text, register_text}
use Rattle.brd_stub.specs.BadAddress.{bad_address}
use Rattle.brd_stub.specs.Reading.{IsMemoryText}
use Rattle.brd_stub.specs.Marks.{mark_of, with_mark}
use Rattle.brd_stub.specs.Points.{may_set, with_point, without_point}
use Rattle.brd_stub.specs.Moving.{stepping, of_all, moved_to, Ended, GoesForward, GoesBack}
use Rattle.brd_stub.specs.declared.threads.Thread.{Thread}
use Rattle.brd_stub.specs.declared.threads.Whose.{Whose}
use Rattle.brd_stub.specs.Threads.{context_at, fault_at, first_task, kind_by, chosen_first, may_show, switched}
use Rattle.brd_stub.specs.Threads.{thread_named}
use Rattle.brd_stub.specs.Stepping.{stepper_back, stepped_by}
use Rattle.brd_stub.specs.Selecting.{beginning, stepping_of, chosen_by, selected_by, asked_by, switched_by}
use Rattle.brd_stub.specs.Halting.{halt_text, current_text, fitting, done_text, note_text}

-- What is replied to a request that reads a board: the registers of a thread, or memory. A write is refused.
abbrev pub Reads : BoardState → Thread → Request → List ℕ → Type 0
Reads board thread request.ReadRegisters reply =
    reply
    ≡ registers_text board.memory.order (context_or_rest (context_at board thread)) (fault_at board thread)
    (bad_address board thread)
Reads board thread (request.ReadRegister number) reply =
    reply
    ≡ register_text board.memory.order (context_or_rest (context_at board thread)) (fault_at board thread)
    (bad_address board thread) number
Reads board thread (request.ReadMemory address length) reply = IsMemoryText board.memory address length reply
Reads board thread request.Write reply = reply ≡ codes "E01"
Reads board thread other reply = Unit {0}

-- a session that a move has left as it has ended: the thread in which it has stopped is chosen
abbrev pub at_stop : Session → Ended → Session
at_stop s e = record s {
  debugger = e.debugger;
  told = e.stop.told;
  halt = e.stop.halt;
  selection = chosen_by e.stop.halt.thread s.selection;
}

abbrev pub Stops : (Ended → Type 0) → Session → Session → Type 0
Stops Goes s next = (e : Ended) × Goes e × (next ≡ at_stop s e)

-- a session that is to go to a position, which has to be one of the journal
abbrev pub gone_to : Session → ℕ → Session
gone_to s position = record s {
  debugger = if nat_le position (length s.debugger.events) then moved_to s.debugger position else s.debugger;
  told = told.Nothing;
}

-- A mark stands at a position, of ten that there are; at first all stand at 0. Where there is no mark, none is set.
abbrev pub marks_first : List ℕ
marks_first = replicate 10 0

abbrev pub marked_at : List ℕ → ℕ → ℕ → List ℕ
marked_at marks number position = if nat_lt number 10 then slice_set marks number position else marks

abbrev pub marked_here : Session → ℕ → Session
marked_here s number = record s { marks = marked_at s.marks number s.debugger.position }

-- Marks with names: one stands at the position, or is gone to, if it is there.
abbrev pub named_here : Session → MarkName → Session
named_here s name = record s { named = with_mark s.named name s.debugger.position }

abbrev pub gone_to_some : Session → Option ℕ → Session
gone_to_some s None = s
gone_to_some s (Some position) = gone_to s position

abbrev pub gone_to_name : Session → MarkName → Session
gone_to_name s name = gone_to_some s (mark_of s.named name)

-- a session of which other things are threads from now on, which they may be
abbrev pub showing : Session → ThreadKind → Session
showing s kind = record s {
  kind = kind;
  halt = record s.halt { thread = switched kind (shown s.debugger) s.halt.thread };
  selection = switched_by kind (shown s.debugger) s.selection;
}

abbrev pub with_threads : Session → ThreadKind → Session
with_threads s kind = if may_show kind (shown s.debugger) then showing s kind else s

-- the thread that steps where none is named, among those that there are
abbrev pub whose_of : Session → Whose
whose_of s = record { kind = s.kind; thread = stepping_of s.selection }

-- the thread of a name, and of any that of the last stop
abbrev pub named_in : Session → ThreadId → Option Thread
named_in s thread = thread_named s.kind (shown s.debugger) thread s.halt.thread

abbrev pub point : PointKind → ℕ → ℕ → Point
point kind address length = record { kind = kind; address = address; length = length }

-- A move forward may name the thread that it steps, which has to be there.
abbrev pub name_in : Move → ThreadId
name_in move.Continue = id.Any
name_in (move.Step it) = it
name_in (move.Alone number) = id.One number
name_in (move.Range it start end) = it

abbrev pub may_move : Session → Move → Bool
may_move s how = is_some (named_in s (name_in how))

-- Such a move ends at a stop. One that may not be made changes nothing.
pub record MovesForward (s : Session) (how : Move) (next : Session) : Type 0 where
  pub goes : may_move s how ≡ true →
      Stops (GoesForward s.points (whose_of s) s.told
      (stepping s.points (stepped_by s.kind (shown s.debugger) (stepping_of s.selection) how) s.debugger)) s next
  pub stays : may_move s how ≡ false → next ≡ s

-- What becomes of a session by a request. What is read, and all else, changes nothing.
abbrev pub Becomes : Session → Request → Session → Type 0
Becomes s (request.Forward how) next = MovesForward s how next
Becomes s request.BackwardContinue next =
    Stops (GoesBack s.points (whose_of s) s.told (stepping s.points (of_all None) s.debugger)) s next
Becomes s request.BackwardStep next =
    Stops (GoesBack s.points (whose_of s) s.told
    (stepping s.points (of_all (Some (stepper_back (shown s.debugger) (stepping_of s.selection)))) s.debugger)) s next
Becomes s (request.Monitor (Goto position)) next = next ≡ gone_to s position
Becomes s (request.Monitor (Threads kind)) next = next ≡ with_threads s kind
Becomes s (request.Monitor (Mark number)) next = next ≡ marked_here s number
Becomes s (request.Monitor (Back number)) next = next ≡ gone_to s (slice_index_or s.marks number 0)
Becomes s (request.Monitor (MarkByName name)) next = next ≡ named_here s name
Becomes s (request.Monitor (GotoName name)) next = next ≡ gone_to_name s name
Becomes s (request.SetThread moves thread) next =
    next ≡ record s { selection = selected_by moves (named_in s thread) thread s.selection }
Becomes s (request.IsAlive thread) next =
    next ≡ record s { selection = asked_by s.kind (shown s.debugger) thread s.selection }
Becomes s (request.SetPoint kind address length) next =
    next ≡ record s { points = with_point s.points (point kind address length) }
Becomes s (request.ClearPoint kind address length) next =
    next ≡ record s { points = without_point s.points (point kind address length) }
Becomes s other next = next ≡ s

-- What is replied: to a move, and to `?`, why it has ended, and to `qC` in which thread; to what changes something
-- else, whether that was done, and to a move that may not be made, that it wasn't.
abbrev pub Says : Session → Request → Session → List ℕ → Type 0
Says s (request.Forward how) next reply =
    reply ≡ (if may_move s how then fitting (halt_text next.halt) else done_text false)
Says s request.BackwardContinue next reply = reply ≡ fitting (halt_text next.halt)
Says s request.BackwardStep next reply = reply ≡ fitting (halt_text next.halt)
Says s request.StopReason next reply = reply ≡ fitting (halt_text s.halt)
Says s request.CurrentThread next reply = reply ≡ fitting (current_text s.halt.thread)
Says s (request.SetThread moves thread) next reply = reply ≡ done_text (is_some (named_in s thread))
Says s (request.IsAlive thread) next reply = reply ≡ done_text (is_some (named_in s thread))
Says s (request.SetPoint kind address length) next reply =
    reply ≡ done_text (may_set s.points (point kind address length))
Says s (request.ClearPoint kind address length) next reply = reply ≡ done_text true
Says s other next reply = Unit {0}

-- What GDB's console shows of a move that is made. What it shows of other requests isn't laid down.
abbrev pub console_text : Session → List ℕ
console_text s = note_text s.halt.reason (shown s.debugger)

abbrev pub Shows : Session → Request → Session → List ℕ → Type 0
Shows s (request.Forward how) next console = console ≡ (if may_move s how then console_text next else [])
Shows s request.BackwardContinue next console = console ≡ console_text next
Shows s request.BackwardStep next console = console ≡ console_text next
Shows s other next console = Unit {0}

-- What a session answers to a request, and what it is then: it reads the board at its position, moves as it is asked
-- and tells why it has stopped, and its reply fits a packet.
pub record Answers (s : Session) (request : Request) (reply : List ℕ) (next : Session) : Type 0 where
  pub reads : Reads (shown s.debugger) s.selection.reading request reply
  pub becomes : Becomes s request next
  pub says : Says s request next reply
  pub short : length reply ≤ packet_size

-- A session begins before the first event, where all marks stand, with no point. Its threads are the tasks, if the
-- board has some, and it reads and steps the one that executes.
pub record Begins (boot : BoardState) (events : List Event) (s : Session) : Type 0 where
  pub debugger : s.debugger ≡ record { boot = boot; events = events; position = 0; stops = no_stops }
  pub points : s.points ≡ []
  pub told : s.told ≡ told.Nothing
  pub kind : s.kind ≡ kind_by (first_task boot)
  pub halt : s.halt ≡ record { thread = chosen_first boot (first_task boot); reason = Reason.Done }
  pub selection : s.selection ≡ beginning (chosen_first boot (first_task boot))
  pub marks : s.marks ≡ marks_first
  pub named : s.named ≡ []
