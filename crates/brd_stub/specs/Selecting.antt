-- Which threads requests of GDB are of (GDB manual, "Packets": H and T). Registers are read of the thread that `Hg` has
-- selected. A move steps the thread that it names itself, or that `Hc` names; where `Hc` names none, the one that was
-- chosen last (own choice): by `Hg`, by a stop in it, or by `T`. GDB 13 asks by `T` whether a thread is still there
-- where it comes back to it after it has stepped another one over a break, and says so by no other packet.
use Rattle.std.specs.Prelude.{Bool, true, false, Option, Some, None}
use Rattle.brd_board.specs.Board.{BoardState}
use Rattle.brd_gdb.specs.declared.request.ThreadId.{ThreadId}
use Rattle.brd_gdb.specs.declared.request.ThreadId.TheVariants as id
use Rattle.brd_gdb.specs.declared.request.ThreadKind.{ThreadKind}
use Rattle.brd_stub.specs.declared.selection.Selection.{Selection}
use Rattle.brd_stub.specs.declared.threads.Thread.{Thread}
use Rattle.brd_stub.specs.Threads.{thread_for, or_thread, switched}

-- at first a thread that is given
abbrev pub beginning : Thread → Selection
beginning it = record { reading = it; named = None; chosen = it }

-- the thread that a move steps that names none itself
abbrev pub stepping_of : Selection → Thread
stepping_of it = or_thread it.named it.chosen

-- `Hg` has selected a thread, or a move has stopped in it
abbrev pub chosen_by : Thread → Selection → Selection
chosen_by thread it = record it { reading = thread; chosen = thread }

-- `Hc` has named one, or any
abbrev pub name_of : ThreadId → Thread → Option Thread
name_of id.All thread = None
name_of id.Any thread = None
name_of (id.One number) thread = Some thread

abbrev pub named_by : ThreadId → Thread → Selection → Selection
named_by name thread it = record it { named = name_of name thread }

-- `T` has asked for a thread
abbrev pub asked_by : ThreadKind → BoardState → ThreadId → Selection → Selection
asked_by kind b name it = record it { chosen = thread_for kind b name it.chosen }

-- `Hc`, or `Hg`, has selected a thread, where there is one
abbrev pub selected_by : Bool → Option Thread → ThreadId → Selection → Selection
selected_by moves None name it = it
selected_by true (Some thread) name it = named_by name thread it
selected_by false (Some thread) name it = chosen_by thread it

-- other things are threads from now on
abbrev pub switched_by : ThreadKind → BoardState → Selection → Selection
switched_by kind b it =
    record { reading = switched kind b it.reading; named = None; chosen = switched kind b it.chosen }
