-- How GDB is told why the board stands where it is (GDB manual, "Stop Reply Packets").
use Rattle.std.specs.Prelude.{if◌then◌else◌, is_some, ℕ, ◌/◌, ◌%◌, nat_lt, Bool, true, false, List, [], ◌∷◌, ◌++◌, take}
use Rattle.std.specs.Prelude.{codes}
use Rattle.brd_exec.specs.declared.outcome.ExceptionCode.{ExceptionCode}
use Rattle.brd_board.specs.Board.{BoardState, registers_of}
use Rattle.brd_text.specs.Hex.{hex_of}
use Rattle.brd_gdb.specs.Hexes.{hexed}
use Rattle.brd_gdb.specs.Receiving.{packet_size}
use Rattle.brd_gdb.specs.declared.request.PointKind.{PointKind}
use Rattle.brd_stub.specs.declared.halt.Reason.{Reason}
use Rattle.brd_stub.specs.declared.halt.Halt.{Halt}
use Rattle.brd_stub.specs.declared.threads.Thread.{Thread}
use Rattle.brd_stub.specs.Threads.{number_of, executing}

-- The signal of an exception, by its number in GDB's protocol: of address errors SIGBUS, of bus errors SIGSEGV, of a
-- reserved instruction SIGILL, of an overflow SIGFPE, of a breakpoint and a trap SIGTRAP (own choice).
abbrev pub signal_of_code : ExceptionCode → ℕ
signal_of_code ExceptionCode.AdEL = 10
signal_of_code ExceptionCode.AdES = 10
signal_of_code ExceptionCode.IBE = 11
signal_of_code ExceptionCode.DBE = 11
signal_of_code ExceptionCode.Bp = 5
signal_of_code ExceptionCode.RI = 4
signal_of_code ExceptionCode.Ov = 8
signal_of_code ExceptionCode.Tr = 5

-- that of a reason: SIGINT where it was asked to stop, and else SIGTRAP where it is no exception
abbrev pub signal_of : Reason → ℕ
signal_of (Reason.Exception code) = signal_of_code code
signal_of Reason.Done = 5
signal_of (Reason.Break kind) = 5
signal_of (Reason.WatchedBreak kind) = 5
signal_of (Reason.Watch kind address) = 5
signal_of Reason.Interrupt = 2
signal_of Reason.Begin = 5
signal_of Reason.End = 5

-- the name of a break, and of a watch
abbrev pub break_name : PointKind → List ℕ
break_name PointKind.HardwareBreak = codes "hwbreak:;"
break_name other = codes "swbreak:;"

abbrev pub watch_name : PointKind → List ℕ
watch_name PointKind.ReadWatch = codes "rwatch:"
watch_name PointKind.AccessWatch = codes "awatch:"
watch_name other = codes "watch:"

-- what a reason adds
abbrev pub reason_text : Reason → List ℕ
reason_text Reason.Done = []
reason_text (Reason.Break kind) = break_name kind
reason_text (Reason.WatchedBreak kind) = break_name kind
reason_text (Reason.Exception code) = []
reason_text (Reason.Watch kind address) = watch_name kind ++ hex_of address ++ codes ";"
reason_text Reason.Interrupt = []
reason_text Reason.Begin = codes "replaylog:begin;"
reason_text Reason.End = codes "replaylog:end;"

-- the signal, the thread, and what the reason adds
abbrev pub signal_text : Reason → List ℕ
signal_text reason = codes "T" ++ hexed (signal_of reason ∷ [])

-- the number of a thread in two hexadecimal digits, or in four
abbrev pub number_text : ℕ → List ℕ
number_text number = if nat_lt number 256 then hexed (number ∷ []) else hexed (number / 256 ∷ number % 256 ∷ [])

abbrev pub thread_text : Thread → List ℕ
thread_text it = codes "thread:" ++ number_text (number_of it) ++ codes ";"

abbrev pub halt_text : Halt → List ℕ
halt_text it = signal_text it.reason ++ thread_text it.thread ++ reason_text it.reason

-- which thread that is (GDB manual, "General Query Packets", qC)
abbrev pub current_text : Thread → List ℕ
current_text it = codes "QC" ++ number_text (number_of it)

-- the front of a reply that a packet has room for
abbrev pub fitting : List ℕ → List ℕ
fitting reply = take packet_size reply

-- that a request is done, or refused
abbrev pub done_text : Bool → List ℕ
done_text true = codes "OK"
done_text false = codes "E01"

-- what a board does at the end of a journal (own choice)
abbrev pub end_text : BoardState → List ℕ
end_text b =
    if b.kernel.off then codes "The journal ends here: the board is off.\n"
    else (if is_some (registers_of b (executing b 1)) then codes "The journal ends here.\n"
    else codes "The journal ends here: no processor executes anything.\n")

-- what GDB's console shows where a move has ended for a reason
abbrev pub note_text : Reason → BoardState → List ℕ
note_text Reason.Done b = []
note_text (Reason.Break kind) b = []
note_text (Reason.WatchedBreak kind) b = codes "The watch was met by the instruction at this break.\n"
note_text (Reason.Exception code) b = []
note_text (Reason.Watch kind address) b = []
note_text Reason.Interrupt b = []
note_text Reason.Begin b = []
note_text Reason.End b = end_text b
