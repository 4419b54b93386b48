-- The headline of `gdb`: what GDB reads of a source, a configuration and a journal.
use Rattle.std.specs.Prelude.{◌≡◌, ◌⊎◌, ℕ, ◌<◌, ◌≤◌, true, false, List, [], ◌∷◌, ◌++◌, length, take, slice_index_or}
use Rattle.std.specs.Prelude.{Option, Some, None, Result, Ok, Err}
use Rattle.std.specs.Io.KnownBytes.{Keeps}
use Rattle.brd_board.specs.Board.{BoardState}
use Rattle.brd_board.specs.declared.event.Event.{Event}
use Rattle.brd_gdb.specs.Packets.{framed}
use Rattle.brd_gdb.specs.Reading.{request_of}
use Rattle.brd_gdb.specs.Receiving.{arrival, next}
use Rattle.brd_gdb.specs.declared.receiver.Arrival.{Arrival}
use Rattle.brd_gdb.specs.declared.receiver.Arrival.TheVariants.{Packet}
use Rattle.brd_gdb.specs.declared.request.Monitor.TheVariants.{Goto, Back, GotoName}
use Rattle.brd_gdb.specs.declared.request.Request.{Request}
use Rattle.brd_gdb.specs.declared.request.Request.TheVariants.{Forward, BackwardContinue, BackwardStep, Monitor}
use Rattle.brd_gdb.specs.declared.request.Request.TheVariants.{ReadRegisters, ReadRegister, ReadMemory}
use Rattle.brd_image.specs.Headline.{Headline}
use Rattle.brd_inputs.specs.Start.{IsStart}
use Rattle.brd_inputs.specs.declared.fault.CommandFault.{CommandFault}
use Rattle.brd_inputs.specs.declared.start.Start.{Start}
use Rattle.brd_report.specs.Output.{Writes, WritesFront}
use Rattle.brd_stub.specs.Answers.{Reads}
use Rattle.brd_stub.specs.Marks.{mark_of}
use Rattle.brd_stub.specs.declared.session.Session.{Session}
use Rattle.brd_command.specs.Laws.{StandsAt}
use Rattle.brd_command.specs.Serving.{IsReady, Serves, accepted}
use Rattle.brd_command.specs.declared.gdb_server.Server.{Server}

-- the position of a server's session
abbrev pub position_of : Server → ℕ
position_of s = s.session.debugger.position

-- Where a position leads that was asked for: to it, or past the end nowhere.
abbrev pub LeadsTo : List Event → ℕ → ℕ → ℕ → Type 0
LeadsTo events asked from to = (to ≡ asked) ⊎ ((length events < asked) × (to ≡ from))

-- the same, where what was asked for may not be there
abbrev pub LeadsToSome : List Event → Option ℕ → ℕ → ℕ → Type 0
LeadsToSome events None from to = to ≡ from
LeadsToSome events (Some asked) from to = LeadsTo events asked from to

-- Where a request leads a session from its position of these events. A move forward leads to no earlier one, and a move
-- backward to no later one; `monitor goto` leads to the position that it names, or that of the mark with the name, and
-- `monitor back` to that of the mark. All else stays.
abbrev pub Leads : List Event → Session → Request → ℕ → Type 0
Leads events s (Forward how) to = s.debugger.position ≤ to
Leads events s BackwardContinue to = to ≤ s.debugger.position
Leads events s BackwardStep to = to ≤ s.debugger.position
Leads events s (Monitor (Goto asked)) to = LeadsTo events asked s.debugger.position to
Leads events s (Monitor (Back mark)) to = LeadsTo events (slice_index_or s.marks mark 0) s.debugger.position to
Leads events s (Monitor (GotoName name)) to = LeadsToSome events (mark_of s.named name) s.debugger.position to
Leads events s other to = to ≡ s.debugger.position

-- A byte leads nowhere but where it ends a packet, which leads where its request does.
abbrev pub LeadsOn : List Event → Session → Option Arrival → List ℕ → ℕ → Type 0
LeadsOn events s (Some Packet) payload to = Leads events s (request_of payload) to
LeadsOn events s other payload to = to ≡ s.debugger.position

abbrev pub ByteLeads : List Event → Server → ℕ → Server → Type 0
ByteLeads events s byte after =
    LeadsOn events s.session (arrival s.receiver byte) (next s.receiver byte).payload (position_of after)

-- A server has answered the first bytes of a text, one after the other (`HasServed`). At each it stood where the bytes
-- before it led, and answered by the board of that position, which is the headline's.
pub data HasShown (source elf config : List ℕ) (events : List Event) (first : Server) (text : List ℕ) :
    List ℕ → Server → List ℕ → Type 0 where
  nothing_yet : HasShown source elf config events first text [] first text
  one_more : (bytes answer : List ℕ) (s after : Server) (byte : ℕ) (left : List ℕ) →
      HasShown source elf config events first text bytes s (byte ∷ left) →
      StandsAt source elf config events s.session.debugger → Serves s byte answer false after →
      ByteLeads events s byte after → HasShown source elf config events first text (bytes ++ answer) after left

-- Bytes are answers to the first ones of a text, by a server over an object file's board and a journal's events, and
-- show the headline. These bytes are left.
pub record ShowsAnswers (source elf config journal text left bytes : List ℕ) : Type 0 where
  pub start : Start
  pub is_start : IsStart elf config journal start
  pub first : Server
  pub is_ready : IsReady start.board start.journal.events first
  pub last : Server
  pub stands : StandsAt source elf config start.journal.events last.session.debugger
  pub answers : HasShown source elf config start.journal.events first text bytes last left

-- the same up to the byte with which GDB goes
pub record ShowsAllAnswers (source elf config journal text bytes : List ℕ) : Type 0 where
  pub before : List ℕ
  pub answer : List ℕ
  pub byte : ℕ
  pub left : List ℕ
  pub shows : ShowsAnswers source elf config journal text (byte ∷ left) before
  pub after : Server
  pub last : Serves shows.last byte answer true after
  pub whole : bytes ≡ before ++ answer

-- up to that byte, or only to the first ones
abbrev pub ShowsFirstAnswers : List ℕ → List ℕ → List ℕ → List ℕ → List ℕ → List ℕ → Type 0
ShowsFirstAnswers source elf config journal text bytes =
    ShowsAllAnswers source elf config journal text bytes
    ⊎ ((left : List ℕ) × ShowsAnswers source elf config journal text left bytes)

-- What `gdb` has written by its end: answers to all bytes up to the one with which GDB goes, that show the headline;
-- or, where it ended otherwise, a front of such answers, or nothing.
abbrev pub ShowsUpToEnd : Result Unit CommandFault → List ℕ → List ℕ → List ℕ → List ℕ → List ℕ →
    Option (List ℕ) → Option (List ℕ) → Type 0
ShowsUpToEnd (Ok done) source elf config journal text old new =
    Writes (ShowsAllAnswers source elf config journal text) old new
ShowsUpToEnd (Err fault) source elf config journal text old new =
    WritesFront (ShowsFirstAnswers source elf config journal text) old new ⊎ Keeps old new

-- a request reads registers, or memory
abbrev pub IsRead : Request → Type 0
IsRead ReadRegisters = Unit {0}
IsRead (ReadRegister number) = Unit {0}
IsRead (ReadMemory address length) = Unit {0}
IsRead other = ⊥

-- The answer to a packet that reads is by the headline's board after the first n events, n being the position: of the
-- thread that GDB has chosen, or of its memory. (What GDB's console shows with it, if anything, stands before.)
pub record ReadsHeadline (source elf config : List ℕ) (events : List Event) (request : Request) (s : Server)
    (answer : List ℕ) : Type 0 where
  pub board : BoardState
  pub headline : Headline source elf config (take (position_of s) events) board
  pub reply : List ℕ
  pub reads : Reads board s.session.selection.reading request reply
  pub shown : List ℕ
  pub whole : answer ≡ accepted s ++ shown ++ framed reply
