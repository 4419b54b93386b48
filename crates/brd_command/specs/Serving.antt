-- What a server of GDB answers to the bytes that it receives (GDB manual, "Overview", "Packet Acknowledgment").
use Rattle.std.specs.Prelude.{◌≡◌, ℕ, Bool, true, false, if◌then◌else◌, List, [], ◌∷◌, ◌++◌, codes, Option, Some}
use Rattle.brd_board.specs.Board.{BoardState}
use Rattle.brd_board.specs.declared.event.Event.{Event}
use Rattle.brd_gdb.specs.Output.{Outputs}
use Rattle.brd_gdb.specs.Packets.{framed}
use Rattle.brd_gdb.specs.Reading.{request_of}
use Rattle.brd_gdb.specs.Receiving.{arrival, next}
use Rattle.brd_gdb.specs.declared.receiver.Arrival.{Arrival}
use Rattle.brd_gdb.specs.declared.receiver.Arrival.TheVariants.{Packet, TooLong, Damaged}
use Rattle.brd_gdb.specs.declared.receiver.Part.TheVariants.{Outside}
use Rattle.brd_gdb.specs.declared.request.Request.{Request}
use Rattle.brd_gdb.specs.declared.request.Request.TheVariants.{StartNoAckMode, Detach, Kill, KillProcess, Monitor}
use Rattle.brd_stub.specs.Answers.{Answers, Begins, Shows}
use Rattle.brd_command.specs.declared.gdb_server.Server.{Server}

-- a server before the first byte
pub record IsReady (boot : BoardState) (events : List Event) (s : Server) : Type 0 where
  pub receives : s.receiver ≡ record { part = Outside; payload = []; sum = 0; is_long = false }
  pub begins : Begins boot events s.session
  pub acknowledges : s.acknowledges ≡ true

-- the acknowledgment of a packet, and that of a damaged one
abbrev pub accepted : Server → List ℕ
accepted s = if s.acknowledges then 43 ∷ [] else []

abbrev pub refused : Server → List ℕ
refused s = if s.acknowledges then 45 ∷ [] else []

-- What the console shows of a request of which the session says this itself: just that. In the place of what it says to
-- `monitor` may be another text, as a trace or a summary.
abbrev pub IsShown : Request → List ℕ → List ℕ → Type 0
IsShown (Monitor command) said text = Unit {0}
IsShown request said text = text ≡ said

-- The session's answer to a request came at the end of some bytes: the reply, after what is shown on the console, which
-- of a move is the session's text.
pub record AddsAnswer (request : Request) (s after : Server) (old new : List ℕ) : Type 0 where
  pub console : List ℕ
  pub reply : List ℕ
  pub shown : List ℕ
  pub answers : Answers s.session request reply after.session
  pub tells : Shows s.session request after.session console
  pub shows : Outputs console shown
  pub added : new ≡ old ++ shown ++ framed reply
  pub receives : after.receiver ≡ s.receiver
  pub acknowledges : after.acknowledges ≡ s.acknowledges

-- What is answered to a packet of a request, whether that is all, and the server after it. `QStartNoAckMode` is the
-- last packet that is acknowledged. After `D`, `vKill` and `k` nothing is read; `k` has no reply.
abbrev pub AnswersPacket : Request → Server → List ℕ → Bool → Server → Type 0
AnswersPacket StartNoAckMode s bytes over after =
    (bytes ≡ accepted s ++ framed (codes "OK")) × (over ≡ false) × (after ≡ record s { acknowledges = false })
AnswersPacket Detach s bytes over after =
    (bytes ≡ accepted s ++ framed (codes "OK")) × (over ≡ true) × (after ≡ s)
AnswersPacket KillProcess s bytes over after =
    (bytes ≡ accepted s ++ framed (codes "OK")) × (over ≡ true) × (after ≡ s)
AnswersPacket Kill s bytes over after = (bytes ≡ accepted s) × (over ≡ true) × (after ≡ s)
AnswersPacket request s bytes over after = AddsAnswer request s after (accepted s) bytes × (over ≡ false)

-- What a server that has received a byte answers to what has come with it. A damaged packet is refused, and one that is
-- too long has an error as its answer. Acknowledgments are skipped, and so is an interrupt: a move has ended before it
-- is read, and has told where.
abbrev pub AnswersArrival : Option Arrival → Server → List ℕ → Bool → Server → Type 0
AnswersArrival (Some Packet) s bytes over after = AnswersPacket (request_of s.receiver.payload) s bytes over after
AnswersArrival (Some TooLong) s bytes over after =
    (bytes ≡ accepted s ++ framed (codes "E07")) × (over ≡ false) × (after ≡ s)
AnswersArrival (Some Damaged) s bytes over after = (bytes ≡ refused s) × (over ≡ false) × (after ≡ s)
AnswersArrival other s bytes over after = (bytes ≡ []) × (over ≡ false) × (after ≡ s)

-- what a server answers to a byte, whether that is all, and the server after it
abbrev pub Serves : Server → ℕ → List ℕ → Bool → Server → Type 0
Serves s byte bytes over after =
    AnswersArrival (arrival s.receiver byte) (record s { receiver = next s.receiver byte }) bytes over after

-- A server has answered the first bytes of a text, one after the other, and goes on: what it has answered, what it is
-- then, and which bytes are left.
pub data HasServed (first : Server) (text : List ℕ) : List ℕ → Server → List ℕ → Type 0 where
  nothing_yet : HasServed first text [] first text
  one_more : (bytes answer : List ℕ) (s after : Server) (byte : ℕ) (left : List ℕ) →
      HasServed first text bytes s (byte ∷ left) → Serves s byte answer false after →
      HasServed first text (bytes ++ answer) after left
