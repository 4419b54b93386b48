-- What comes with the bytes of a stream (GDB manual, "Overview"): packets, acknowledgments and interrupts. What stands
-- between them is skipped. A `$` within a packet begins another.
use Rattle.std.specs.Prelude.{ℕ, ◌+◌, ◌*◌, ◌%◌, ◌==◌, nat_lt, Bool, true, false, if◌then◌else◌, List, [], ◌∷◌, ◌++◌}
use Rattle.std.specs.Prelude.{length}
use Rattle.std.specs.Prelude.{Option, None, Some}
use Rattle.std.specs.Int.Bits.{bit_xor}
use Rattle.brd_text.specs.Numbers.{hex_digit_value}
use Rattle.brd_gdb.specs.declared.receiver.Arrival.{Arrival}
use Rattle.brd_gdb.specs.declared.receiver.Arrival.TheVariants.{Packet, TooLong, Damaged, Accepted, Refused, Interrupt}
use Rattle.brd_gdb.specs.declared.receiver.Part.{Part}
use Rattle.brd_gdb.specs.declared.receiver.Part.TheVariants.{Outside, Payload, Escape, Sum, LastDigit}

-- how many bytes of a payload are kept
abbrev pub packet_size : ℕ
packet_size = 16384

-- Where within the bytes a receiver is; the payload of the last packet so far, the sum of its bytes modulo 256, and
-- whether more of its bytes came than are kept.
pub record ReceiverState : Type 0 where
  pub part : Part
  pub payload : List ℕ
  pub sum : ℕ
  pub is_long : Bool

-- at the beginning of a packet
abbrev pub begun : ReceiverState
begun = record { part = Payload; payload = []; sum = 0; is_long = false }

-- with one more byte of the payload, if it is kept
abbrev pub kept : ReceiverState → ℕ → ReceiverState
kept r byte =
    if nat_lt (length r.payload) packet_size then record r { payload = r.payload ++ byte ∷ [] }
    else record r { is_long = true }

-- with one more byte in the sum, and there
abbrev pub at : ReceiverState → Part → ℕ → ReceiverState
at r part byte = record r { part = part; sum = (r.sum + byte) % 256 }

-- a receiver after one more byte
abbrev pub next_in : Part → ReceiverState → ℕ → ReceiverState
next_in Outside r byte = if byte == 36 then begun else r
next_in Payload r byte =
    if byte == 36 then begun
    else (if byte == 35 then record r { part = Sum }
    else (if byte == 125 then at r Escape byte
    else kept (at r Payload byte) byte))
next_in Escape r byte = kept (at r Payload byte) (bit_xor byte 32)
next_in Sum r byte = record r { part = LastDigit byte }
next_in (LastDigit first) r byte = record r { part = Outside }

abbrev pub next : ReceiverState → ℕ → ReceiverState
next r byte = next_in r.part r byte

-- two digits are this number
abbrev pub is_number : Option ℕ → Option ℕ → ℕ → Bool
is_number None low number = false
is_number (Some high) None number = false
is_number (Some high) (Some low) number = (16 * high + low) == number

-- what comes with a byte, where anything does
abbrev pub arrival_in : Part → ReceiverState → ℕ → Option Arrival
arrival_in Outside r byte =
    if byte == 43 then Some Accepted
    else (if byte == 45 then Some Refused
    else (if byte == 3 then Some Interrupt
    else None))
arrival_in (LastDigit first) r byte =
    if is_number (hex_digit_value first) (hex_digit_value byte) r.sum
    then (if r.is_long then Some TooLong else Some Packet)
    else Some Damaged
arrival_in part r byte = None

abbrev pub arrival : ReceiverState → ℕ → Option Arrival
arrival r byte = arrival_in r.part r byte
