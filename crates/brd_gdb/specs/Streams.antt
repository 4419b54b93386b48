-- What the bytes of a stream bring, one after the other.
use Rattle.std.specs.Prelude.{ℕ, List, [], ◌∷◌, Option, None, Some}
use Rattle.brd_gdb.specs.Receiving.{ReceiverState, arrival, next}
use Rattle.brd_gdb.specs.declared.receiver.Arrival.{Arrival}

-- a receiver after some bytes
abbrev pub after : ReceiverState → List ℕ → ReceiverState
after r [] = r
after r (byte ∷ bytes) = after (next r byte) bytes

-- one more at the front, if there is one
abbrev pub with_first : Option Arrival → List Arrival → List Arrival
with_first None others = others
with_first (Some one) others = one ∷ others

-- what comes with some bytes, in this order
abbrev pub arrivals : ReceiverState → List ℕ → List Arrival
arrivals r [] = []
arrivals r (byte ∷ bytes) = with_first (arrival r byte) (arrivals (next r byte) bytes)
