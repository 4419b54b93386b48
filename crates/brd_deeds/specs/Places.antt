-- The places of data queues: the k-th datum that comes into one, counted from 0, goes into place k modulo its capacity.
-- A datum that a waiting sender holds comes into it when the wait ends.
use Rattle.std.specs.Prelude.{◌+◌, ◌-◌, ◌%◌, ◌==◌, nat_lt, ℕ, Bool, if◌then◌else◌, Option, None, Some}
use Rattle.brd_deeds.specs.declared.past.Ring.{Ring}
use Rattle.brd_deeds.specs.declared.log.{Doer.Doer, Log.Log}
use Rattle.brd_deeds.specs.Past.{ring_in, with_ring}
use Rattle.brd_deeds.specs.Acts.{sends_datum, gets_datum, leaves_room, takes_room, comes_to_meet, meets_other}

-- the place of the next datum
abbrev pub next_place : Ring → ℕ
next_place q = (q.first + q.stored) % q.capacity

abbrev pub is_full : Ring → Bool
is_full q = q.stored == q.capacity

-- the data queue with a datum more, and without its oldest

abbrev pub with_datum : Ring → Ring
with_datum q = if nat_lt q.stored q.capacity then record q { stored = q.stored + 1 } else q

abbrev pub without_oldest : Ring → Ring
without_oldest q = record q { first = (q.first + 1) % q.capacity; stored = q.stored - 1 }

-- A datum comes in: sent, or forced into a full queue, which drops its oldest datum and has nobody leave room.

abbrev pub comes_in : Doer → ℕ → Ring → Log → Log
comes_in doer id q log =
    with_ring id (with_datum q) (sends_datum doer id (next_place q) (takes_room doer id (next_place q) log))

abbrev pub comes_in_for_oldest : Doer → ℕ → Ring → Log → Log
comes_in_for_oldest doer id q log =
    with_ring id (with_datum (without_oldest q)) (sends_datum doer id (next_place (without_oldest q)) log)

-- the oldest datum goes out
abbrev pub goes_out : Doer → ℕ → Ring → Log → Log
goes_out doer id q log = with_ring id (without_oldest q) (leaves_room doer id q.first (gets_datum doer id q.first log))

-- A task or handler sends or receives at once. Over a data queue of capacity 0 it meets who waits.

abbrev pub sends_by : Doer → ℕ → Ring → Log → Log
sends_by doer id q log = if q.capacity == 0 then comes_to_meet doer log else comes_in doer id q log

abbrev pub sends : Doer → ℕ → Log → Log
sends doer id log = sends_by doer id (ring_in log.past id) log

abbrev pub forces_by : Doer → ℕ → Ring → Log → Log
forces_by doer id q log =
    if q.capacity == 0 then comes_to_meet doer log
    else (if is_full q then comes_in_for_oldest doer id q log else comes_in doer id q log)

abbrev pub forces : Doer → ℕ → Log → Log
forces doer id log = forces_by doer id (ring_in log.past id) log

abbrev pub receives_by : Doer → ℕ → Ring → Log → Log
receives_by doer id q log = if q.capacity == 0 then comes_to_meet doer log else goes_out doer id q log

abbrev pub receives : Doer → ℕ → Log → Log
receives doer id log = receives_by doer id (ring_in log.past id) log

-- a task begins to wait
abbrev pub begins_to_wait : Doer → ℕ → Log → Log
begins_to_wait doer id log = if (ring_in log.past id).capacity == 0 then comes_to_meet doer log else log

-- Its wait ends with what it waited for, by a call of another one.

abbrev pub meets_if : Option ℕ → Doer → Log → Log
meets_if None doer log = log
meets_if (Some second) doer log = meets_other second doer log

abbrev pub sends_at_last : Option ℕ → Doer → ℕ → Log → Log
sends_at_last caller doer id log =
    if (ring_in log.past id).capacity == 0 then meets_if caller doer log else sends doer id log

abbrev pub receives_at_last : Option ℕ → Doer → ℕ → Log → Log
receives_at_last caller doer id log =
    if (ring_in log.past id).capacity == 0 then meets_if caller doer log else receives doer id log
