-- What is remembered of a run while its deeds are listed: of each task and handler, by its strand, what it has loaded,
-- or whether it has done a SYNC since its last access; of each processor whether it is CPU-locked, and whether
-- dispatching is disabled there; and of each data queue how many data it holds, and where the oldest lies. And the
-- deeds of an event so far.
use Rattle.std.specs.Prelude.{◌++◌, ℕ, false, List, [], ◌∷◌, map, replicate, slice_index_or, slice_set}
use Rattle.brd_config.specs.declared.objects.QueueConfig.{QueueConfig}
use Rattle.brd_order.specs.declared.deed.{Deed.Deed}
use Rattle.brd_order.specs.declared.deed.Act.TheVariants.{Touches, Acquires, Releases, Hears, Heeds}
use Rattle.brd_order.specs.declared.deed.Touch.{Touch}
use Rattle.brd_deeds.specs.declared.thing.Thing.{Thing}
use Rattle.brd_deeds.specs.declared.past.{Stamp.Stamp, Trail.Trail, Hold.Hold, Ring.Ring, Past.Past}
use Rattle.brd_deeds.specs.declared.past.Trail.TheVariants.{Nothing}
use Rattle.brd_deeds.specs.declared.log.{Done.Done, Log.Log}
use Rattle.brd_deeds.specs.Things.{number_of}

-- At the boot.

abbrev pub free : Hold
free = record { locked = false; disabled = false }

abbrev pub ring_of : ℕ → Ring
ring_of capacity = record { capacity = capacity; first = 0; stored = 0 }

-- the data queues of a configuration, which has one of an ID
abbrev pub with_rings : List Ring → List QueueConfig → List Ring
with_rings rings [] = rings
with_rings rings (queue ∷ queues) = with_rings (slice_set rings queue.id (ring_of queue.capacity)) queues

-- 256 tasks and 160 handlers, 8 processors from 1 on, data queues by ID
abbrev pub past_of : List QueueConfig → Past
past_of queues = record {
  trails = replicate 416 Nothing;
  holds = replicate 9 free;
  rings = with_rings (replicate 256 (ring_of 0)) queues;
}

-- What is remembered of one of them.

abbrev pub trail_in : Past → ℕ → Trail
trail_in past strand = slice_index_or past.trails strand Nothing

abbrev pub hold_in : Past → ℕ → Hold
hold_in past cpu = slice_index_or past.holds cpu free

abbrev pub ring_in : Past → ℕ → Ring
ring_in past id = slice_index_or past.rings id (ring_of 0)

abbrev pub with_trail : ℕ → Trail → Log → Log
with_trail strand trail log = record log { past = record log.past { trails = slice_set log.past.trails strand trail } }

abbrev pub with_hold : ℕ → Hold → Log → Log
with_hold cpu hold log = record log { past = record log.past { holds = slice_set log.past.holds cpu hold } }

abbrev pub with_ring : ℕ → Ring → Log → Log
with_ring id ring log = record log { past = record log.past { rings = slice_set log.past.rings id ring } }

-- What a strand does.

abbrev pub touches : ℕ → Touch → Done
touches strand touch = record { strand = strand; act = Touches touch }

abbrev pub acquires : ℕ → Thing → Done
acquires strand thing = record { strand = strand; act = Acquires (number_of thing) }

abbrev pub releases : ℕ → Thing → Done
releases strand thing = record { strand = strand; act = Releases (number_of thing) }

abbrev pub hears : ℕ → Thing → Done
hears strand thing = record { strand = strand; act = Hears (number_of thing) }

abbrev pub heeds : ℕ → Done
heeds strand = record { strand = strand; act = Heeds }

-- a deed, with the position of its event and the address of the instruction
abbrev pub stamped : Stamp → Done → Deed
stamped stamp done = record { strand = done.strand; act = done.act; event = stamp.event; place = stamp.place }

-- what is done, one after the other, in an event
abbrev pub notes : Stamp → List Done → Log → Log
notes stamp dones log = record log { deeds = log.deeds ++ map (stamped stamp) dones }
