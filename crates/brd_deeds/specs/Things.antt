-- The numbers of what orders tasks and handlers: things that differ have different ones, since IDs are words and parts
-- halfwords.
use Rattle.std.specs.Prelude.{◌+◌, ◌*◌, ℕ}
use Rattle.brd_deeds.specs.declared.thing.{ThingKind.ThingKind, Thing.Thing}
use Rattle.brd_deeds.specs.declared.thing.ThingKind.TheVariants.{Semaphore, FlagBit, Datum, Room, Meeting, SpinLock}
use Rattle.brd_deeds.specs.declared.thing.ThingKind.TheVariants.{Processor, Dispatching, Start, WakeUp, Going, Halt}
use Rattle.brd_deeds.specs.declared.thing.ThingKind.TheVariants.{Word, Mutex, Block, Message, Handler}

abbrev pub rank_of : ThingKind → ℕ
rank_of Semaphore = 0
rank_of FlagBit = 1
rank_of Datum = 2
rank_of Room = 3
rank_of Meeting = 4
rank_of SpinLock = 5
rank_of Processor = 6
rank_of Dispatching = 7
rank_of Start = 8
rank_of WakeUp = 9
rank_of Going = 10
rank_of Halt = 11
rank_of Word = 12
rank_of Mutex = 13
rank_of Block = 14
rank_of Message = 15
rank_of Handler = 16

abbrev pub number_of : Thing → ℕ
number_of it = (rank_of it.kind * 65536 + it.part) * 4294967296 + it.id

-- a thing that has no parts, and a part of one: a bit of a flag, a place of a data queue; of a block or a message the
-- part is its pool or its mailbox

abbrev pub whole : ThingKind → ℕ → Thing
whole kind id = record { kind = kind; id = id; part = 0 }

abbrev pub part_of : ThingKind → ℕ → ℕ → Thing
part_of kind id part = record { kind = kind; id = id; part = part }
