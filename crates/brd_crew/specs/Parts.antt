-- Parts of a shard, in which several threads search it.
use Rattle.std.specs.Prelude.{ℕ, ◌+◌, ◌*◌, ◌<◌, List, All, Option, IfSome}
use Rattle.brd_board.specs.declared.event.Event.{Event}
use Rattle.brd_explore.specs.declared.shard.Shard.{Shard}
use Rattle.brd_explore.specs.declared.wanted.Wanted.{Wanted}
use Rattle.brd_explore.specs.Schedules.{Place}
use Rattle.brd_explore.specs.Searching.{IsFound}
use Rattle.brd_explore.specs.Shards.{NoneFailsInShard}

-- A shard's schedules are dealt out once more, to a number of parts: part i of n parts of shard K of M, all counted from
-- 0, is shard i * M + K of n * M.
abbrev pub part_of : Shard → ℕ → ℕ → Shard
part_of shard parts part = record { number = part * shard.of + shard.number; of = parts * shard.of }

-- a shard can be dealt into so many parts: there are some, and their numbers are words of 32 bits
pub record Fits (shard : Shard) (parts : ℕ) : Type 0 where
  pub some : 0 < parts
  pub number : shard.number < shard.of
  pub of : parts * shard.of < 4294967296

-- no schedule of a part fails
abbrev pub NoneInPart : Wanted → Shard → ℕ → List Event → Place → ℕ → Type 0
NoneInPart wanted shard parts among from part = NoneFailsInShard wanted (part_of shard parts part) among from

-- What a thread has found is so: a schedule is one that was found, and of no part that it has done one fails.
pub record HasSearched (wanted : Wanted) (shard : Shard) (parts : ℕ) (among : List Event) (from : Place)
    (schedule : Option (List Event)) (done : List ℕ) : Type 0 where
  pub found : IfSome schedule (IsFound wanted among from)
  pub none : All (NoneInPart wanted shard parts among from) done
