-- Fixed memory pools (uITRON 4.0 specification, "Fixed-sized Memory Pools"): where the blocks of one lie, which of them
-- are out, and the tasks that wait for one. What stands in a block isn't said here.
use Rattle.std.specs.Prelude.{ℕ, zero, suc, ◌+◌, ◌-◌, ◌%◌, ◌^◌, ◌==◌, Bool, false, true, not, ◌&&◌, if◌then◌else◌, List}
use Rattle.std.specs.Prelude.{[], ◌∷◌, map, find, Option, None, Some}
use Rattle.std.specs.List.{list_any}
use Rattle.std.specs.Option.{option_map}
use Rattle.brd_queue.specs.declared.entry.QueueOrder.{QueueOrder}
use Rattle.brd_queue.specs.Queue.{Plain, without, placed, reordered}
use Rattle.brd_objects.specs.QueueOrder.{order_of}
use Rattle.brd_objects.specs.Table.{Table, made_below}
use Rattle.brd_objects.specs.Waiters.{first_in}
use Rattle.brd_objects.specs.declared.block.Block.{Block}
use Rattle.brd_objects.specs.declared.block.PoolSetup.{PoolSetup}

pub record PoolState : Type 0 where
  pub order : QueueOrder  -- in which tasks wait
  pub blocks : List Block  -- the one with the lowest address first
  pub waiters : List Plain

-- how many bytes lie between the starts of two blocks: those of a block, rounded up to a multiple of 4
abbrev pub distance_of : ℕ → ℕ
distance_of size = size + 3 - (size + 3) % 4

-- so many blocks, one after the other from an address on, none of them out
abbrev pub laid : ℕ → ℕ → ℕ → List Block
laid zero distance address = []
laid (suc count) distance address =
    record { address = address; out = false } ∷ laid count distance ((address + distance) % 2 ^ 32)

-- as it is laid out: all blocks are there, and nobody waits
abbrev pub pool_of : PoolSetup → PoolState
pool_of setup =
    record {
      order = order_of setup.attributes.0;
      blocks = laid setup.count setup.distance setup.start;
      waiters = [];
    }

abbrev pub made_pools : List PoolSetup → Table PoolState
made_pools setups = made_below (λ setup. setup.id) pool_of setups 256

-- the block with the lowest address that isn't out
abbrev pub free_block : List Block → Option ℕ
free_block blocks = option_map (λ b. b.address) (find (λ b. not b.out) blocks)

-- how many blocks aren't out
abbrev pub free_among : List Block → ℕ
free_among [] = 0
free_among (b ∷ bs) = if b.out then free_among bs else 1 + free_among bs

-- a block of the pool begins at this address, and it is out
abbrev pub is_out : ℕ → PoolState → Bool
is_out address p = list_any (λ b. b.out && (b.address == address)) p.blocks

-- the block at this address is out, or is back
abbrev pub marked : Bool → ℕ → Block → Block
marked out address b = if b.address == address then record b { out = out } else b

-- A block is handed out, where one is there: which, and the pool after it.

abbrev pub block_for : PoolState → Option ℕ
block_for p = free_block p.blocks

abbrev pub without_block : PoolState → Option ℕ → PoolState
without_block p None = p
without_block p (Some address) = record p { blocks = map (marked true address) p.blocks }

abbrev pub handed_out : PoolState → PoolState
handed_out p = without_block p (block_for p)

-- A block comes back: the first waiter leaves with it, else it is there again. (What is no block of the pool that is
-- out changes nothing.)

abbrev pub back_to : ℕ → PoolState → List Plain → PoolState
back_to address p [] = record p { blocks = map (marked false address) p.blocks }
back_to address p (first ∷ others) = record p { waiters = others }

abbrev pub given_back : ℕ → PoolState → PoolState
given_back address p = if is_out address p then back_to address p p.waiters else p

-- who has it then
abbrev pub next_holder : ℕ → PoolState → Option ℕ
next_holder address p = if is_out address p then first_in p.waiters else None

-- a task waits
abbrev pub pool_awaited : ℕ → ℕ → PoolState → PoolState
pool_awaited id priority p =
    record p { waiters = placed p.order (record { id = id; priority = priority; wanted = tt }) p.waiters }

-- a task no longer waits
abbrev pub pool_left : ℕ → PoolState → PoolState
pool_left id p = record p { waiters = without id p.waiters }

-- a task that waits is given a priority: by arrival it keeps its place, by priority it comes after its equals
abbrev pub pool_reordered : ℕ → ℕ → PoolState → PoolState
pool_reordered id priority p = record p { waiters = reordered p.order id priority p.waiters }

-- Of a pool that may not be there.

abbrev pub block_for_in : Option PoolState → Option ℕ
block_for_in None = None
block_for_in (Some p) = block_for p

abbrev pub next_holder_in : ℕ → Option PoolState → Option ℕ
next_holder_in address None = None
next_holder_in address (Some p) = next_holder address p
