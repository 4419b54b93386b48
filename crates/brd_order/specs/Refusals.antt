-- When the order isn't followed further: not before as many deeds were taken as touches or things are kept, or can be
-- counted.
use Rattle.std.specs.Prelude.{◌≡◌, ◌+◌, ◌^◌, ◌≤◌, ℕ, length}
use Rattle.brd_order.specs.declared.fault.OrderFault.{OrderFault}
use Rattle.brd_order.specs.declared.fault.OrderFault.TheVariants.{NoMemory, TooManyTouches, TooManyThings, TooManyDeeds}
use Rattle.brd_order.specs.declared.order.Order.{Order}

-- why the deed after n may be refused
abbrev pub MayRefuse : ℕ → OrderFault → Type 0
MayRefuse n NoMemory = Unit {0}
MayRefuse n TooManyTouches = 2097152 ≤ n
MayRefuse n TooManyThings = 65536 ≤ n
MayRefuse n TooManyDeeds = 2 ^ 64 ≤ n + 1

-- what is kept after n deeds
pub record IsKept (n : ℕ) (o : Order) : Type 0 where
  pub count : o.count ≡ n
  pub touches : o.marks.count ≤ n
  pub things : length o.things.given.entries ≤ n
  pub shares : length o.marks.shares.items ≡ 65536
