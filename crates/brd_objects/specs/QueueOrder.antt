-- The order of waiting that attributes say.
use Rattle.std.specs.Prelude.{ℕ, ◌==◌, Bool, if◌then◌else◌}
use Rattle.std.specs.Int.RustNames.{bit_and}
use Rattle.brd_queue.specs.declared.entry.QueueOrder.{QueueOrder}
use Rattle.brd_queue.specs.declared.entry.QueueOrder.TheVariants.{Arrival, Priority}

abbrev pub has_attribute : ℕ → ℕ → Bool
has_attribute attributes bit = bit_and attributes bit == bit

-- TA_TPRI, of semaphores, flags and data queues alike
abbrev pub ta_tpri : ℕ
ta_tpri = 1

-- TA_TFIFO: by arrival; TA_TPRI: by priority
abbrev pub order_of : ℕ → QueueOrder
order_of attributes = if has_attribute attributes ta_tpri then Priority else Arrival
