-- A decoded word that is right.
use Rattle.brd_isa.specs.Decoding.{decoded}
use Rattle.brd_word.specs.declared.order.Order.{Order}
use Rattle.brd_mem.specs.Access.{read_raw}
use Rattle.brd_entries.specs.Means.{Means}
use Rattle.brd_fast.specs.declared.known.Known.{Known}

-- the entry means what the bytes make in this order
abbrev pub IsRight : Order → Known → Type 0
IsRight order known = ∥ Means known.entry (decoded (read_raw order known.raw)) ∥₁
