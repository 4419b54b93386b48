-- A window as it lies in RAM.
use Rattle.std.specs.Prelude.{ℕ, List, map}
use Rattle.brd_word.specs.declared.order.Order.{Order}
use Rattle.brd_mem.specs.Access.{read_raw}

-- the words of four bytes each that make these numbers in the little-endian order, read in an order
abbrev pub words_of : Order → List ℕ → List ℕ
words_of order raw = map (read_raw order) raw
