-- A decoded word that is right.
use Rattle.brd_isa.specs.Decoding.{decoded}
use Rattle.brd_entries.specs.Means.{Means}
use Rattle.brd_lent.specs.declared.known.Known.{Known}

-- the entry means what the word stands for
abbrev pub IsRight : Known → Type 0
IsRight known = ∥ Means known.entry (decoded known.word) ∥₁
