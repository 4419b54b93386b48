-- Clocks and marks as they are kept.
use Rattle.std.specs.Prelude.{◌≡◌, ◌/◌, ◌%◌, ℕ, nat_eq, List, [], Option, None, Some}
use Rattle.std.specs.List.{slice_get}
use Rattle.std.specs.Map.{lookup}
use Rattle.brd_order.specs.declared.deed.Mark.{Mark}
use Rattle.brd_order.specs.declared.clock.Clock.{Clock}
use Rattle.brd_order.specs.declared.marks.Share.{Share}
use Rattle.brd_order.specs.Clocks.{count_in, Joins}

abbrev pub counts_of : Clock → ℕ → ℕ
counts_of clock = count_in clock.counts.items

-- a strand's clock: of a list of clocks, each with its strand as its index

abbrev pub counts_if : Option Clock → ℕ → ℕ
counts_if None strand = 0
counts_if (Some clock) strand = counts_of clock strand

abbrev pub counts_at : List Clock → ℕ → ℕ → ℕ
counts_at clocks strand = counts_if (slice_get clocks strand)

-- what was released into a thing, and nothing if there is none of it
abbrev pub counts_given : List (ℕ × Clock) → ℕ → ℕ → ℕ
counts_given given thing = counts_if (lookup (nat_eq thing) given)

-- what a clock knows was released into a thing, and nothing into others
pub record Gives (thing : ℕ) (counts : ℕ → ℕ) (old new : List (ℕ × Clock)) : Type 0 where
  pub joins : Joins (counts_given old thing) counts (counts_given new thing)
  pub others : (other : ℕ) → (other ≡ thing → ⊥) → (strand : ℕ) →
      counts_given new other strand ≡ counts_given old other strand

-- the marks of a word: those of its share, in which there may be other words' marks too

abbrev pub share_of : ℕ → ℕ
share_of word = word / 4 % 65536

abbrev pub marks_if : Option Share → List Mark
marks_if None = []
marks_if (Some share) = share.marks.items

abbrev pub marks_at : List Share → ℕ → List Mark
marks_at shares word = marks_if (slice_get shares (share_of word))
