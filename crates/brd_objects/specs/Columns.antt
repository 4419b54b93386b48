-- How the code finds the first waiter that a pattern satisfies (the contracts of flags don't speak of it): what the
-- waiters want stands once more in columns, which are scanned eight at a time.
use Rattle.std.specs.Prelude.{◌≡◌, ℕ, List, map}
use Rattle.brd_queue.specs.declared.entry.QueueEntry.{QueueEntry}
use Rattle.brd_objects.specs.declared.want.Mode.{Mode}
use Rattle.brd_objects.specs.declared.want.Mode.TheVariants as mode
use Rattle.brd_objects.specs.declared.want.Want.{Want}

-- 0 for all bits, else any of them
abbrev pub mode_word : Mode → ℕ
mode_word mode.All = 0
mode_word mode.Any = 1

abbrev pub bits_of : List (QueueEntry Want) → List ℕ
bits_of waiters = map (λ e. e.wanted.bits) waiters

abbrev pub modes_of : List (QueueEntry Want) → List ℕ
modes_of waiters = map (λ e. mode_word e.wanted.mode) waiters

-- the columns are those of a waiting list
pub record AreColumns (waiters : List (QueueEntry Want)) (bits modes : List ℕ) : Type 0 where
  pub bits_are : bits ≡ bits_of waiters
  pub modes_are : modes ≡ modes_of waiters
