-- Who waits first; what tasks want that wait for an event flag, and which of them a bit pattern satisfies.
use Rattle.std.specs.Prelude.{◌≢◌, ℕ, ◌==◌, Bool, not, if◌then◌else◌, List, [], ◌∷◌, find, Option}
use Rattle.std.specs.List.{AllByRecursion}
use Rattle.std.specs.Option.{option_map}
use Rattle.std.specs.Int.RustNames.{bit_and}
use Rattle.brd_queue.specs.declared.entry.QueueEntry.{QueueEntry}
use Rattle.brd_queue.specs.Queue.{first_of}
use Rattle.brd_objects.specs.declared.want.Mode.{Mode}
use Rattle.brd_objects.specs.declared.want.Mode.TheVariants as mode
use Rattle.brd_objects.specs.declared.want.Want.{Want}

-- the task that stands first in a list of those who wait
abbrev pub first_in : {W : Type 0} → List (QueueEntry W) → Option ℕ
first_in waiters = option_map (λ e. e.id) (first_of waiters)

-- whether a pattern has bits: all of them (TWF_ANDW), or any of them (TWF_ORW)

abbrev pub has_bits : Mode → ℕ → ℕ → Bool
has_bits mode.All pattern bits = bit_and pattern bits == bits
has_bits mode.Any pattern bits = not (bit_and pattern bits == 0)

unfoldable pub satisfies : ℕ → Want → Bool
satisfies pattern want = has_bits want.mode pattern want.bits

-- the first waiter that a pattern satisfies, and the others

abbrev pub first_satisfied : ℕ → List (QueueEntry Want) → Option (QueueEntry Want)
first_satisfied pattern waiters = find (λ e. satisfies pattern e.wanted) waiters

abbrev pub without_satisfied : ℕ → List (QueueEntry Want) → List (QueueEntry Want)
without_satisfied pattern [] = []
without_satisfied pattern (first ∷ others) =
    if satisfies pattern first.wanted then others else first ∷ without_satisfied pattern others

-- Nobody waits for no bits (E_PAR): all of none are set in every pattern, also in one that a release has cleared.
abbrev pub WantBits : List (QueueEntry Want) → Type 0
WantBits waiters = AllByRecursion (λ e. e.wanted.bits ≢ 0) waiters
