-- Since when a processor spins, and which processors of a board do.
use Rattle.std.specs.Prelude.{◌≡◌, ◌≢◌, ◌⊎◌, ◌≤◌, ◌<◌, ◌+◌, ◌-◌, ◌^◌, min, ℕ, suc, List, length, slice_get}
use Rattle.std.specs.Prelude.{slice_index_or}
use Rattle.std.specs.Prelude.{Contains, Option, None, Some}
use Rattle.brd_kernel.specs.declared.processor.Standing.{Standing}
use Rattle.brd_exec.specs.State.{State}
use Rattle.brd_board.specs.declared.event.Event.{Event}
use Rattle.brd_board.specs.Board.{BoardState, registers_of, standing_of}
use Rattle.brd_journal.specs.Playing.{IsPlayed, board_at}
use Rattle.brd_spins.specs.declared.spin.{Spin.Spin, Turning.Turning}
use Rattle.brd_spins.specs.declared.spin.SpinKind.{SpinKind}
use Rattle.brd_spins.specs.declared.watching.Watching.{Watching}
use Rattle.brd_spins.specs.Spins.{IsSpinning, IsLeastPlace}

-- registers that are some of these
abbrev pub IsInside : List State → Option State → Type 0
IsInside states None = ⊥
IsInside states (Some state) = Contains states state

-- On a board this task or handler executes on a processor, with some of these registers.
pub record IsThere (board : BoardState) (cpu : ℕ) (who : Option Standing) (states : List State) : Type 0 where
  pub stands : standing_of board cpu ≡ who
  pub inside : IsInside states (registers_of board cpu)

-- so it is at the position after so many events
abbrev pub IsThereAt : BoardState → List Event → ℕ → Option Standing → List State → ℕ → Type 0
IsThereAt boot events cpu who states position = IsThere (board_at boot events position) cpu who states

-- The least position from which on, at each one up to another, this task or handler executes on a processor, with some
-- of these registers: at the position before it, if there is one, that isn't so.
pub record IsSince (boot : BoardState) (events : List Event) (cpu : ℕ) (who : Option Standing) (states : List State)
    (to since : ℕ) : Type 0 where
  pub within : since ≤ to
  pub there : (position : ℕ) → since ≤ position → position ≤ to → IsThereAt boot events cpu who states position
  pub least : (before : ℕ) → since ≡ suc before → IsThereAt boot events cpu who states before → ⊥

-- from a position on, up to another one, it is so
abbrev pub AreThere : BoardState → List Event → ℕ → Option Standing → List State → ℕ → ℕ → Type 0
AreThere boot events cpu who states from to =
    (position : ℕ) → from ≤ position → position ≤ to → IsThereAt boot events cpu who states position

-- the last position, up to another one, at which it isn't so; None where it is so at each
abbrev pub IsLeft : BoardState → List Event → ℕ → Option Standing → List State → ℕ → Option ℕ → Type 0
IsLeft boot events cpu who states to None = AreThere boot events cpu who states 0 to
IsLeft boot events cpu who states to (Some left) =
    (left ≤ to) × (IsThereAt boot events cpu who states left → ⊥) × AreThere boot events cpu who states (suc left) to

-- the position from which on it is so; 64 bits hold it
abbrev pub since_by : Option ℕ → ℕ
since_by None = 0
since_by (Some left) = min (left + 1) (2 ^ 64 - 1)

-- A board has played the first events of a list, and of each processor that spins it is known when it wasn't in its
-- loop
-- for the last time.
pub record AreWatched (boot : BoardState) (events : List Event) (turnings : List Turning) (watching : Watching)
    : Type 0 where
  pub played : IsPlayed boot events watching.playback
  pub lefts : (place : ℕ) (turning : Turning) → slice_get turnings place ≡ Some turning → turning.what ≢ None
      → IsLeft boot events (place + 1) turning.who turning.states watching.playback.at
      (slice_index_or watching.lefts place None)

-- What is known of a processor after a look at a board at a position: that position, where it isn't in its loop.
abbrev pub IsSeen : BoardState → ℕ → Turning → ℕ → Option ℕ → Option ℕ → Type 0
IsSeen board cpu turning position old new =
    (IsThere board cpu turning.who turning.states × (new ≡ old))
    ⊎ ((IsThere board cpu turning.who turning.states → ⊥) × (new ≡ Some position))

-- of each of the first so many processors that spin
abbrev pub AreSeen : BoardState → List Turning → ℕ → ℕ → List (Option ℕ) → List (Option ℕ) → Type 0
AreSeen board turnings count position old new =
    (place : ℕ) (turning : Turning) → place < count → slice_get turnings place ≡ Some turning → turning.what ≢ None
    → IsSeen board (place + 1) turning position (slice_index_or old place None) (slice_index_or new place None)

-- one of the processors that spin, by what is known of all
pub record IsListed (turnings : List Turning) (lefts : List (Option ℕ)) (spin : Spin) : Type 0 where
  pub place : ℕ
  pub turning : Turning
  pub found : slice_get turnings place ≡ Some turning
  pub cpu : spin.cpu ≡ place + 1
  pub what : turning.what ≡ Some spin.what
  pub since : spin.since ≡ since_by (slice_index_or lefts place None)
  pub least : 1 ≤ length turning.states → IsLeastPlace turning.states spin.place

abbrev pub AreListed : List Turning → List (Option ℕ) → List Spin → Type 0
AreListed turnings lefts spins =
    (at : ℕ) (spin : Spin) → slice_get spins at ≡ Some spin → IsListed turnings lefts spin

-- one of these is of the processor
pub record HasSpin (spins : List Spin) (cpu : ℕ) : Type 0 where
  pub at : ℕ
  pub spin : Spin
  pub found : slice_get spins at ≡ Some spin
  pub of_it : spin.cpu ≡ cpu

-- the first so many of the processors are among these, where they are known to spin
abbrev pub AreFound : List Turning → ℕ → List Spin → Type 0
AreFound turnings count spins =
    (place : ℕ) (turning : Turning) → place < count → slice_get turnings place ≡ Some turning → turning.what ≢ None
    → HasSpin spins (place + 1)

-- a processor that spins after the events up to a position: what it does, where, and since when who executes there does
-- nothing else
pub record IsSpin (boot : BoardState) (events : List Event) (to : ℕ) (spin : Spin) : Type 0 where
  pub states : List State
  pub spins : IsSpinning (board_at boot events to) spin.cpu spin.what states
  pub place : IsLeastPlace states spin.place
  pub since : IsSince boot events spin.cpu (standing_of (board_at boot events to) spin.cpu) states to spin.since
  pub cpu : (1 ≤ spin.cpu) × (spin.cpu ≤ 8)

-- processors by rising number
abbrev pub AreAscending : List Spin → Type 0
AreAscending spins = (i j : ℕ) (one other : Spin) → i < j → slice_get spins i ≡ Some one →
    slice_get spins j ≡ Some other
    → one.cpu < other.cpu

-- The processors of a board that spin after the events up to a position: each of these does, each that does is one of
-- them, and they come by rising number.
pub record AreSpins (boot : BoardState) (events : List Event) (to : ℕ) (spins : List Spin) : Type 0 where
  pub each : (at : ℕ) (spin : Spin) → slice_get spins at ≡ Some spin → IsSpin boot events to spin
  pub all : (cpu : ℕ) (kind : SpinKind) (states : List State) → 1 ≤ cpu → cpu ≤ 8
      → IsSpinning (board_at boot events to) cpu kind states → HasSpin spins cpu
  pub ascending : AreAscending spins
