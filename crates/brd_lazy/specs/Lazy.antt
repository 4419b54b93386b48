-- Lazy schedules: those that are made of blocks, ticks, raises and accepted interrupts. A processor is left, and time
-- passes, only after what others may see.
use Rattle.std.specs.Prelude.{◌≡◌, ℕ, suc, List, [], ◌∷◌, ◌++◌, replicate}
use Rattle.brd_board.specs.declared.event.Event.{Event}
use Rattle.brd_board.specs.declared.event.Event.TheVariants.{Step}
use Rattle.brd_board.specs.Board.{BoardState}
use Rattle.brd_explore.specs.Schedules.{Place, place_after, IsWithin}
use Rattle.brd_explore.specs.Searching.{Fails}
use Rattle.brd_explore.specs.declared.wanted.Wanted.{Wanted}
use Rattle.brd_frames.specs.Lagging.{Sharing}
use Rattle.brd_frames.specs.Reducing.{IsQuiet}
use Rattle.brd_reach.specs.Reaching.{Guards}
use Rattle.brd_lazy.specs.Blocks.{IsBlock, IsKept}
use Rattle.brd_lazy.specs.Charges.{charge, IsNoMore}

pub data Move : Type 0 where
  Alone : Event → Move  -- an event in which no agent executes an instruction
  Block : ℕ → ℕ → Move  -- of a processor: so many steps that nobody else can see, and one that others may see

abbrev pub events_of : Move → List Event
events_of (Alone event) = event ∷ []
events_of (Block cpu count) = replicate (suc count) (Step cpu)

abbrev pub all_events : List Move → List Event
all_events [] = []
all_events (move ∷ moves) = events_of move ++ all_events moves

abbrev pub IsMove : Sharing → BoardState → Move → Type 0
IsMove by b (Alone event) = IsQuiet b event
IsMove by b (Block cpu count) = IsBlock by b cpu count

-- each of these is a move, where it comes
abbrev pub AreMoves : Sharing → Place → List Move → Type 0
AreMoves by p [] = Unit {0}
AreMoves by p (move ∷ moves) = IsMove by p.board move × AreMoves by (place_after p (events_of move)) moves

-- A lazy schedule within the bounds.
pub record IsLazy (by : Sharing) (among : List Event) (p : Place) (moves : List Move) : Type 0 where
  pub are : AreMoves by p moves
  pub within : IsWithin among p (all_events moves)

-- The blocks from each place to which a lazy schedule leads keep to the sharing.
abbrev pub AreKept : Sharing → List Event → Place → Type 0
AreKept by among p = (moves : List Move) → IsLazy by among p moves → IsKept by among (place_after p (all_events moves))

-- a lazy schedule that fails, and takes no more of the bounds than these events
pub record FailsLazily (by : Sharing) (among : List Event) (wanted : Wanted) (p : Place) (events : List Event) :
    Type 0 where
  pub moves : List Move
  pub lazy : IsLazy by among p moves
  pub fails : Fails wanted p (all_events moves)
  pub no_more : IsNoMore (charge p (all_events moves)) (charge p events)

-- Where a schedule within the bounds fails, a lazy one does, with no more events, preemptions, ticks and raises: if the
-- blocks of all lazy ones keep to the sharing, what failures watch is shared, and none goes on to a fair end.
abbrev pub ScheduleLaw : Type 0
ScheduleLaw =
    (by : Sharing) (among : List Event) (wanted : Wanted) (p : Place) (events : List Event) → wanted.rounds ≡ 0 →
    Guards by wanted → AreKept by among p → IsWithin among p events → Fails wanted p events →
    FailsLazily by among wanted p events
