-- Trees of boards in which no place fails: they show that no schedule fails, however many events it has.
use Rattle.std.specs.Prelude.{◌≡◌, ℕ, ◌+◌, ◌-◌, ◌%◌, ◌^◌, ◌<◌, Bool, true, false, List}
use Rattle.std.specs.List.{All}
use Rattle.brd_board.specs.declared.event.Event.{Event}
use Rattle.brd_board.specs.declared.event.Event.TheVariants.{Step, Tick, Raise}
use Rattle.brd_link.specs.LinkSet.{IsLinkSet}
use Rattle.brd_board.specs.Board.{BoardState, after}
use Rattle.brd_explore.specs.declared.bounds.Bounds.{Bounds}
use Rattle.brd_explore.specs.declared.condition.Condition.{Condition}
use Rattle.brd_explore.specs.declared.condition.Term.{Term}
use Rattle.brd_explore.specs.declared.condition.Term.TheVariants as term
use Rattle.brd_explore.specs.declared.wanted.Failure.{Failure}
use Rattle.brd_explore.specs.declared.wanted.Failure.TheVariants as failure
use Rattle.brd_explore.specs.declared.wanted.Wanted.{Wanted}
use Rattle.brd_explore.specs.Schedules.{IsAmong, start}
use Rattle.brd_explore.specs.Failures.{fails_at}
use Rattle.brd_explore.specs.Searching.{NoneFails}
use Rattle.brd_explore.specs.Shrinking.{fails_after}
use Rattle.brd_frames.specs.Lagging.{Sharing}
use Rattle.brd_places.specs.declared.left.Left.{Left}
use Rattle.brd_frames.specs.Reducing.{IsTree}
use Rattle.brd_reach.specs.declared.searching.Reached.{Reached}
use Rattle.brd_reach.specs.declared.searching.Reached.TheVariants as reached

-- the bounds with so much left, so many events, and so many preemptions
abbrev pub bounds_of : Left → ℕ → ℕ → Bounds
bounds_of left events preemptions =
    record {
      events = events;
      preemptions = preemptions;
      ticks = left.ticks;
      raises = left.raises;
      owed = left.owed;
    }

-- What an event leaves, which has to be one of those that may come: a step takes nothing; a tick and a raise each take
-- one of those that are left.
abbrev pub pays : List Event → Left → Event → Left → Type 0
pays among left (Step cpu) rest = (rest ≡ left) × IsAmong among (Step cpu)
pays among left Tick rest =
    IsAmong among Tick × (0 < left.ticks) × (rest ≡ record left { ticks = left.ticks - 1 })
pays among left (Raise line) rest =
    IsAmong among (Raise line) × (0 < left.raises)
    × (rest ≡ record left { raises = left.raises - 1; owed = left.owed - 1 })

-- A place fails: its board shows a failure; or it is an end, and its board shows a failure of a last one.
abbrev pub fails_there : Wanted → BoardState → Left → Bool
fails_there wanted b left = fails_at wanted b (bounds_of left 0 0)

-- the addresses of a word are shared
pub record IsSharedWord (by : Sharing) (address : ℕ) : Type 0 where
  pub first : by.shared address ≡ true
  pub second : by.shared ((address + 1) % 2 ^ 32) ≡ true
  pub third : by.shared ((address + 2) % 2 ^ 32) ≡ true
  pub fourth : by.shared ((address + 3) % 2 ^ 32) ≡ true

-- the word that a term watches is shared
abbrev pub IsSharedTerm : Sharing → Term → Type 0
IsSharedTerm by (term.Number number) = Unit {0}
IsSharedTerm by (term.Word address) = IsSharedWord by address

-- the words that terms watch are
abbrev pub AreSharedTerms : Sharing → List Term → Type 0
AreSharedTerms by terms = All (IsSharedTerm by) terms

-- the words that a condition watches are, in both of its sums
pub record IsSharedCondition (by : Sharing) (condition : Condition) : Type 0 where
  pub left : AreSharedTerms by condition.left
  pub right : AreSharedTerms by condition.right

-- the words at some addresses are shared
abbrev pub AreSharedWords : Sharing → List ℕ → Type 0
AreSharedWords by words = All (IsSharedWord by) words

-- what a failure watches of memory is shared
abbrev pub IsGuarded : Sharing → Failure → Type 0
IsGuarded by failure.Exception = Unit {0}
IsGuarded by failure.Deadlock = Unit {0}
IsGuarded by (failure.Console text) = Unit {0}
IsGuarded by (failure.Word address value) = IsSharedWord by address
IsGuarded by (failure.Outside address least most) = IsSharedWord by address
IsGuarded by (failure.Holds condition) = IsSharedCondition by condition
IsGuarded by failure.On = Unit {0}
IsGuarded by failure.Ended = Unit {0}
IsGuarded by (failure.Unlisted words finals) = AreSharedWords by words
IsGuarded by (failure.At address) = Unit {0}

abbrev pub AreGuarded : Sharing → List Failure → Type 0
AreGuarded by failures = All (IsGuarded by) failures

-- nobody comes unseen to the instruction that a failure watches
abbrev pub IsSeen : Sharing → Failure → Type 0
IsSeen by (failure.At address) = by.seen address ≡ true
IsSeen by _ = Unit {0}

-- what failures watch, of memory and of instructions
pub record Guards (by : Sharing) (wanted : Wanted) : Type 0 where
  pub memory : AreGuarded by wanted.failures
  pub instructions : All (IsSeen by) wanted.failures

-- A tree of places of which none fails; what failures watch of memory is shared, and nobody comes unseen to an
-- instruction that they watch.
pub record IsClosed (by : Sharing) (among : List Event) (wanted : Wanted) (In : Left → BoardState → Type 0) :
    Type 0 where
  pub tree : IsTree by Left (pays among) In
  pub guards : Guards by wanted
  pub holds : (left : Left) (b : BoardState) → In left b → fails_there wanted b left ≡ false

-- Then no schedule from a place of the tree fails that has no more ticks and raises than are left there, however many
-- events and preemptions it has.
abbrev pub ShowsNone : Sharing → List Event → Wanted → (Left → BoardState → Type 0) → Type 0
ShowsNone by among wanted In =
    (left : Left) (b : BoardState) → wanted.rounds ≡ 0 → IsClosed by among wanted In → In left b →
    (events preemptions : ℕ) → NoneFails wanted among (start b (bounds_of left events preemptions))

-- This is so of every tree.
abbrev pub ClosedLaw : Type 1
ClosedLaw =
    (by : Sharing) (among : List Event) (wanted : Wanted) (In : Left → BoardState → Type 0) →
    ShowsNone by among wanted In

-- What a search through all places has answered is so. No schedule of a board whose links are a set, as those of
-- every board are, fails, however many events and preemptions it has; or the events lead to a board that fails, by now
-- or as the last one.
abbrev pub ReachedSo : BoardState → Left → List Event → Wanted → Reached → Type 0
ReachedSo b left among wanted (reached.Holds held) =
    IsLinkSet b.links → (events preemptions : ℕ) → NoneFails wanted among (start b (bounds_of left events preemptions))
ReachedSo b left among wanted (reached.Fails events) = fails_after wanted (after b events) ≡ true
ReachedSo b left among wanted (reached.Unknown why) = Unit {0}
