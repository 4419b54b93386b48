-- Trees of places through which a lazy search goes, within bounds: on the ways between them agents do what nobody else
-- can see only when they go on to what others may see.
use Rattle.std.specs.Prelude.{◌≡◌, ℕ, suc, ◌+◌, ◌<◌, ◌≤◌, ◌==◌, Bool, true, false, not, List, length, replicate, Option}
use Rattle.std.specs.Prelude.{None, Some}
use Rattle.brd_board.specs.declared.event.Event.{Event}
use Rattle.brd_board.specs.declared.event.Event.TheVariants.{Step}
use Rattle.brd_explore.specs.Schedules.{Place, IsRicher, does, one_if, next, place_after, IsWithin}
use Rattle.brd_explore.specs.Searching.{FailsAt, NoneFails}
use Rattle.brd_explore.specs.declared.wanted.Wanted.{Wanted}
use Rattle.brd_frames.specs.Agents.{Agent}
use Rattle.brd_frames.specs.Lagging.{Sharing, Lags}
use Rattle.brd_frames.specs.Reducing.{IsQuiet}
use Rattle.brd_reach.specs.Reaching.{Guards}
use Rattle.brd_lazy.specs.Blocks.{MayCome, IsBlock, IsKept}

-- A place is covered by a tree: one of the tree's places has the same board, the same processor has stepped last there,
-- as many raises are owed, and no less is left. So a search may leave it out, if it goes through that one.
pub record IsCovered (In : Place → Type 0) (p : Place) : Type 0 where
  pub place : Place
  pub there : In place
  pub richer : IsRicher place p

-- `In` says which places are those of the tree.
pub record IsLazyTree (by : Sharing) (among : List Event) (In : Place → Type 0) : Type 0 where
  -- the blocks from its places keep to the sharing
  pub kept : (p : Place) → In p → IsKept by among p
  -- An event that may come, and does something, leads from one of them to one that is covered, if no agent executes an
  -- instruction in it: a tick, a raise, an accepted interrupt.
  pub quiet : (p : Place) (event : Event) → In p → MayCome among p event → does p.board event ≡ true →
      IsQuiet p.board event → IsCovered In (next p event)
  -- So does a block that may come, and isn't longer than the events that are left.
  pub blocks : (p : Place) (cpu count : ℕ) → In p → MayCome among p (Step cpu) → count < p.left.events →
      IsBlock by p.board cpu count → IsCovered In (place_after p (replicate (suc count) (Step cpu)))

-- whether a step of the processor that has stepped last at one place would preempt the one that has at another
abbrev pub differ : Option ℕ → Option ℕ → Bool
differ None other = false
differ (Some cpu) None = true
differ (Some cpu) (Some other) = not (cpu == other)

-- At a place is left what is left at another one, and so many events more; and a preemption more, if another processor
-- has stepped last there.
pub record IsAhead (q p : Place) (more : ℕ) : Type 0 where
  pub events : p.left.events + more ≤ q.left.events
  pub preemptions : p.left.preemptions + one_if (differ q.last p.last) ≤ q.left.preemptions
  pub ticks : p.left.ticks ≤ q.left.ticks
  pub raises : p.left.raises ≤ q.left.raises
  pub owed : q.left.owed ≡ p.left.owed

-- A place lags behind another one: invisible instructions of some agents lead from its board to the other one's, and
-- enough is left there to do them and go on.
pub record LagsBehind (by : Sharing) (q p : Place) : Type 0 where
  pub lagging : List Agent
  pub lags : Lags by q.board lagging p.board
  pub ahead : IsAhead q p (length lagging)

-- a place of the tree that lags behind a place
pub record IsReached (by : Sharing) (In : Place → Type 0) (p : Place) : Type 0 where
  pub place : Place
  pub there : In place
  pub lags : LagsBehind by place p

-- From a place that is covered: behind each place to which a schedule within the bounds leads there is a place of the
-- tree.
abbrev pub ReachesAll : Sharing → List Event → (Place → Type 0) → Type 0
ReachesAll by among In =
    (p : Place) (events : List Event) → IsLazyTree by among In → IsCovered In p → IsWithin among p events →
    IsReached by In (place_after p events)

-- This is so of every tree.
abbrev pub LazyLaw : Type 1
LazyLaw = (by : Sharing) (among : List Event) (In : Place → Type 0) → ReachesAll by among In

-- A tree of places of which none fails; what failures watch of memory is shared, and nobody comes unseen to an
-- instruction that they watch.
pub record IsFine (by : Sharing) (among : List Event) (wanted : Wanted) (In : Place → Type 0) : Type 0 where
  pub tree : IsLazyTree by among In
  pub guards : Guards by wanted
  pub holds : (p : Place) → In p → FailsAt wanted p → ⊥

-- Then no schedule within the bounds fails from a place that is covered.
abbrev pub ShowsNone : Sharing → List Event → Wanted → (Place → Type 0) → Type 0
ShowsNone by among wanted In =
    (p : Place) → wanted.rounds ≡ 0 → IsFine by among wanted In → IsCovered In p → NoneFails wanted among p

abbrev pub NoneLaw : Type 1
NoneLaw = (by : Sharing) (among : List Event) (wanted : Wanted) (In : Place → Type 0) → ShowsNone by among wanted In
