-- What a lazy search has done. (Contracts of private functions alone name this, but `FoundSo`.)
use Rattle.std.specs.Prelude.{◌≡◌, ◌⊎◌, ℕ, suc, ◌<◌, ◌≤◌, true, false, List, length, replicate, slice_get, Option}
use Rattle.std.specs.Prelude.{Some, None}
use Rattle.brd_link.specs.LinkSet.{IsLinkSet}
use Rattle.brd_board.specs.declared.event.Event.{Event}
use Rattle.brd_board.specs.declared.event.Event.TheVariants.{Step, Tick, Raise}
use Rattle.brd_board.specs.Board.{BoardState, happens}
use Rattle.brd_explore.specs.declared.wanted.Wanted.{Wanted}
use Rattle.brd_explore.specs.Schedules.{Place, does, is_left, next, place_after, event_at}
use Rattle.brd_explore.specs.Failures.{fails_at}
use Rattle.brd_explore.specs.Searching.{IsFound, NoneFails}
use Rattle.brd_frames.specs.Lagging.{Sharing}
use Rattle.brd_frames.specs.Reducing.{IsQuiet}
use Rattle.brd_blocks.specs.Stepping.{AllStandWell}
use Rattle.brd_spots.specs.Spots.{IsKnown}
use Rattle.brd_lazy.specs.Blocks.{after_steps, AreHidden, IsBlock}
use Rattle.brd_lazy.specs.declared.block.Block.{Block}
use Rattle.brd_lazy.specs.declared.block.Block.TheVariants as block
use Rattle.brd_lazy.specs.declared.visit.Tried.{Tried}
use Rattle.brd_lazy.specs.declared.visit.Tried.TheVariants as tried
use Rattle.brd_lazy.specs.declared.finding.Lazily.{Lazily}
use Rattle.brd_lazy.specs.declared.round.Round.{Round}
use Rattle.brd_lazy.specs.declared.round.Round.TheVariants as round
use Rattle.brd_lazy.specs.declared.finding.Lazily.TheVariants as lazily

-- Blocks.

-- so many steps of a processor were invisible, and led to a board whose links are a set
pub record HasWalked (by : Sharing) (b : BoardState) (cpu count : ℕ) (new : BoardState) : Type 0 where
  pub hidden : AreHidden by b cpu count
  pub is : new ≡ after_steps b cpu count
  pub set : IsLinkSet new.links

-- what a block of at most so many steps came to
abbrev pub WentSo : Sharing → BoardState → ℕ → ℕ → BoardState → Block → Type 0
WentSo by b cpu most new block.Idle = ((b.kernel.off ≡ true) ⊎ IsQuiet b (Step cpu)) × (new ≡ b)
WentSo by b cpu most new block.Alone = IsQuiet b (Step cpu) × (new ≡ (happens b (Step cpu)).board)
WentSo by b cpu most new (block.Ends count) =
    (count < most) × IsBlock by b cpu count × (new ≡ after_steps b cpu (suc count))
WentSo by b cpu most new block.Cut = AreHidden by b cpu most
WentSo by b cpu most new (block.Strays count) = Unit {0}
WentSo by b cpu most new block.Unknown = Unit {0}

-- a block that has had so many instructions, all of them invisible, unless it came to something before
abbrev pub WalkedTo : Sharing → BoardState → ℕ → ℕ → ℕ → BoardState → Option Block → Type 0
WalkedTo by b cpu upto most new None = HasWalked by b cpu upto new
WalkedTo by b cpu upto most new (Some came) = WentSo by b cpu most new came

-- one that has ended has done so within so many steps
abbrev pub EndsWithin : ℕ → Block → Type 0
EndsWithin most (block.Ends count) = count < most
EndsWithin most _ = Unit {0}

-- What was tried at a place.

-- what the block of a processor there came to that may step
abbrev pub HasGone : Sharing → List Place → Place → ℕ → Type 0
HasGone by spots p cpu =
    ((does p.board (Step cpu) ≡ false) × ((p.board.kernel.off ≡ true) ⊎ IsQuiet p.board (Step cpu)))
    ⊎ ((IsQuiet p.board (Step cpu) × (does p.board (Step cpu) ≡ true → IsKnown spots (next p (Step cpu))))
    ⊎ (((count : ℕ) × IsBlock by p.board cpu count × IsKnown spots (place_after p (replicate (suc count) (Step cpu))))
    ⊎ AreHidden by p.board cpu p.left.events))

abbrev pub HasTried : Sharing → List Place → Place → Event → Type 0
HasTried by spots p (Step cpu) = (1 ≤ cpu) × (cpu ≤ 8) × AllStandWell p.board cpu × HasGone by spots p cpu
HasTried by spots p Tick = does p.board Tick ≡ true → IsKnown spots (next p Tick)
HasTried by spots p (Raise line) = does p.board (Raise line) ≡ true → IsKnown spots (next p (Raise line))

-- the first of the events that may come have been tried there, if something is left for them
abbrev pub HaveTried : Sharing → List Event → List Place → Place → ℕ → Type 0
HaveTried by among spots p upto =
    (k : ℕ) → k < upto → is_left p (event_at among k) ≡ true → HasTried by spots p (event_at among k)

-- A place has been gone through: it doesn't fail, and all events have been tried there. (The links of every board are a
-- set.)
pub record IsDone (by : Sharing) (among : List Event) (wanted : Wanted) (spots : List Place) (p : Place) : Type 0 where
  pub holds : fails_at wanted p.board p.left ≡ false
  pub tried : IsLinkSet p.board.links → HaveTried by among spots p (length among)

-- what was tried there by one event
abbrev pub TriedSo : Sharing → List Place → Place → Event → Tried → Type 0
TriedSo by spots p event tried.Done = IsLinkSet p.board.links → HasTried by spots p event
TriedSo by spots p event tried.Fails = ⊥
TriedSo by spots p event _ = Unit {0}

-- all events were tried there, for which something is left
abbrev pub HasTriedAll : Sharing → List Event → List Place → Place → Tried → Type 0
HasTriedAll by among spots p tried.Done = IsLinkSet p.board.links → HaveTried by among spots p (length among)
HasTriedAll by among spots p _ = Unit {0}

-- what a visit came to
abbrev pub VisitedSo : Sharing → List Event → Wanted → List Place → Place → Tried → Type 0
VisitedSo by among wanted spots p tried.Done = IsDone by among wanted spots p
VisitedSo by among wanted spots p _ = Unit {0}

-- the first places have been gone through
abbrev pub AreDone : Sharing → List Event → Wanted → List Place → ℕ → Type 0
AreDone by among wanted spots upto =
    (at : ℕ) → at < upto → (p : Place) → slice_get spots at ≡ Some p → IsDone by among wanted spots p

-- what a round came to
abbrev pub RoundSo : Sharing → List Event → Wanted → List Place → Round → Type 0
RoundSo by among wanted spots round.Holds = AreDone by among wanted spots (length spots)
RoundSo by among wanted spots _ = Unit {0}

-- What a lazy search answers is so: the schedule is one that was found, or no schedule within the bounds fails.
abbrev pub FoundSo : Wanted → List Event → Place → Lazily → Type 0
FoundSo wanted among from (lazily.Found events) = IsFound wanted among from events.items
FoundSo wanted among from (lazily.NoneFails gone) = NoneFails wanted among from
FoundSo wanted among from (lazily.Unknown why) = Unit {0}
