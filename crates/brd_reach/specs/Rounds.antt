-- What a search through places has done at one of them. (Contracts of private functions alone name this.)
use Rattle.std.specs.Prelude.{◌≡◌, ◌⊎◌, ℕ, ◌<◌, ◌≤◌, ◌==◌, Bool, true, false, List, ◌++◌, length, replicate}
use Rattle.std.specs.Prelude.{slice_get, ◌-◌, nat_lt, if◌then◌else◌, Option, Some, None}
use Rattle.std.specs.List.{list_any}
use Rattle.brd_exec.specs.State.{State}
use Rattle.brd_link.specs.LinkSet.{IsLinkSet}
use Rattle.brd_board.specs.declared.event.Event.{Event}
use Rattle.brd_board.specs.declared.event.Event.TheVariants.{Step, Tick, Raise}
use Rattle.brd_board.specs.Board.{BoardState, happens, after}
use Rattle.brd_explore.specs.Schedules.{event_at}
use Rattle.brd_explore.specs.declared.wanted.Failure.{Failure}
use Rattle.brd_explore.specs.declared.wanted.Failure.TheVariants as failure
use Rattle.brd_explore.specs.declared.wanted.Wanted.{Wanted}
use Rattle.brd_frames.specs.Agents.{Agent}
use Rattle.brd_frames.specs.Going.{IsNext}
use Rattle.brd_frames.specs.Commuting.{EndsNoLink}
use Rattle.brd_frames.specs.Lagging.{Sharing, Keeps, IsInvisible, Path}
use Rattle.brd_frames.specs.Reducing.{IsQuiet, EndsMortals}
use Rattle.brd_blocks.specs.Owning.{Known, sharing_of}
use Rattle.brd_blocks.specs.Stepping.{AllStandWell}
use Rattle.brd_blocks.specs.declared.stepped.Stepped.{Stepped}
use Rattle.brd_blocks.specs.declared.stepped.Stepped.TheVariants as stepped
use Rattle.brd_places.specs.Places.{Place}
use Rattle.brd_places.specs.declared.left.Left.{Left}
use Rattle.brd_reach.specs.Reaching.{pays, fails_there}
use Rattle.brd_reach.specs.declared.block.Block.{Block}
use Rattle.brd_reach.specs.declared.block.Block.TheVariants as block
use Rattle.brd_reach.specs.declared.visit.Tried.{Tried}
use Rattle.brd_reach.specs.declared.visit.Tried.TheVariants as tried
use Rattle.brd_reach.specs.declared.round.Round.{Round}
use Rattle.brd_reach.specs.declared.round.Round.TheVariants as round

-- What failures watch.

-- a failure watches the instruction at an address
abbrev pub watches : ℕ → Failure → Bool
watches address (failure.At other) = other == address
watches address _ = false

-- some of these failures watch it
abbrev pub some_watch : List Failure → ℕ → Bool
some_watch failures address = list_any (watches address) failures

-- the same of the instruction that is the next one in a context
abbrev pub are_watching : List Failure → Option State → Bool
are_watching failures None = false
are_watching failures (Some context) = some_watch failures context.pc

-- Who may touch which word, and who is mortal; and nobody comes unseen to an instruction that failures watch.
abbrev pub sharing_for : Known → Wanted → Sharing
sharing_for known wanted = record (sharing_of known) { seen = some_watch wanted.failures }

-- what a step is that is this by itself, and may come to an instruction that is watched
abbrev pub shown : Stepped → Bool → Stepped
shown stepped.Invisible true = stepped.Visible
shown stepped.Invisible false = stepped.Invisible
shown step watched = step

-- Places.

-- a board is one of these places, with so much left there
abbrev pub IsPlace : List Place → Left → BoardState → Type 0
IsPlace places left b = (at : ℕ) × (slice_get places at ≡ Some (record { left = left; board = b }))

-- it is the one of this index
abbrev pub IsAt : List Place → ℕ → Left → BoardState → Type 0
IsAt places at left b = slice_get places at ≡ Some (record { left = left; board = b })

-- there are no fewer places than there were
abbrev pub IsMore : List Place → List Place → Type 0
IsMore old new = (more : List Place) × (new ≡ old ++ more)

-- Blocks.

-- So many invisible instructions of whoever executes on a processor lead from a board to another one; all of them keep
-- to the sharing, and end no link of others.
pub record HasWalked (by : Sharing) (b : BoardState) (cpu count : ℕ) (middle : BoardState) : Type 0 where
  pub loud : IsQuiet b (Step cpu) → count ≡ 0
  pub reached : (who : Agent) → IsNext b cpu who → Path by b who count middle
  pub hidden : (m : BoardState) (who : Agent) (n : ℕ) → n < count → IsNext b cpu who → Path by b who n m →
      Keeps by m who × (new : BoardState) × IsInvisible by m who new × EndsNoLink m cpu who
  pub played : middle ≡ after b (replicate count (Step cpu))
  pub set : IsLinkSet middle.links

-- After however many invisible instructions of whoever executes on a processor the next one keeps to the sharing; and
-- it is invisible too, and ends no link of others, or ends the block.
abbrev pub Blocks : Sharing → BoardState → ℕ → (BoardState → Type 0) → Type 0
Blocks by b cpu Ends =
    (middle : BoardState) (who : Agent) (count : ℕ) → IsNext b cpu who → Path by b who count middle →
    Keeps by middle who
    × (((new : BoardState) × IsInvisible by middle who new × EndsNoLink middle cpu who)
    ⊎ (Ends (happens middle (Step cpu)).board × EndsMortals by middle (Step cpu)))

-- Each block of a processor from a board, and each step of it there that is nobody's instruction, leads to a last one.
pub record LeadsTo (by : Sharing) (b : BoardState) (cpu : ℕ) (last : BoardState) : Type 0 where
  pub well : AllStandWell b cpu
  pub quiet : IsQuiet b (Step cpu) → (happens b (Step cpu)).board ≡ last
  pub blocks : Blocks by b cpu (λ new. new ≡ last)

-- what a processor's block came to, and the board after it; a block stays if nobody executes, or if all its
-- instructions are invisible, however many there are
abbrev pub WentBy : Sharing → BoardState → ℕ → BoardState → Block → Type 0
WentBy by b cpu new block.Stays = LeadsTo by b cpu b
WentBy by b cpu new (block.Leads count) = (new ≡ after b (replicate count (Step cpu))) × LeadsTo by b cpu new
WentBy by b cpu new (block.Strays count) = Unit {0}
WentBy by b cpu new (block.Unknown why) = Unit {0}

-- a block that has had so many instructions, all of them invisible, unless it came to something before
abbrev pub WentTo : Sharing → BoardState → ℕ → ℕ → BoardState → Option Block → Type 0
WentTo by b cpu upto new None = HasWalked by b cpu upto new
WentTo by b cpu upto new (Some came) = WentBy by b cpu new came

-- What was tried at a place.

-- an event that may come leads from a place to a place
pub record HasStepped (by : Sharing) (places : List Place) (left : Left) (b : BoardState) (cpu : ℕ) : Type 0 where
  pub well : AllStandWell b cpu
  pub quiet : IsQuiet b (Step cpu) → IsPlace places left (happens b (Step cpu)).board
  pub blocks : Blocks by b cpu (IsPlace places left)

abbrev pub HasTried : Sharing → List Event → List Place → Left → BoardState → Event → Type 0
HasTried by among places left b (Step cpu) = (1 ≤ cpu) × (cpu ≤ 8) × HasStepped by places left b cpu
HasTried by among places left b Tick =
    (rest : Left) → pays among left Tick rest → IsPlace places rest (happens b Tick).board
HasTried by among places left b (Raise line) =
    (rest : Left) → pays among left (Raise line) rest → IsPlace places rest (happens b (Raise line)).board

-- the first of the events that may come have been tried at a place
abbrev pub HaveTried : Sharing → List Event → List Place → Left → BoardState → ℕ → Type 0
HaveTried by among places left b upto = (k : ℕ) → k < upto → HasTried by among places left b (event_at among k)

-- A place has been gone through: it doesn't fail, and all events have been tried there. (The links of every board are a
-- set.)
pub record IsDone (by : Sharing) (among : List Event) (wanted : Wanted) (places : List Place) (left : Left)
    (b : BoardState) : Type 0 where
  pub holds : fails_there wanted b left ≡ false
  pub tried : IsLinkSet b.links → HaveTried by among places left b (length among)

-- what is left after an event, if enough is
abbrev pub paid : Left → Event → Option Left
paid left (Step cpu) = Some left
paid left Tick = if nat_lt 0 left.ticks then Some (record left { ticks = left.ticks - 1 }) else None
paid left (Raise line) =
    if nat_lt 0 left.raises then Some (record left { raises = left.raises - 1; owed = left.owed - 1 }) else None

-- an event that is no step was tried at a place
abbrev pub IsPaid : List Place → Left → BoardState → Event → Tried → Type 0
IsPaid places left b event tried.Done =
    (rest : Left) → paid left event ≡ Some rest → IsPlace places rest (happens b event).board
IsPaid places left b event tried.Fails = ⊥
IsPaid places left b event _ = Unit {0}

-- what was tried at a place, or why it wasn't
abbrev pub TriedSo : Sharing → List Event → List Place → Left → BoardState → Event → Tried → Type 0
TriedSo by among places left b event tried.Done = IsLinkSet b.links → HasTried by among places left b event
TriedSo by among places left b event tried.Fails = ⊥
TriedSo by among places left b event _ = Unit {0}

-- what a visit to a place came to: it was gone through, or fails, or neither is known
abbrev pub VisitedSo : Sharing → List Event → Wanted → List Place → Place → Tried → Type 0
VisitedSo by among wanted places place tried.Done = IsDone by among wanted places place.left place.board
VisitedSo by among wanted places place tried.Fails = fails_there wanted place.board place.left ≡ true
VisitedSo by among wanted places place _ = Unit {0}

-- the first places have been gone through
abbrev pub AreDone : Sharing → List Event → Wanted → List Place → ℕ → Type 0
AreDone by among wanted places upto =
    (at : ℕ) → at < upto → (place : Place) → slice_get places at ≡ Some place →
    IsDone by among wanted places place.left place.board

-- What a round came to: all places were gone through, of which the first is the one with which it began; or there is
-- one that fails; or neither is known.
abbrev pub RoundSo : Sharing → List Event → Wanted → List Place → Round → Type 0
RoundSo by among wanted places round.Holds = AreDone by among wanted places (length places)
RoundSo by among wanted places (round.Fails at) =
    (place : Place) × (slice_get places at ≡ Some place) × (fails_there wanted place.board place.left ≡ true)
RoundSo by among wanted places _ = Unit {0}
