-- What a search knows of places. (Contracts of private functions alone name this.)
use Rattle.std.specs.Prelude.{◌≡◌, ◌⊎◌, ℕ, ◌≤◌, nat_le, ◌==◌, Bool, ◌&&◌, ◌||◌, List, [], ◌∷◌, ◌++◌}
use Rattle.std.specs.Prelude.{length, All, IfSome}
use Rattle.brd_board.specs.declared.event.Event.{Event}
use Rattle.brd_explore.specs.declared.bounds.Bounds.{Bounds}
use Rattle.brd_explore.specs.declared.wanted.Wanted.{Wanted}
use Rattle.brd_explore.specs.declared.search.Search.{Search}
use Rattle.brd_explore.specs.declared.search.Turn.{Turn}
use Rattle.brd_explore.specs.declared.search.Turn.TheVariants as turn
use Rattle.brd_explore.specs.declared.known.Kept.{Kept}
use Rattle.brd_explore.specs.declared.known.Known.{Known}
use Rattle.brd_explore.specs.Sleeping.{Spot}
use Rattle.brd_explore.specs.Searching.{HasGoneBack, NoneGoes, NoneLeftFrom, spot_of}

-- A place with more left may answer for one with less if nothing goes on to a fair end: then what fails at a place
-- doesn't depend on what is left for it, but for the raises that are owed.
abbrev pub may_have_more : Wanted → Bool
may_have_more wanted = wanted.rounds == 0

-- no less is left of one than of another
abbrev pub is_more : Bounds → Bounds → Bool
is_more one other =
    nat_le other.events one.events && nat_le other.preemptions one.preemptions && nat_le other.ticks one.ticks
    && nat_le other.raises one.raises

abbrev pub is_as_much : Bounds → Bounds → Bool
is_as_much one other =
    one.events == other.events && one.preemptions == other.preemptions && one.ticks == other.ticks
    && one.raises == other.raises

-- As much is left of one as of another, or more if it may be; as many raises are owed.
unfoldable pub is_enough : Bool → Bounds → Bounds → Bool
is_enough more one other = one.owed == other.owed && (is_as_much one other || more && is_more one other)

abbrev pub spot_of_kept : Kept → Spot
spot_of_kept k = record { place = record { board = k.board; left = k.left; last = k.last }; asleep = k.asleep }

-- it is the spot where a search is, at the height of its stack
abbrev pub IsKeptOf : Search → Kept → Type 0
IsKeptOf s k = (spot_of_kept k ≡ spot_of s) × (k.height ≡ length s.saved.items)

-- from none of the places that are done a schedule fails
abbrev pub AreDone : Wanted → List Event → Known → Type 0
AreDone wanted among known = All (λ slot. IfSome slot (λ k. NoneGoes wanted among (spot_of_kept k))) known.done.items

-- From a pending place none fails, or none fails if none does of what is left from its height on.
abbrev pub IsPending : Wanted → List Event → Search → Kept → Type 0
IsPending wanted among s k =
    NoneGoes wanted among (spot_of_kept k)
    ⊎ ((k.height ≤ length s.saved.items) × (NoneLeftFrom wanted among k.height s
    → NoneGoes wanted among (spot_of_kept k)))

abbrev pub ArePending : Wanted → List Event → Search → Known → Type 0
ArePending wanted among s known = All (IsPending wanted among s) known.pending.items

-- from none of the pending places at this height or above a schedule fails
abbrev pub AreOver : Wanted → List Event → ℕ → Known → Type 0
AreOver wanted among height known =
    All (λ k. height ≤ k.height → NoneGoes wanted among (spot_of_kept k)) known.pending.items

-- what a search knows of the places that it keeps
pub record Knows (wanted : Wanted) (among : List Event) (s : Search) (known : Known) : Type 0 where
  pub done : AreDone wanted among known
  pub pending : ArePending wanted among s known

-- what it knows after a turn, and when it is over
abbrev pub KnowsOn : Wanted → List Event → Search → Known → Turn → Type 0
KnowsOn wanted among s known turn.On = Knows wanted among s known
KnowsOn wanted among s known turn.Found = Unit {0}
KnowsOn wanted among s known turn.Over = AreDone wanted among known

-- and where no schedule is dealt out yet
abbrev pub KnowsIn : Wanted → List Event → Known → Turn → Type 0
KnowsIn wanted among known turn.On = AreDone wanted among known
KnowsIn wanted among known turn.Found = Unit {0}
KnowsIn wanted among known turn.Over = Unit {0}

-- the place where a search is was kept as a pending one, or nothing was
abbrev pub Notes : Search → Known → Known → Type 0
Notes s old new =
    (new.pending.items ≡ old.pending.items)
    ⊎ ((k : Kept) × (new.pending.items ≡ old.pending.items ++ k ∷ []) × IsKeptOf s k)

-- it has gone back, or there is nothing to go back to
abbrev pub Leaves : Search → Search → Turn → Type 0
Leaves s t turn.On = HasGoneBack s t
Leaves s t turn.Found = ⊥
Leaves s t turn.Over = s.saved.items ≡ []
