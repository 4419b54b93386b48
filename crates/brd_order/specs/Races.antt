-- Data races of a list of deeds: touches of a word that have no order.
use Rattle.std.specs.Prelude.{◌≡◌, ◌<◌, ◌≤◌, ◌==◌, ◌&&◌, ◌||◌, not, nat_lt, ℕ, Bool, true, List, Some}
use Rattle.std.specs.List.{slice_get}
use Rattle.brd_order.specs.declared.deed.{Deed.Deed, Touch.Touch, Mark.Mark, Race.Race}
use Rattle.brd_order.specs.declared.deed.Act.TheVariants.{Touches}
use Rattle.brd_order.specs.Order.{Leads}

-- Touches meet if they have a byte in common and one of them stores, unless both synchronize.
abbrev pub meets : Touch → Touch → Bool
meets a b =
    (a.word == b.word) && nat_lt a.from b.to && nat_lt b.from a.to && (a.stores || b.stores)
    && not (a.synchronizes && b.synchronizes)

-- the deed of a mark
abbrev pub deed_of : Mark → Deed
deed_of m = record { strand = m.strand; act = Touches m.touch; event = m.event; place = m.place }

-- a mark is of a deed of the list, at its place
abbrev pub IsOf : List Deed → Mark → Type 0
IsOf deeds m = slice_get deeds m.at ≡ Some (deed_of m)

-- two touches that meet, and the earlier one doesn't come before the later one
pub record IsRace (deeds : List Deed) (one other : Mark) : Type 0 where
  pub first : IsOf deeds one
  pub second : IsOf deeds other
  pub earlier : one.at < other.at
  pub meet : meets one.touch other.touch ≡ true
  pub unordered : Leads deeds one.at other.at → ⊥

-- The first race of a word: its later touch is the first one of that word that is in a race as the later one, and its
-- earlier touch the last one with which this one is.
pub record IsFirst (deeds : List Deed) (told : Race) : Type 0 where
  pub race : IsRace deeds told.earlier told.later
  pub soonest : (one other : Mark) → IsRace deeds one other → other.touch.word ≡ told.later.touch.word →
      told.later.at ≤ other.at
  pub latest : (one : Mark) → IsRace deeds one told.later → one.at ≤ told.earlier.at

abbrev pub IsIn : {A : Type 0} → A → List A → Type 0
IsIn x xs = (k : ℕ) × (slice_get xs k ≡ Some x)

-- Of a list of deeds these races are told: each is the first one of its word, each first one is told, and so one is
-- told of each word of which there is a race.
pub record AreRaces (deeds : List Deed) (races : List Race) : Type 0 where
  pub first : (race : Race) → IsIn race races → IsFirst deeds race
  pub all : (race : Race) → IsFirst deeds race → IsIn race races
  pub each : (one other : Mark) → IsRace deeds one other →
      (race : Race) × IsIn race races × (race.later.touch.word ≡ other.touch.word)
