-- What is known after a list of deeds.
use Rattle.std.specs.Prelude.{◌≡◌, ◌⊎◌, ◌++◌, ◌∷◌, ℕ, nat_eq, Decides, List, [], length, Option, None, Some}
use Rattle.std.specs.List.{list_any}
use Rattle.brd_order.specs.declared.deed.{Deed.Deed, Mark.Mark, Race.Race}
use Rattle.brd_order.specs.declared.order.Order.{Order}
use Rattle.brd_order.specs.Order.{Heard}
use Rattle.brd_order.specs.Clocks.{Knows, Did, Released}
use Rattle.brd_order.specs.Races.{IsIn, AreRaces}
use Rattle.brd_order.specs.Marks.{AreMarks}
use Rattle.brd_order.specs.Tables.{counts_at, counts_given, marks_at}

-- a race of a word is told
abbrev pub HasRace : List Race → ℕ → Type 0
HasRace races word = (race : Race) × IsIn race races × (race.later.touch.word ≡ word)

-- words are those of which a race is told
abbrev pub AreTold : List Race → List ℕ → Type 0
AreTold races words = (word : ℕ) → Decides (list_any (nat_eq word) words) (HasRace races word)

pub record IsAfter (deeds : List Deed) (o : Order) : Type 0 where
  pub count : o.count ≡ length deeds
  pub strands : (strand : ℕ) → Knows deeds (Did strand) (counts_at o.strands.clocks.items strand)
  pub heard : (strand : ℕ) → Knows deeds (Heard deeds strand (length deeds)) (counts_at o.heard.clocks.items strand)
  pub things : (thing : ℕ) → Knows deeds (Released thing) (counts_given o.things.given.entries thing)
  pub marks : AreMarks deeds (marks_at o.marks.shares.items)
  pub races : AreRaces deeds o.races.told.items
  pub words : AreTold o.races.told.items o.races.words.keys

-- the race of a new mark with the one that was found is told, if there is one and none of its word is told
abbrev pub TellsRace : Option Mark → Mark → List Race → List Race → Type 0
TellsRace None new old races = races ≡ old
TellsRace (Some earlier) new old races =
    (HasRace old new.touch.word × (races ≡ old))
    ⊎ ((HasRace old new.touch.word → ⊥) × (races ≡ old ++ (record { earlier = earlier; later = new }) ∷ []))
