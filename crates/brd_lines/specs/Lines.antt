-- Which line the code at an address stands for.
use Rattle.std.specs.Prelude.{ℕ, ◌<◌, ◌≤◌, Bool, ◌&&◌, ◌==◌, nat_lt, nat_le, List, [], ◌∷◌, ◌++◌, slice_index_or}
use Rattle.std.specs.Prelude.{if◌then◌else◌, Option, Some, None, find}
use Rattle.std.specs.List.{fold}
use Rattle.std.specs.Option.{option_map}
use Rattle.brd_listing.specs.Names.{shown_name}
use Rattle.brd_lines.specs.declared.lines.{Stretch.Stretch, Place.Place}

-- what contracts see of lines: the paths of files, and the stretches of addresses whose code stands for a line of one
-- of them, by ascending address
pub record LinesOf : Type 0 where
  pub files : List (List ℕ)
  pub stretches : List Stretch

-- From low on, stretches of at least one address each ascend, none over another.
abbrev pub AreApart : ℕ → List Stretch → Type 0
AreApart low [] = Unit {0}
AreApart low (stretch ∷ stretches) =
    (low ≤ stretch.from) × (stretch.from < stretch.to) × AreApart stretch.to stretches

-- where the last one ends
abbrev pub end_of : ℕ → List Stretch → ℕ
end_of low [] = low
end_of low (stretch ∷ stretches) = end_of stretch.to stretches

-- an address lies in a stretch
abbrev pub covers : ℕ → Stretch → Bool
covers address stretch = nat_le stretch.from address && nat_lt address stretch.to

-- the stretch in which an address lies
abbrev pub stretch_at : List Stretch → ℕ → Option Stretch
stretch_at stretches address = find (covers address) stretches

-- By which it is found: all stretches that end at an address or below it come first, and of those behind them only the
-- first may begin at the address or below.
abbrev pub ends_by : ℕ → Stretch → Bool
ends_by address stretch = nat_le stretch.to address

abbrev pub chosen : ℕ → Stretch → Option Stretch
chosen address stretch = if nat_le stretch.from address then Some stretch else None

-- A line of a file, by its path.
pub record PlaceOf : Type 0 where
  pub file : List ℕ
  pub line : ℕ

abbrev pub seen : Place → PlaceOf
seen place = record { file = place.file.now; line = place.line }

abbrev pub file_at : List (List ℕ) → ℕ → List ℕ
file_at files place = slice_index_or files place []

abbrev pub place_of : List (List ℕ) → Stretch → PlaceOf
place_of files stretch = record { file = file_at files stretch.file; line = stretch.line }

-- the line of the code at an address
abbrev pub place_at : LinesOf → ℕ → Option PlaceOf
place_at lines address = option_map (place_of lines.files) (stretch_at lines.stretches address)

-- the name of a file without the folders of its path: what stands behind the last /
abbrev pub name_more : List ℕ → ℕ → List ℕ
name_more name byte = if byte == 47 then [] else name ++ byte ∷ []

-- the same, as it is shown
abbrev pub name_of : List ℕ → List ℕ
name_of path = shown_name (fold name_more [] path)
