-- Data races in words: a line for each, with the word and both touches, and one that says how many words have one.
use Rattle.std.specs.Prelude.{◌-◌, ℕ, nat_lt, Bool, if◌then◌else◌, List, ◌++◌, length, codes}
use Rattle.std.specs.List.{flat_map}
use Rattle.brd_order.specs.declared.deed.{Touch.Touch, Mark.Mark, Race.Race}
use Rattle.brd_names.specs.declared.names.Names.{Names}
use Rattle.brd_names.specs.Lines.{named_text, called_text, count_text}
use Rattle.brd_names.specs.Addresses.{code_text, datum_text}

-- a task's strand is its ID, a handler's 256 and its line
abbrev pub strand_text : ℕ → List ℕ
strand_text strand =
    if nat_lt strand 256 then named_text (codes "task") strand else called_text (codes "handler") (strand - 256)

abbrev pub touch_text : Touch → List ℕ
touch_text touch =
    if touch.stores then (if touch.synchronizes then codes ", stores, synchronizing" else codes ", stores")
    else (if touch.synchronizes then codes ", loads, synchronizing" else codes ", loads")

abbrev pub mark_text : Names → Mark → List ℕ
mark_text names mark =
    named_text (codes "event") mark.event ++ codes ", " ++ strand_text mark.strand ++ codes " at "
    ++ code_text names mark.place ++ touch_text mark.touch

-- the touches in the order of their events: one that waited for a SYNC may be the later one and of the earlier event

abbrev pub is_turned : Race → Bool
is_turned race = nat_lt race.later.event race.earlier.event

abbrev pub pair_text : Names → Mark → Mark → List ℕ
pair_text names first second = codes ": " ++ mark_text names first ++ codes "; " ++ mark_text names second ++ codes "\n"

abbrev pub marks_text : Names → Race → List ℕ
marks_text names race =
    if is_turned race then pair_text names race.later race.earlier else pair_text names race.earlier race.later

abbrev pub race_text : Names → Race → List ℕ
race_text names race =
    codes "race at " ++ datum_text names.symbols.now names.segments.now race.later.touch.word ++ marks_text names race

abbrev pub races_text : Names → List Race → List ℕ
races_text names races =
    flat_map (race_text names) races ++ codes "races: " ++ count_text (length races) (codes "word") ++ codes "\n"
