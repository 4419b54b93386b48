-- How much a picture shows.
use Rattle.std.specs.Prelude.{ℕ, ◌+◌, ◌<◌, length}
use Rattle.brd_timeline.specs.declared.timeline.Timeline.{Timeline}

-- the most lanes, slices and marks together (own choice)
abbrev pub most_drawn : ℕ
most_drawn = 5000

-- more than that
abbrev pub IsTooMuch : Timeline → Type 0
IsTooMuch t = most_drawn < length t.lanes.items + length t.slices.items + length t.marks.items
