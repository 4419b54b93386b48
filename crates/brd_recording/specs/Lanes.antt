-- The lanes of a timeline that is being made.
use Rattle.std.specs.Prelude.{ℕ, List, map}
use Rattle.brd_timeline.specs.declared.timeline.Group.{Group}
use Rattle.brd_timeline.specs.declared.timeline.Lane.{Lane}
use Rattle.brd_timeline.specs.declared.timeline.Slice.{Slice}
use Rattle.brd_recording.specs.declared.recording.Open.{Open}
use Rattle.brd_recording.specs.declared.recording.Recording.{Recording}

-- what a lane is called, and which group it is of
pub record Title : Type 0 where
  pub name : List ℕ
  pub group : Group

abbrev pub titled : List ℕ → Group → Title
titled name group = record { name = name; group = group }

abbrev pub titles_of : List Lane → List Title
titles_of lanes = map (λ (lane : Lane). titled lane.name.items lane.group) lanes

-- Where it begins, the titles of its lanes, the processors that the first lanes are about, what goes on in each lane,
-- and what went on before.
pub record Lanes : Type 0 where
  pub from : ℕ
  pub titles : List Title
  pub cpus : List ℕ
  pub current : List Open
  pub slices : List Slice

abbrev pub lanes_of : Recording → Lanes
lanes_of it = record {
  from = it.timeline.from;
  titles = titles_of it.timeline.lanes.items;
  cpus = it.processors.items;
  current = it.current.items;
  slices = it.timeline.slices.items;
}
