-- The first processors have a lane.
use Rattle.std.proofs.Common.{◌≡◌, ◌++◌, map, take}
use Rattle.brd_recording.specs.Lanes.{titles_of}
use Rattle.brd_recording.specs.Slices.{cpu_title}
use Rattle.brd_recording.specs.Recording.{cpu_open}
use Rattle.brd_recording.proofs.recording.Recording.add_processors.Given as goal

abbrev pub invariant-loop-i : goal.invariant-loop-i
invariant-loop-i l = record {
  from : l.self.timeline.from ≡ l.fn.self.timeline.from;
  slices : l.self.timeline.slices ≡ l.fn.self.timeline.slices;
  cpus : l.self.processors ≡ l.fn.self.processors;
  titles : titles_of l.self.timeline.lanes.items
      ≡ titles_of l.fn.self.timeline.lanes.items ++ map cpu_title (take l.i l.fn.self.processors.items);
  current : l.self.current.items
      ≡ l.fn.self.current.items
      ++ map (cpu_open l.known.is_off l.known.standings.now.of l.fn.self.timeline.from) (take l.i l.fn.self.processors.items);
}
