-- The processors so far, and those among the numbers that are left, are all.
use Rattle.std.proofs.Common.{◌≡◌, ◌++◌, ◌-◌}
use Rattle.std.specs.Prelude.{filter}
use Rattle.std.specs.List.{range_with_len}
use Rattle.brd_recording.specs.Slices.{is_there, cpus_in}
use Rattle.brd_recording.proofs.recording.Known.processors.Given as goal

abbrev pub invariant-loop-cpu : goal.invariant-loop-cpu
invariant-loop-cpu l =
    l.processors.items ++ filter (is_there l.self.standings.now.of) (range_with_len l.cpu (9 - l.cpu)) ≡ cpus_in l.self.standings.now.of
