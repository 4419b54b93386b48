-- What is still to be loaded after the segments so far makes all segments.
use Rattle.std.proofs.Common.{◌≡◌, ◌+◌, ◌*◌, ◌-◌, []}
use Rattle.brd_elf.specs.Segments.{loaded_from}
use Rattle.brd_elf.proofs.segments.load_all.Given as goal

abbrev pub invariant-loop : goal.invariant-loop
invariant-loop l = record {
  place : l.at ≡ l.start + 32 * l.counter;
  same : loaded_from l.order l.file l.at (l.count - l.counter) l.segments ≡ loaded_from l.order l.file l.start l.count [];
}
