-- What is told of a stack, as it is kept.
use Rattle.std.specs.Prelude.{false, if◌then◌else◌, Option, None, Some}
use Rattle.brd_stacks.specs.declared.stack.Point.{Point}
use Rattle.brd_stacks.specs.declared.stack.Stack.{Stack}
use Rattle.brd_stacks.specs.declared.track.Track.{Track}
use Rattle.brd_stacks.specs.Strands.{deeper, overflows_when, stands_after}

abbrev pub started : Stack → Track
started stack = record { stack = stack; stands = false; deepest = None; overflow = None }

abbrev pub deepest_after : Track → Point → Option Point
deepest_after track point = if deeper track.stack track.deepest point then Some point else track.deepest

abbrev pub overflow_by : Track → Point → Option Point → Option Point
overflow_by track point None = if overflows_when track.stack track.stands point then Some point else None
overflow_by track point (Some overflow) = Some overflow

abbrev pub overflow_after : Track → Point → Option Point
overflow_after track point = overflow_by track point track.overflow

abbrev pub taken : Point → Track → Track
taken point track = record {
  stack = track.stack;
  stands = stands_after track.stack track.stands point;
  deepest = deepest_after track point;
  overflow = overflow_after track point;
}
