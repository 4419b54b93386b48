-- The stacks so far, with those of the lines that are left, are all.
use Rattle.std.proofs.Common.{◌≡◌, ◌++◌, ◌-◌, ◌≤◌}
use Rattle.std.specs.List.{filter_map, range_with_len}
use Rattle.brd_stacks.specs.Laid.{handler_stack, time_handler_stacks}
use Rattle.brd_stacks.proofs.laid.put_time_handlers.Given as goal

abbrev pub invariant-loop-line : goal.invariant-loop-line
invariant-loop-line l = record {
  most : l.line ≤ 160;
  all : l.stacks ++ filter_map (handler_stack l.symbols) (range_with_len l.line (160 - l.line))
      ≡ l.fn.stacks ++ time_handler_stacks l.symbols;
}
