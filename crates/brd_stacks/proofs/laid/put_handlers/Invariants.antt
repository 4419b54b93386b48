-- The stacks so far, with those of the handlers that are left, are all.
use Rattle.std.proofs.Common.{◌≡◌, ◌++◌, drop}
use Rattle.brd_stacks.specs.Laid.{handler_stacks}
use Rattle.brd_stacks.proofs.laid.put_handlers.Given as goal

abbrev pub invariant-loop-handler : goal.invariant-loop-handler
invariant-loop-handler l =
    l.fn.stacks ++ handler_stacks l.symbols l.handlers ≡ l.stacks ++ handler_stacks l.symbols (drop l.handler-index l.handlers)
