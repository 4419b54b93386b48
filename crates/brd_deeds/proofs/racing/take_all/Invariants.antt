use Rattle.std.proofs.Common.{ℕ, ◌+◌, List, ◌++◌, take}
use Rattle.brd_order.specs.declared.deed.Deed.{Deed}
use Rattle.brd_order.specs.After.{IsAfter}
use Rattle.brd_order.specs.Refusals.{IsKept}
use Rattle.brd_deeds.proofs.racing.take_all.Given as goal

abbrev pub invariant-loop-deed : goal.invariant-loop-deed
invariant-loop-deed l = record {
  after : (before : List Deed) → IsAfter before l.fn.order → IsAfter (before ++ take l.deed-index l.deeds) l.order;
  kept : (n : ℕ) → IsKept n l.fn.order → IsKept (n + l.deed-index) l.order;
}
