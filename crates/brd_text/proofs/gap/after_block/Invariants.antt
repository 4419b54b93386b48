use Rattle.std.proofs.Common.{◌≡◌, ◌+◌, ◌≤◌, length}
use Rattle.brd_text.specs.Tokens.{tokens_in}
use Rattle.brd_text.specs.Tokens.Place.{InBlock}
use Rattle.brd_text.proofs.gap.after_block.Given as goal

abbrev pub invariant-loop-left : goal.invariant-loop-left
invariant-loop-left l = record {
  same : tokens_in InBlock l.at l.left ≡ tokens_in InBlock l.line l.rest;
  room : l.at + length l.left ≤ l.line + length l.rest;
  shorter : length l.left ≤ length l.rest;
}

abbrev pub decreases-loop-left : goal.decreases-loop-left
decreases-loop-left l = length l.left
