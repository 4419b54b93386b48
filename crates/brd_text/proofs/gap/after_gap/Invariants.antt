use Rattle.std.proofs.Common.{◌≡◌, ◌+◌, ◌≤◌, length}
use Rattle.brd_text.specs.Tokens.{tokens_in}
use Rattle.brd_text.specs.Tokens.Place.{Between}
use Rattle.brd_text.proofs.gap.after_gap.Given as goal

abbrev pub invariant-loop-byte : goal.invariant-loop-byte
invariant-loop-byte l = record {
  same : tokens_in Between l.at l.left ≡ tokens_in Between l.line l.rest;
  room : l.at + length l.left ≤ l.line + length l.rest;
}

abbrev pub decreases-loop-byte : goal.decreases-loop-byte
decreases-loop-byte l = length l.left
