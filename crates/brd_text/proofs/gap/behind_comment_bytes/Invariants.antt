use Rattle.std.proofs.Common.{◌≡◌, ℕ, ◌≤◌, length}
use Rattle.brd_text.specs.Tokens.{tokens_in}
use Rattle.brd_text.specs.Tokens.Place.{InBlock}
use Rattle.brd_text.proofs.gap.behind_comment_bytes.Given as goal

abbrev pub invariant-loop-byte : goal.invariant-loop-byte
invariant-loop-byte l = record {
  same : (line : ℕ) → tokens_in InBlock line l.left ≡ tokens_in InBlock line l.rest;
  room : length l.left ≤ length l.rest;
}

abbrev pub decreases-loop-byte : goal.decreases-loop-byte
decreases-loop-byte l = length l.left
