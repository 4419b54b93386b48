use Rattle.std.proofs.Common.{◌≡◌, ◌≤◌, length}
use Rattle.brd_source.specs.Tokens.{tokens_in}
use Rattle.brd_source.specs.Tokens.Place.{Between}
use Rattle.brd_source.proofs.scanner.after_blanks.Given as goal

abbrev pub invariant-loop-byte : goal.invariant-loop-byte
invariant-loop-byte l = (tokens_in Between l.left ≡ tokens_in Between l.line) × (length l.left ≤ length l.line)

abbrev pub decreases-loop-byte : goal.decreases-loop-byte
decreases-loop-byte l = length l.left
