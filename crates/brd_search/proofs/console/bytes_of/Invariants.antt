-- the bytes so far
use Rattle.std.proofs.Common.{◌≡◌, length}
use Rattle.brd_search.specs.Escapes.{bytes_of, bytes_within}
use Rattle.brd_search.specs.Escapes.Within.{no_escape}
use Rattle.brd_search.proofs.EscapeLemmas.{behind}
use Rattle.brd_search.proofs.console.bytes_of.Given as goal

abbrev pub invariant-bytes : goal.invariant-bytes
invariant-bytes l = bytes_of l.text ≡ behind l.bytes (bytes_within no_escape l.rest)

abbrev pub decreases-bytes : goal.decreases-bytes
decreases-bytes l = length l.rest
