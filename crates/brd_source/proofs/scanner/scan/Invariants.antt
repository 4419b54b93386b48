use Rattle.std.proofs.Common.{◌≡◌, ◌++◌, length, map}
use Rattle.brd_source.specs.Tokens.{seen, tokens_in}
use Rattle.brd_source.specs.Tokens.Place.{Between}
use Rattle.brd_source.proofs.scanner.scan.Given as goal

abbrev pub invariant-tokens : goal.invariant-tokens
invariant-tokens l = map seen l.found.items ++ tokens_in Between l.rest ≡ map seen l.fn.found.items ++ tokens_in Between l.line

abbrev pub decreases-tokens : goal.decreases-tokens
decreases-tokens l = length l.rest
