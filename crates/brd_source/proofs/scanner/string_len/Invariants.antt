use Rattle.std.proofs.Common.{◌≡◌, ◌+◌, drop, false}
use Rattle.std.specs.Prelude.{option_map}
use Rattle.brd_source.specs.Tokens.{string_len}
use Rattle.brd_source.proofs.scanner.string_len.Given as goal

abbrev pub invariant-loop-i : goal.invariant-loop-i
invariant-loop-i l = option_map (λ n. l.i + n) (string_len l.is_escaped (drop l.i l.rest)) ≡ string_len false l.rest
