use Rattle.std.proofs.Common.{◌≡◌, ◌+◌, drop}
use Rattle.std.specs.List.{position_or_len}
use Rattle.brd_source.specs.Reading.{is_comma}
use Rattle.brd_source.specs.Tokens.{seen}
use Rattle.brd_source.proofs.reading.part_len.Given as goal

abbrev pub invariant-loop-i : goal.invariant-loop-i
invariant-loop-i l = l.i + position_or_len (λ token. is_comma (seen token)) (drop l.i l.tokens) ≡ position_or_len (λ token. is_comma (seen token)) l.tokens
