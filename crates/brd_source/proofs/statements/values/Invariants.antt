use Rattle.std.proofs.Common.{◌≡◌, ◌++◌, suc, length, map}
use Rattle.std.specs.Prelude.{ℕ, Option, Some, None, option_map}
use Rattle.brd_source.specs.Fronts.{parts_behind}
use Rattle.brd_source.specs.Reading.{parts, values_of}
use Rattle.brd_source.specs.Tokens.{seen}
use Rattle.brd_source.specs.View.{expression_value}
use Rattle.brd_source.proofs.statements.values.Given as goal

abbrev pub invariant-values : goal.invariant-values
invariant-values l = option_map (λ es. map expression_value l.values ++ es) (values_of (parts_behind (option_map (λ tokens. map seen tokens.now) l.rest))) ≡ values_of (parts (map seen l.fn.tokens))

-- how many tokens are left, and one for the last turn
abbrev tokens_left : Option ℕ → ℕ
tokens_left None = 0
tokens_left (Some n) = suc n

abbrev pub decreases-values : goal.decreases-values
decreases-values l = tokens_left (option_map (λ tokens. length tokens.now) l.rest)
