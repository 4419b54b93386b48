-- What tokens say as operands. Each definition is of all its tokens and leaves none; it is None where they have not its
-- form.
use Rattle.std.specs.Prelude.{ℕ, ◌-◌, ℤ, pos, Bool, false, List, [], ◌∷◌, length, take, drop, ◌==◌, ◌&&◌, if◌then◌else◌}
use Rattle.std.specs.Prelude.{Option, Some, None, option_map, codes}
use Rattle.std.specs.List.{slice_split}
use Rattle.std.specs.Str.{bytes_eq}
use lib.IntN.{neg_ℤ}
use Rattle.brd_text.specs.Bytes.{is_name}
use Rattle.brd_text.specs.Numbers.{number_of}
use Rattle.brd_source.specs.Faults.{◌>>=◌}
use Rattle.brd_source.specs.Statement.{Expression, Immediate, SourceOperand, Operands, zero_expression}
use Rattle.brd_source.specs.Statement.Immediate.{Whole, High, Low}
use Rattle.brd_source.specs.Statement.SourceOperand.{Absent, Register, Value, Address}
use Rattle.brd_source.specs.Tokens.{SourceToken, closing_byte, comma_byte, minus_byte, opening_byte, plus_byte}
use Rattle.brd_source.specs.Tokens.SourceToken.{Run, Percent, Mark}
use Rattle.brd_source.specs.Registers.{register_of}

-- ---- numbers and expressions

-- decimal digits, or 0x and hexadecimal digits, below 2 to the 32nd; a - may stand before them
unfoldable pub number_from : List SourceToken → Option ℤ
number_from (Run run ∷ []) = option_map (λ n. pos n) (number_of run)
number_from (Mark b ∷ Run run ∷ []) = if b == minus_byte then option_map (λ n. neg_ℤ (pos n)) (number_of run) else None
number_from _ = None

-- after a name: nothing, + and a number, or - and a number
unfoldable pub addend_from : List SourceToken → Option ℤ
addend_from [] = Some (pos 0)
addend_from (Mark b ∷ tokens) =
    if b == plus_byte then number_from tokens
    else (if b == minus_byte then option_map (λ v. neg_ℤ v) (number_from tokens)
    else None)
addend_from _ = None

abbrev pub plain : ℤ → Expression
plain v = record { name = None; number = v }

abbrev pub named : List ℕ → ℤ → Expression
named name v = record { name = Some name; number = v }

-- a number, or a name and what may stand after it
unfoldable pub expression_from : List SourceToken → Option Expression
expression_from (Run run ∷ tokens) =
    if is_name run then option_map (named run) (addend_from tokens)
    else option_map plain (number_from (Run run ∷ tokens))
expression_from tokens = option_map plain (number_from tokens)

-- ---- immediates

-- The last n tokens, and those before them; where there are fewer, all and none.
abbrev pub last : ℕ → List SourceToken → List SourceToken
last n tokens = drop (length tokens - n) tokens

abbrev pub before_last : ℕ → List SourceToken → List SourceToken
before_last n tokens = take (length tokens - n) tokens

abbrev pub is_closed : List SourceToken → Bool
is_closed (Mark b ∷ []) = b == closing_byte
is_closed _ = false

-- ( expression )
unfoldable pub in_parentheses : List SourceToken → Option Expression
in_parentheses (Mark b ∷ tokens) =
    if b == opening_byte && is_closed (last 1 tokens) then expression_from (before_last 1 tokens) else None
in_parentheses _ = None

-- %hi and %lo by the run after the %
abbrev pub half_of : List ℕ → Expression → Option Immediate
half_of run e =
    if bytes_eq run (codes "hi") then Some (High e)
    else (if bytes_eq run (codes "lo") then Some (Low e)
    else None)

-- an expression, %hi(expression) or %lo(expression)
unfoldable pub immediate_from : List SourceToken → Option Immediate
immediate_from (Percent run ∷ tokens) = in_parentheses tokens >>= half_of run
immediate_from tokens = option_map (λ e. Whole e) (expression_from tokens)

-- ---- operands

-- the register that all the tokens are
abbrev pub register_from : List SourceToken → Option ℕ
register_from (Run run ∷ []) = register_of run
register_from _ = None

-- ( register )
unfoldable pub base_from : List SourceToken → Option ℕ
base_from (Mark a ∷ Run run ∷ Mark b ∷ []) = if a == opening_byte && b == closing_byte then register_of run else None
base_from _ = None

-- before the ( of a register: an immediate, or nothing for the offset 0
unfoldable pub offset_from : List SourceToken → Option Immediate
offset_from [] = Some (Whole zero_expression)
offset_from (token ∷ tokens) = immediate_from (token ∷ tokens)

-- where no ( register ) stands at the end: the register that all the tokens are, or else an immediate
abbrev pub alone_from : Option ℕ → List SourceToken → Option SourceOperand
alone_from (Some r) tokens = Some (Register r)
alone_from None tokens = option_map (λ i. Value i) (immediate_from tokens)

-- by the register in parentheses at the end, where there is one
abbrev pub placed_from : Option ℕ → List SourceToken → Option SourceOperand
placed_from (Some r) tokens = option_map (λ i. Address i r) (offset_from (before_last 3 tokens))
placed_from None tokens = alone_from (register_from tokens) tokens

-- a register, an immediate, or an offset and its register
unfoldable pub operand_from : List SourceToken → Option SourceOperand
operand_from tokens = placed_from (base_from (last 3 tokens)) tokens

-- ---- lists with commas

abbrev pub is_comma : SourceToken → Bool
is_comma (Mark b) = b == comma_byte
is_comma _ = false

-- What stands before the first comma, between two, and after the last. Without a comma it is all, also of no tokens.
abbrev pub parts : List SourceToken → List (List SourceToken)
parts tokens = slice_split is_comma tokens

-- one to three operands, each a part
abbrev pub operands_of : List (List SourceToken) → Option Operands
operands_of (x ∷ []) = operand_from x >>= λ a. Some (a, Absent, Absent)
operands_of (x ∷ y ∷ []) = operand_from x >>= λ a. operand_from y >>= λ b. Some (a, b, Absent)
operands_of (x ∷ y ∷ z ∷ []) = operand_from x >>= λ a. operand_from y >>= λ b. operand_from z >>= λ c. Some (a, b, c)
operands_of _ = None

-- nothing, or up to three operands with commas between them
unfoldable pub operands_from : List SourceToken → Option Operands
operands_from [] = Some (Absent, Absent, Absent)
operands_from (token ∷ tokens) = operands_of (parts (token ∷ tokens))

-- values, each a part
abbrev pub values_of : List (List SourceToken) → Option (List Expression)
values_of [] = Some []
values_of (x ∷ xs) = expression_from x >>= λ e. values_of xs >>= λ es. Some (e ∷ es)
