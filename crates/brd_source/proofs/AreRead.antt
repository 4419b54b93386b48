-- What has the form of a line is read as what it says.
use Rattle.std.proofs.Common.{◌≡◌, ℕ, Bool, true, false, not, ◌&&◌, eqb, List, [], ◌∷◌, ◌++◌, length, ◌-◌, length-append, append-nil, Some, None, refl, sym, ap, ◌∙◌, subst, inl, inr, arith}
use Rattle.std.specs.Prelude.{option_map}
use Rattle.std.specs.List.{list_all}
use Rattle.std.proofs.lemmas.Bool.{cases_Bool, and_parts, eqb-true, not-true}
use Rattle.std.proofs.lemmas.Bool.Decides.{nat_tests}
use Rattle.std.proofs.lemmas.List.{take_at, drop_at}
use Rattle.brd_text.specs.Bytes.{is_name, is_run_byte, begins_name, is_letter}
use Rattle.brd_text.specs.Numbers.{hex_digit_value, digit_of, value_of, most_word, number_of}
use Rattle.brd_text.proofs.Numerals.{value_behind-none}
use Rattle.brd_source.specs.declared.operations.Operation.{Operation}
use Rattle.brd_source.specs.Grammar.{comma, opened, closed, ExpressionIs, ImmediateIs, OperandIs, OperandsAre, ValuesAre, IsSetting, Says, StatementIs, LineIs}
use Rattle.brd_source.specs.Grammar.NumberIs.{unsigned, negative}
use Rattle.brd_source.specs.Grammar.ExpressionIs.{number, name, sum, difference}
use Rattle.brd_source.specs.Grammar.ImmediateIs.{whole, high, low}
use Rattle.brd_source.specs.Grammar.OperandIs.{register, value, offset, no_offset}
use Rattle.brd_source.specs.Grammar.OperandsAre.{none, one, two, three}
use Rattle.brd_source.specs.Grammar.ValuesAre.{one as one_value, many}
use Rattle.brd_source.specs.Grammar.IsSetting.{noreorder, noat, nomacro}
use Rattle.brd_source.specs.Grammar.Says.{instructs, shortens, org, align, space, values, ascii, asciiz, equ, globl, set, byteorder}
use Rattle.brd_source.specs.Grammar.StatementIs.{left_out, begins}
use Rattle.brd_source.specs.Grammar.LineIs.{statement, label}
use Rattle.brd_source.specs.Lines.{labels_of, behind_labels, with_labels, line_from}
use Rattle.brd_source.specs.Reading.{number_from, addend_from, expression_from, last, before_last, in_parentheses, immediate_from, register_from, base_from, offset_from, operand_from, is_comma, parts, operands_of, operands_from, values_of}
use Rattle.brd_source.specs.Registers.{register_of}
use Rattle.brd_source.specs.Statement.{Expression, Immediate, SourceOperand, Operands, Statement, Line}
use Rattle.brd_source.specs.Statement.Immediate.{Whole}
use Rattle.brd_source.specs.Statement.Statement.{Nothing, WithoutEffect}
use Rattle.brd_source.specs.Statements.{text_from, equal_from, global_from, setting_from, order_from, instruction_from, said_from, statement_from}
use Rattle.brd_source.specs.Tokens.{SourceToken}
use Rattle.brd_source.specs.Tokens.SourceToken.{Run, Percent, Mark}
use Rattle.brd_source.proofs.OptionLemmas.{mapped}

-- ---- numbers

-- a run that is a number begins with a digit, and so is neither a name nor a register
no_decimal : (b : ℕ) (bs : List ℕ) → digit_of 10 b ≡ None → value_of 10 most_word (b ∷ bs) ≡ None
no_decimal b bs no_digit = rw (no_digit, value_behind-none 10 bs) refl

no_number : (b : ℕ) (bs : List ℕ) → eqb b 48 ≡ false → digit_of 10 b ≡ None → number_of (b ∷ bs) ≡ None
unfolding number_of
no_number b [] other no_digit = no_decimal b [] no_digit
no_number b (c ∷ bs) other no_digit = rw other (no_decimal b (c ∷ bs) no_digit)

named : (run : List ℕ) → is_name run ≡ true → (number_of run ≡ None) × (register_of run ≡ None)
unfolding digit_of hex_digit_value begins_name is_letter
named [] h = absurd (cc)
named (b ∷ bs) h =
    let begins = (and_parts (begins_name b) (list_all is_run_byte bs) h).0 in
    let no_digit : digit_of 10 b ≡ None = grind (arith, nat_tests) in
    let no_zero : eqb b 48 ≡ false = grind (arith, nat_tests) in
    let no_dollar : eqb b 36 ≡ false = grind (arith, nat_tests) in
    (no_number b bs no_zero no_digit, rw no_dollar refl)

none_is_some : (n : ℕ) → None ≡ Some n → ⊥
none_is_some n e = cc

is_no_name : (run : List ℕ) (n : ℕ) → number_of run ≡ Some n → is_name run ≡ false
is_no_name run n e =
    elim (cases_Bool (is_name run)) [
      | inl a_name ↦ absurd (none_is_some n (sym (named run a_name).0 ∙ e))
      | inr no_name ↦ no_name
    ]

is_no_register : (run : List ℕ) (n : ℕ) → number_of run ≡ Some n → register_of run ≡ None
unfolding digit_of hex_digit_value
is_no_register [] n e = refl
is_no_register (b ∷ bs) n e =
    elim (cases_Bool (eqb b 36)) [
      | inl dollar ↦ absurd (none_is_some n (sym (no_number 36 bs refl refl) ∙ subst (λ (c : ℕ). number_of (c ∷ bs) ≡ Some n) (eqb-true b 36 dollar) e))
      | inr other ↦ rw other refl
    ]

-- ---- expressions and immediates

expression_read : (tokens : List SourceToken) (e : Expression) → ExpressionIs tokens e → expression_from tokens ≡ Some e
unfolding expression_from addend_from number_from
expression_read _ _ (number _ _ (unsigned run n e)) = rw (is_no_name run n e, e) refl
expression_read _ _ (number _ _ (negative run n e)) = rw e refl
expression_read _ _ (name run h) = rw h refl
expression_read _ _ (sum run _ _ h (unsigned digits n e)) = rw (h, e) refl
expression_read _ _ (sum run _ _ h (negative digits n e)) = rw (h, e) refl
expression_read _ _ (difference run _ _ h (unsigned digits n e)) = rw (h, e) refl
expression_read _ _ (difference run _ _ h (negative digits n e)) = rw (h, e) refl

-- n tokens at the end, and those before them
ends : (xs ys : List SourceToken) → (before_last (length ys) (xs ++ ys) ≡ xs) × (last (length ys) (xs ++ ys) ≡ ys)
ends xs ys =
    let len : length (xs ++ ys) - length ys ≡ length xs = omega (arith, length-append xs ys) in
    (rw len (take_at xs ys (length xs) refl), rw len (drop_at xs ys (length xs) refl))

enclosed_read : (inner : List SourceToken) (e : Expression) → ExpressionIs inner e → in_parentheses (opened ∷ (inner ++ closed ∷ [])) ≡ Some e
unfolding in_parentheses
enclosed_read inner e is = rw ((ends inner (closed ∷ [])).1, (ends inner (closed ∷ [])).0) (expression_read inner e is)

-- no expression begins with %
by_expression : (tokens : List SourceToken) (e : Expression) → ExpressionIs tokens e → immediate_from tokens ≡ option_map (λ e. Whole e) (expression_from tokens)
unfolding immediate_from
by_expression _ _ (number _ _ (unsigned run n e)) = refl
by_expression _ _ (number _ _ (negative run n e)) = refl
by_expression _ _ (name run h) = refl
by_expression _ _ (sum run tokens v h n) = refl
by_expression _ _ (difference run tokens v h n) = refl

immediate_read : (tokens : List SourceToken) (i : Immediate) → ImmediateIs tokens i → immediate_from tokens ≡ Some i
unfolding immediate_from
immediate_read _ _ (whole tokens e is) = by_expression tokens e is ∙ rw (expression_read tokens e is) refl
immediate_read _ _ (high tokens e is) = rw (enclosed_read tokens e is) refl
immediate_read _ _ (low tokens e is) = rw (enclosed_read tokens e is) refl

-- ---- operands

-- no immediate ends with a register in parentheses, nor is one a register
no_base_in_half : (run : List ℕ) (inner : List SourceToken) (e : Expression) → ExpressionIs inner e → base_from (last 3 (Percent run ∷ opened ∷ (inner ++ closed ∷ []))) ≡ None
unfolding base_from
no_base_in_half half _ _ (number _ _ (unsigned run n e)) = is_no_register run n e
no_base_in_half half _ _ (number _ _ (negative run n e)) = refl
no_base_in_half half _ _ (name run h) = (named run h).1
no_base_in_half half _ _ (sum run _ _ h (unsigned digits n e)) = refl
no_base_in_half half _ _ (sum run _ _ h (negative digits n e)) = refl
no_base_in_half half _ _ (difference run _ _ h (unsigned digits n e)) = refl
no_base_in_half half _ _ (difference run _ _ h (negative digits n e)) = refl

no_base : (tokens : List SourceToken) (i : Immediate) → ImmediateIs tokens i → base_from (last 3 tokens) ≡ None
unfolding base_from
no_base _ _ (whole _ _ (number _ _ (unsigned run n e))) = refl
no_base _ _ (whole _ _ (number _ _ (negative run n e))) = refl
no_base _ _ (whole _ _ (name run h)) = refl
no_base _ _ (whole _ _ (sum run _ _ h (unsigned digits n e))) = refl
no_base _ _ (whole _ _ (sum run _ _ h (negative digits n e))) = refl
no_base _ _ (whole _ _ (difference run _ _ h (unsigned digits n e))) = refl
no_base _ _ (whole _ _ (difference run _ _ h (negative digits n e))) = refl
no_base _ _ (high inner e is) = no_base_in_half _ inner e is
no_base _ _ (low inner e is) = no_base_in_half _ inner e is

no_register : (tokens : List SourceToken) (i : Immediate) → ImmediateIs tokens i → register_from tokens ≡ None
no_register _ _ (whole _ _ (number _ _ (unsigned run n e))) = is_no_register run n e
no_register _ _ (whole _ _ (number _ _ (negative run n e))) = refl
no_register _ _ (whole _ _ (name run h)) = (named run h).1
no_register _ _ (whole _ _ (sum run _ _ h n)) = refl
no_register _ _ (whole _ _ (difference run _ _ h n)) = refl
no_register _ _ (high inner e is) = refl
no_register _ _ (low inner e is) = refl

-- an offset that isn't left out
offset_read : (tokens : List SourceToken) (i : Immediate) → immediate_from tokens ≡ Some i → offset_from tokens ≡ Some i
unfolding offset_from immediate_from expression_from number_from
offset_read [] i h = absurd (cc)
offset_read (token ∷ tokens) i h = h

operand_read : (tokens : List SourceToken) (o : SourceOperand) → OperandIs tokens o → operand_from tokens ≡ Some o
unfolding operand_from base_from offset_from
operand_read _ _ (register run r e) = rw e refl
operand_read _ _ (value tokens i is) = rw (no_base tokens i is, no_register tokens i is, immediate_read tokens i is) refl
operand_read _ _ (offset tokens i run r is e) =
    let base : List SourceToken = opened ∷ Run run ∷ closed ∷ [] in
    rw ((ends tokens base).1, e, (ends tokens base).0, offset_read tokens i (immediate_read tokens i is)) refl
operand_read _ _ (no_offset run r e) = rw e refl

-- ---- commas and colons

-- neither a comma nor a colon
is_inside : SourceToken → Bool
is_inside (Mark b) = not (eqb b 44) && not (eqb b 58)
is_inside _ = true

all_inside : List SourceToken → Bool
all_inside tokens = list_all is_inside tokens

joined : (xs ys : List SourceToken) → all_inside xs ≡ true → all_inside ys ≡ true → all_inside (xs ++ ys) ≡ true
unfolding all_inside
joined [] ys h k = k
joined (x ∷ xs) ys h k =
    let both = and_parts (is_inside x) (list_all is_inside xs) h in
    rw (both.0, joined xs ys both.1 k) refl

expression_inside : (tokens : List SourceToken) (e : Expression) → ExpressionIs tokens e → all_inside tokens ≡ true
unfolding all_inside is_inside
expression_inside _ _ (number _ _ (unsigned run n e)) = refl
expression_inside _ _ (number _ _ (negative run n e)) = refl
expression_inside _ _ (name run h) = refl
expression_inside _ _ (sum run _ _ h (unsigned digits n e)) = refl
expression_inside _ _ (sum run _ _ h (negative digits n e)) = refl
expression_inside _ _ (difference run _ _ h (unsigned digits n e)) = refl
expression_inside _ _ (difference run _ _ h (negative digits n e)) = refl

immediate_inside : (tokens : List SourceToken) (i : Immediate) → ImmediateIs tokens i → all_inside tokens ≡ true
unfolding all_inside is_inside
immediate_inside _ _ (whole tokens e is) = expression_inside tokens e is
immediate_inside _ _ (high tokens e is) = joined tokens (closed ∷ []) (expression_inside tokens e is) refl
immediate_inside _ _ (low tokens e is) = joined tokens (closed ∷ []) (expression_inside tokens e is) refl

operand_inside : (tokens : List SourceToken) (o : SourceOperand) → OperandIs tokens o → all_inside tokens ≡ true
unfolding all_inside is_inside
operand_inside _ _ (register run r e) = refl
operand_inside _ _ (value tokens i is) = immediate_inside tokens i is
operand_inside _ _ (offset tokens i run r is e) = joined tokens (opened ∷ Run run ∷ closed ∷ []) (immediate_inside tokens i is) refl
operand_inside _ _ (no_offset run r e) = refl

no_comma : (token : SourceToken) → is_inside token ≡ true → is_comma token ≡ false
unfolding is_inside
no_comma (Mark b) h = not-true (eqb b 44) (and_parts (not (eqb b 44)) (not (eqb b 58)) h).0
no_comma _ h = refl

one_part : (xs : List SourceToken) → all_inside xs ≡ true → parts xs ≡ xs ∷ []
unfolding all_inside
one_part [] h = refl
one_part (x ∷ xs) h =
    let both = and_parts (is_inside x) (list_all is_inside xs) h in
    rw (no_comma x both.0, one_part xs both.1) refl

part_and_more : (xs ys : List SourceToken) → all_inside xs ≡ true → parts (xs ++ comma ∷ ys) ≡ xs ∷ parts ys
unfolding all_inside
part_and_more [] ys h = refl
part_and_more (x ∷ xs) ys h =
    let both = and_parts (is_inside x) (list_all is_inside xs) h in
    rw (no_comma x both.0, part_and_more xs ys both.1) refl

-- there are tokens, so there are operands
some_operands : (xs ys : List SourceToken) → operands_from (xs ++ comma ∷ ys) ≡ operands_of (parts (xs ++ comma ∷ ys))
unfolding operands_from
some_operands [] ys = refl
some_operands (x ∷ xs) ys = refl

one_operand : (xs : List SourceToken) (a : SourceOperand) → operand_from xs ≡ Some a → operands_from xs ≡ operands_of (parts xs)
unfolding operands_from operand_from base_from immediate_from expression_from number_from
one_operand [] a h = absurd (cc)
one_operand (x ∷ xs) a h = refl

operands_read : (tokens : List SourceToken) (os : Operands) → OperandsAre tokens os → operands_from tokens ≡ Some os
unfolding operands_from
operands_read _ _ none = refl
operands_read _ _ (one xs a is) = one_operand xs a (operand_read xs a is) ∙ rw (one_part xs (operand_inside xs a is), operand_read xs a is) refl
operands_read _ _ (two xs ys a b is_a is_b) =
    some_operands xs ys ∙ rw (part_and_more xs ys (operand_inside xs a is_a), one_part ys (operand_inside ys b is_b), operand_read xs a is_a, operand_read ys b is_b) refl
operands_read _ _ (three xs ys zs a b c is_a is_b is_c) =
    some_operands xs (ys ++ comma ∷ zs) ∙ rw (part_and_more xs (ys ++ comma ∷ zs) (operand_inside xs a is_a), part_and_more ys zs (operand_inside ys b is_b), one_part zs (operand_inside zs c is_c), operand_read xs a is_a, operand_read ys b is_b, operand_read zs c is_c) refl

values_read : (tokens : List SourceToken) (es : List Expression) → ValuesAre tokens es → values_of (parts tokens) ≡ Some es
values_read _ _ (one_value tokens e is) = rw (one_part tokens (expression_inside tokens e is), expression_read tokens e is) refl
values_read _ _ (many tokens others e es is are) = rw (part_and_more tokens others (expression_inside tokens e is), expression_read tokens e is, values_read others es are) refl

-- ---- statements

set_read : (setting : List ℕ) → IsSetting setting → setting_from (Run setting ∷ []) ≡ Some WithoutEffect
unfolding setting_from
set_read _ noreorder = refl
set_read _ noat = refl
set_read _ nomacro = refl

said_read : (operation : Operation) (tokens : List SourceToken) (s : Statement) → Says operation tokens s → said_from operation tokens ≡ Some s
unfolding instruction_from text_from equal_from global_from order_from
said_read _ _ _ (instructs m tokens written operands are takes) = rw (operands_read tokens written are, takes) refl
said_read _ _ _ (shortens s tokens written operands are takes) = rw (operands_read tokens written are, takes) refl
said_read _ _ _ (org tokens e is) = rw (expression_read tokens e is) refl
said_read _ _ _ (align tokens e is) = rw (expression_read tokens e is) refl
said_read _ _ _ (space tokens e is) = rw (expression_read tokens e is) refl
said_read _ _ _ (values w tokens es are) = rw (values_read tokens es are) refl
said_read _ _ _ (ascii text bytes is) = rw is refl
said_read _ _ _ (asciiz text bytes is) = rw is refl
said_read _ _ _ (equ given tokens e h is) = rw (h, expression_read tokens e is) refl
said_read _ _ _ (globl given h) = rw h refl
said_read _ _ _ (set setting is) = set_read setting is
said_read _ _ _ (byteorder given order is) = rw is refl

statement_read : (tokens : List SourceToken) (s : Statement) → StatementIs tokens s → statement_from tokens ≡ Some s
unfolding statement_from
statement_read _ _ left_out = refl
statement_read _ _ (begins run operation tokens s operation_is says) = rw operation_is (said_read operation tokens s says)

-- ---- lines

-- no colon stands first
no_colon : List SourceToken → Bool
no_colon (Mark b ∷ tokens) = not (eqb b 58)
no_colon _ = true

no_colon_inside : (xs ys : List SourceToken) → all_inside xs ≡ true → no_colon ys ≡ true → no_colon (xs ++ ys) ≡ true
unfolding no_colon all_inside is_inside
no_colon_inside [] ys h k = k
no_colon_inside (Mark b ∷ xs) ys h k = (and_parts (not (eqb b 44)) (not (eqb b 58)) (and_parts (not (eqb b 44) && not (eqb b 58)) (list_all is_inside xs) h).0).1
no_colon_inside (_ ∷ xs) ys h k = refl

inside_alone : (xs : List SourceToken) → all_inside xs ≡ true → no_colon xs ≡ true
unfolding no_colon
inside_alone xs h = rw append-nil at (no_colon_inside xs [] h refl)

before_comma : (xs ys : List SourceToken) → all_inside xs ≡ true → no_colon (xs ++ comma ∷ ys) ≡ true
unfolding no_colon
before_comma xs ys h = no_colon_inside xs (comma ∷ ys) h refl

operands_no_colon : (tokens : List SourceToken) (os : Operands) → OperandsAre tokens os → no_colon tokens ≡ true
unfolding no_colon
operands_no_colon _ _ none = refl
operands_no_colon _ _ (one xs a is) = inside_alone xs (operand_inside xs a is)
operands_no_colon _ _ (two xs ys a b is_a is_b) = before_comma xs ys (operand_inside xs a is_a)
operands_no_colon _ _ (three xs ys zs a b c is_a is_b is_c) = before_comma xs (ys ++ comma ∷ zs) (operand_inside xs a is_a)

said_no_colon : (operation : Operation) (tokens : List SourceToken) (s : Statement) → Says operation tokens s → no_colon tokens ≡ true
unfolding no_colon
said_no_colon _ _ _ (instructs m tokens written operands are takes) = operands_no_colon tokens written are
said_no_colon _ _ _ (shortens s tokens written operands are takes) = operands_no_colon tokens written are
said_no_colon _ _ _ (org tokens e is) = inside_alone tokens (expression_inside tokens e is)
said_no_colon _ _ _ (align tokens e is) = inside_alone tokens (expression_inside tokens e is)
said_no_colon _ _ _ (space tokens e is) = inside_alone tokens (expression_inside tokens e is)
said_no_colon _ _ _ (values w _ _ (one_value tokens e is)) = inside_alone tokens (expression_inside tokens e is)
said_no_colon _ _ _ (values w _ _ (many tokens others e es is are)) = before_comma tokens others (expression_inside tokens e is)
said_no_colon _ _ _ (ascii text bytes is) = refl
said_no_colon _ _ _ (asciiz text bytes is) = refl
said_no_colon _ _ _ (equ given tokens e h is) = refl
said_no_colon _ _ _ (globl given h) = refl
said_no_colon _ _ _ (set setting is) = refl
said_no_colon _ _ _ (byteorder given order is) = refl

no_label : (run : List ℕ) (tokens : List SourceToken) → no_colon tokens ≡ true → (labels_of (Run run ∷ tokens) ≡ []) × (behind_labels (Run run ∷ tokens) ≡ Run run ∷ tokens)
unfolding no_colon
no_label run (Mark b ∷ tokens) h =
    let other = not-true (eqb b 58) h in
    (rw other refl, rw other refl)
no_label run [] h = (refl, refl)
no_label run (_ ∷ tokens) h = (refl, refl)

pub line_read : (tokens : List SourceToken) (line : Line) → LineIs tokens line → line_from tokens ≡ Some line
line_read _ _ (statement _ _ left_out) = rw (statement_read [] Nothing left_out) refl
line_read _ _ (statement _ _ (begins run operation tokens s operation_is says)) =
    let none = no_label run tokens (said_no_colon operation tokens s says) in
    rw (none.0, none.1, statement_read (Run run ∷ tokens) s (begins run operation tokens s operation_is says)) refl
line_read _ _ (label run tokens labels s h is) =
    let line : Line = with_labels labels s in
    let read = mapped (with_labels (labels_of tokens)) (statement_from (behind_labels tokens)) line (line_read tokens line is) in
    rw (h, read.1) (ap (λ (l : Line). Some (with_labels (run ∷ l.labels) l.statement)) read.2)
