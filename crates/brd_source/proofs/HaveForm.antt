-- What is read has the form of what it is read as.
use Rattle.std.proofs.Common.{◌≡◌, ℕ, true, eqb, List, [], ◌∷◌, ◌++◌, length, ◌-◌, Option, Some, None, refl, sym, ap, ◌∙◌, subst, inl, inr}
use Rattle.std.specs.Prelude.{ℤ, pos, codes, bytes_eq, option_map, ◌&&◌}
use Rattle.std.specs.List.{onto_first}
use lib.IntN.{neg_ℤ}
use Rattle.std.proofs.lemmas.Bool.{cases_Bool, and_parts, eqb-true}
use Rattle.std.proofs.lemmas.List.{take-append-drop}
use Rattle.std.proofs.lemmas.Slice.Eq.{bytes_eq-Decides}
use Rattle.brd_isa.specs.Names.{lowered}
use Rattle.brd_text.specs.Bytes.{is_name}
use Rattle.brd_text.specs.Numbers.{number_of}
use Rattle.brd_source.specs.declared.forms.Kind.{Kind}
use Rattle.brd_source.specs.declared.operations.Directive.{Directive}
use Rattle.brd_source.specs.declared.operations.Directive.TheVariants as directives
use Rattle.brd_source.specs.declared.operations.Operation.{Operation}
use Rattle.brd_source.specs.declared.operations.Operation.TheVariants.{Mnemonic, Shorthand, Directive as Directs}
use Rattle.brd_source.specs.Faults.{◌>>=◌}
use Rattle.brd_source.specs.Forms.{form_of, short_form_of, taken, instruction, stands_for}
use Rattle.brd_source.specs.Grammar.{comma, minus, opened, closed, NumberIs, ExpressionIs, ImmediateIs, OperandIs, OperandsAre, ValuesAre, IsSetting, Says, StatementIs, LineIs}
use Rattle.brd_source.specs.Grammar.NumberIs.{unsigned, negative}
use Rattle.brd_source.specs.Grammar.ExpressionIs.{number, name, sum, difference}
use Rattle.brd_source.specs.Grammar.ImmediateIs.{whole, high, low}
use Rattle.brd_source.specs.Grammar.OperandIs.{register, value, offset, no_offset}
use Rattle.brd_source.specs.Grammar.OperandsAre.{none, one, two, three}
use Rattle.brd_source.specs.Grammar.ValuesAre.{one as one_value, many}
use Rattle.brd_source.specs.Grammar.IsSetting.{noreorder, noat, nomacro}
use Rattle.brd_source.specs.Grammar.Says.{instructs, shortens, org, align, space, values, ascii, asciiz, equ, globl, set, byteorder}
use Rattle.brd_source.specs.Grammar.StatementIs.{left_out, begins}
use Rattle.brd_source.specs.Grammar.LineIs.{statement, label}
use Rattle.brd_source.specs.Lines.{is_label, labels_of, behind_labels, with_labels, line_from}
use Rattle.brd_source.specs.Reading.{number_from, addend_from, plain, named, expression_from, last, before_last, is_closed, in_parentheses, half_of, immediate_from, register_from, base_from, offset_from, alone_from, placed_from, operand_from, is_comma, parts, operands_of, operands_from, values_of}
use Rattle.brd_source.specs.Registers.{register_of}
use Rattle.brd_source.specs.Statement.{Expression, Immediate, SourceOperand, Operands, Instruction, Statement, Line, zero_expression}
use Rattle.brd_source.specs.Statement.Immediate.{Whole, High, Low}
use Rattle.brd_source.specs.Statement.SourceOperand.{Absent, Register, Value, Address}
use Rattle.brd_source.specs.Statement.Statement.{Nothing, WithoutEffect, ByteOrder, Instruct, Org, Align, Space, Data, Text, Equal}
use Rattle.brd_source.specs.Statements.{text_from, equal_from, global_from, is_setting, setting_from, order_from, directive_from, instruction_from, said_from, statement_from}
use Rattle.brd_source.specs.Texts.{text_of}
use Rattle.brd_source.specs.Tokens.{SourceToken}
use Rattle.brd_source.specs.Tokens.SourceToken.{Run, Percent, Quoted, Mark}
use Rattle.brd_source.specs.Operations.{operation_named, order_named}
use Rattle.brd_source.proofs.OptionLemmas.{some_is, mapped, bound, tested}

-- a mark by its code
marked : (b mark : ℕ) (tokens : List SourceToken) → eqb b mark ≡ true → Mark b ∷ tokens ≡ Mark mark ∷ tokens
marked b mark tokens e = ap (λ (n : ℕ). Mark n ∷ tokens) (eqb-true b mark e)

-- ---- numbers and expressions

number_is : (tokens : List SourceToken) (v : ℤ) → number_from tokens ≡ Some v → NumberIs tokens v
unfolding number_from
number_is (Run run ∷ []) v e =
    let n = mapped (λ n. pos n) (number_of run) v e in
    subst (λ (w : ℤ). NumberIs (Run run ∷ []) w) n.2 (unsigned run n.0 n.1)
number_is (Mark b ∷ Run run ∷ []) v e =
    let t = tested (eqb b 45) (option_map (λ n. neg_ℤ (pos n)) (number_of run)) v e in
    let n = mapped (λ n. neg_ℤ (pos n)) (number_of run) v t.1 in
    subst (λ (tokens : List SourceToken). NumberIs tokens v) (sym (marked b 45 (Run run ∷ []) t.0)) (subst (λ (w : ℤ). NumberIs (minus ∷ Run run ∷ []) w) n.2 (negative run n.0 n.1))
number_is _ v e = absurd (cc)

plain_is : (tokens : List SourceToken) (e : Expression) → option_map plain (number_from tokens) ≡ Some e → ExpressionIs tokens e
plain_is tokens e h =
    let n = mapped plain (number_from tokens) e h in
    subst (λ (x : Expression). ExpressionIs tokens x) n.2 (number tokens n.0 (number_is tokens n.0 n.1))

-- a name and what stands after it
named_is : (run : List ℕ) (tokens : List SourceToken) (v : ℤ) → is_name run ≡ true → addend_from tokens ≡ Some v → ExpressionIs (Run run ∷ tokens) (named run v)
unfolding addend_from
named_is run [] v h e = subst (λ (w : ℤ). ExpressionIs (Run run ∷ []) (named run w)) (some_is (pos 0) v e) (name run h)
named_is run (Mark b ∷ tokens) v h e =
    elim (cases_Bool (eqb b 43)) [
      | inl is_plus ↦ subst (λ (ts : List SourceToken). ExpressionIs (Run run ∷ ts) (named run v)) (sym (marked b 43 tokens is_plus)) (sum run tokens v h (number_is tokens v (rw is_plus at e)))
      | inr no_plus ↦
          let t = tested (eqb b 45) (option_map (λ v. neg_ℤ v) (number_from tokens)) v (rw no_plus at e) in
          let n = mapped (λ v. neg_ℤ v) (number_from tokens) v t.1 in
          subst (λ (ts : List SourceToken). ExpressionIs (Run run ∷ ts) (named run v)) (sym (marked b 45 tokens t.0)) (subst (λ (w : ℤ). ExpressionIs (Run run ∷ minus ∷ tokens) (named run w)) n.2 (difference run tokens n.0 h (number_is tokens n.0 n.1)))
    ]
named_is run _ v h e = absurd (cc)

expression_is : (tokens : List SourceToken) (e : Expression) → expression_from tokens ≡ Some e → ExpressionIs tokens e
unfolding expression_from
expression_is (Run run ∷ tokens) e h =
    elim (cases_Bool (is_name run)) [
      | inl a_name ↦
          let v = mapped (named run) (addend_from tokens) e (rw a_name at h) in
          subst (λ (x : Expression). ExpressionIs (Run run ∷ tokens) x) v.2 (named_is run tokens v.0 a_name v.1)
      | inr no_name ↦ plain_is (Run run ∷ tokens) e (rw no_name at h)
    ]
expression_is [] e h = plain_is [] e h
expression_is (token ∷ tokens) e h = plain_is (token ∷ tokens) e h

-- ---- immediates

only_closed : (tokens : List SourceToken) → is_closed tokens ≡ true → tokens ≡ closed ∷ []
only_closed (Mark b ∷ []) h = marked b 41 [] h
only_closed _ h = absurd (cc)

-- an expression between two tokens
record Enclosed (tokens : List SourceToken) (e : Expression) : Type 0 where
  inner : List SourceToken
  are : tokens ≡ opened ∷ (inner ++ closed ∷ [])
  is : ExpressionIs inner e

enclosed : (tokens : List SourceToken) (e : Expression) → in_parentheses tokens ≡ Some e → Enclosed tokens e
unfolding in_parentheses
enclosed (Mark b ∷ tokens) e h =
    let t = tested (eqb b 40 && is_closed (last 1 tokens)) (expression_from (before_last 1 tokens)) e h in
    let marks = and_parts (eqb b 40) (is_closed (last 1 tokens)) t.0 in
    record {
      inner = before_last 1 tokens;
      are = marked b 40 tokens marks.0 ∙ ap (λ (ts : List SourceToken). opened ∷ ts) (sym (take-append-drop (length tokens - 1) tokens) ∙ ap (λ (ts : List SourceToken). before_last 1 tokens ++ ts) (only_closed (last 1 tokens) marks.1));
      is = expression_is (before_last 1 tokens) e t.1;
    }
enclosed _ e h = absurd (cc)

half_is : (run : List ℕ) (inner : List SourceToken) (e : Expression) (i : Immediate) → half_of run e ≡ Some i → ExpressionIs inner e → ImmediateIs (Percent run ∷ opened ∷ (inner ++ closed ∷ [])) i
half_is run inner e i h is =
    elim (cases_Bool (bytes_eq run (codes "hi"))) [
      | inl hi ↦ subst (λ (r : List ℕ). ImmediateIs (Percent r ∷ opened ∷ (inner ++ closed ∷ [])) i) (sym ((bytes_eq-Decides run (codes "hi")).0 hi)) (subst (λ (j : Immediate). ImmediateIs (Percent (codes "hi") ∷ opened ∷ (inner ++ closed ∷ [])) j) (some_is (High e) i (rw hi at h)) (high inner e is))
      | inr no_hi ↦
          let t = tested (bytes_eq run (codes "lo")) (Some (Low e)) i (rw no_hi at h) in
          subst (λ (r : List ℕ). ImmediateIs (Percent r ∷ opened ∷ (inner ++ closed ∷ [])) i) (sym ((bytes_eq-Decides run (codes "lo")).0 t.0)) (subst (λ (j : Immediate). ImmediateIs (Percent (codes "lo") ∷ opened ∷ (inner ++ closed ∷ [])) j) (some_is (Low e) i t.1) (low inner e is))
    ]

whole_is : (tokens : List SourceToken) (i : Immediate) → option_map (λ e. Whole e) (expression_from tokens) ≡ Some i → ImmediateIs tokens i
whole_is tokens i h =
    let e = mapped (λ e. Whole e) (expression_from tokens) i h in
    subst (λ (j : Immediate). ImmediateIs tokens j) e.2 (whole tokens e.0 (expression_is tokens e.0 e.1))

immediate_is : (tokens : List SourceToken) (i : Immediate) → immediate_from tokens ≡ Some i → ImmediateIs tokens i
unfolding immediate_from
immediate_is (Percent run ∷ tokens) i h =
    let e = bound (in_parentheses tokens) (half_of run) i h in
    let b = enclosed tokens e.0 e.1 in
    subst (λ (ts : List SourceToken). ImmediateIs (Percent run ∷ ts) i) (sym b.are) (half_is run b.inner e.0 i e.2 b.is)
immediate_is [] i h = whole_is [] i h
immediate_is (token ∷ tokens) i h = whole_is (token ∷ tokens) i h

-- ---- operands

base_is : (tokens : List SourceToken) (r : ℕ) → base_from tokens ≡ Some r → (run : List ℕ) × (tokens ≡ opened ∷ Run run ∷ closed ∷ []) × (register_of run ≡ Some r)
unfolding base_from
base_is (Mark a ∷ Run run ∷ Mark b ∷ []) r h =
    let t = tested (eqb a 40 && eqb b 41) (register_of run) r h in
    let marks = and_parts (eqb a 40) (eqb b 41) t.0 in
    (run, marked a 40 (Run run ∷ Mark b ∷ []) marks.0 ∙ ap (λ (ts : List SourceToken). opened ∷ Run run ∷ ts) (marked b 41 [] marks.1), t.1)
base_is _ r h = absurd (cc)

with_offset : (before : List SourceToken) (i : Immediate) (run : List ℕ) (r : ℕ) → offset_from before ≡ Some i → register_of run ≡ Some r → OperandIs (before ++ opened ∷ Run run ∷ closed ∷ []) (Address i r)
unfolding offset_from
with_offset [] i run r h e = subst (λ (j : Immediate). OperandIs (opened ∷ Run run ∷ closed ∷ []) (Address j r)) (some_is (Whole zero_expression) i h) (no_offset run r e)
with_offset (token ∷ tokens) i run r h e = offset (token ∷ tokens) i run r (immediate_is (token ∷ tokens) i h) e

register_is : (tokens : List SourceToken) (r : ℕ) → register_from tokens ≡ Some r → OperandIs tokens (Register r)
register_is (Run run ∷ []) r h = register run r h
register_is _ r h = absurd (cc)

alone_is : (tokens : List SourceToken) (o : SourceOperand) (r : Option ℕ) → register_from tokens ≡ r → alone_from r tokens ≡ Some o → OperandIs tokens o
alone_is tokens o (Some r) is h = subst (λ (p : SourceOperand). OperandIs tokens p) (some_is (Register r) o h) (register_is tokens r is)
alone_is tokens o None is h =
    let i = mapped (λ i. Value i) (immediate_from tokens) o h in
    subst (λ (p : SourceOperand). OperandIs tokens p) i.2 (value tokens i.0 (immediate_is tokens i.0 i.1))

placed_is : (tokens : List SourceToken) (o : SourceOperand) (base : Option ℕ) → base_from (last 3 tokens) ≡ base → placed_from base tokens ≡ Some o → OperandIs tokens o
placed_is tokens o (Some r) is h =
    let i = mapped (λ i. Address i r) (offset_from (before_last 3 tokens)) o h in
    let base = base_is (last 3 tokens) r is in
    let all : before_last 3 tokens ++ opened ∷ Run base.0 ∷ closed ∷ [] ≡ tokens = ap (λ (ts : List SourceToken). before_last 3 tokens ++ ts) (sym base.1) ∙ take-append-drop (length tokens - 3) tokens in
    subst (λ (p : SourceOperand). OperandIs tokens p) i.2 (subst (λ (ts : List SourceToken). OperandIs ts (Address i.0 r)) all (with_offset (before_last 3 tokens) i.0 base.0 r i.1 base.2))
placed_is tokens o None is h = alone_is tokens o (register_from tokens) refl h

operand_is : (tokens : List SourceToken) (o : SourceOperand) → operand_from tokens ≡ Some o → OperandIs tokens o
unfolding operand_from
operand_is tokens o h = placed_is tokens o (base_from (last 3 tokens)) refl h

-- ---- lists with commas

-- tokens, cut at each comma
data Cut : List SourceToken → List (List SourceToken) → Type 0 where
  last_part : (xs : List SourceToken) → Cut xs (xs ∷ [])
  part : (xs ys : List SourceToken) (others : List (List SourceToken)) → Cut ys others → Cut (xs ++ comma ∷ ys) (xs ∷ others)

in_front : (token : SourceToken) (tokens : List SourceToken) (xs : List (List SourceToken)) → Cut tokens xs → Cut (token ∷ tokens) (onto_first token xs)
in_front token _ _ (last_part xs) = last_part (token ∷ xs)
in_front token _ _ (part xs ys others cut) = part (token ∷ xs) ys others cut

is_the_comma : (token : SourceToken) → is_comma token ≡ true → token ≡ comma
is_the_comma (Mark b) h = ap (λ (n : ℕ). Mark n) (eqb-true b 44 h)
is_the_comma _ h = absurd (cc)

cut_of : (tokens : List SourceToken) → Cut tokens (parts tokens)
cut_of [] = last_part []
cut_of (token ∷ tokens) =
    elim (cases_Bool (is_comma token)) [
      | inl here ↦ rw here (subst (λ (t : SourceToken). Cut (t ∷ tokens) ([] ∷ parts tokens)) (sym (is_the_comma token here)) (part [] tokens (parts tokens) (cut_of tokens)))
      | inr goes_on ↦ rw goes_on (in_front token tokens (parts tokens) (cut_of tokens))
    ]

operands_are : (tokens : List SourceToken) (xs : List (List SourceToken)) (os : Operands) → Cut tokens xs → operands_of xs ≡ Some os → OperandsAre tokens os
operands_are _ _ os (last_part x) h =
    let a = bound (operand_from x) (λ a. Some (a, Absent, Absent)) os h in
    subst (λ (p : Operands). OperandsAre x p) (some_is (a.0, Absent, Absent) os a.2) (one x a.0 (operand_is x a.0 a.1))
operands_are _ _ os (part x _ _ (last_part y)) h =
    let a = bound (operand_from x) (λ a. operand_from y >>= λ b. Some (a, b, Absent)) os h in
    let b = bound (operand_from y) (λ b. Some (a.0, b, Absent)) os a.2 in
    subst (λ (p : Operands). OperandsAre (x ++ comma ∷ y) p) (some_is (a.0, b.0, Absent) os b.2) (two x y a.0 b.0 (operand_is x a.0 a.1) (operand_is y b.0 b.1))
operands_are _ _ os (part x _ _ (part y _ _ (last_part z))) h =
    let a = bound (operand_from x) (λ a. operand_from y >>= λ b. operand_from z >>= λ c. Some (a, b, c)) os h in
    let b = bound (operand_from y) (λ b. operand_from z >>= λ c. Some (a.0, b, c)) os a.2 in
    let c = bound (operand_from z) (λ c. Some (a.0, b.0, c)) os b.2 in
    subst (λ (p : Operands). OperandsAre (x ++ comma ∷ (y ++ comma ∷ z)) p) (some_is (a.0, b.0, c.0) os c.2) (three x y z a.0 b.0 c.0 (operand_is x a.0 a.1) (operand_is y b.0 b.1) (operand_is z c.0 c.1))
operands_are _ _ os (part x _ _ (part y _ _ (part z _ _ (last_part w)))) h = absurd (cc)
operands_are _ _ os (part x _ _ (part y _ _ (part z _ _ (part w _ _ cut)))) h = absurd (cc)

all_operands : (tokens : List SourceToken) (os : Operands) → operands_from tokens ≡ Some os → OperandsAre tokens os
unfolding operands_from
all_operands [] os h = subst (λ (p : Operands). OperandsAre [] p) (some_is (Absent, Absent, Absent) os h) none
all_operands (token ∷ tokens) os h = operands_are (token ∷ tokens) (parts (token ∷ tokens)) os (cut_of (token ∷ tokens)) h

values_are : (tokens : List SourceToken) (xs : List (List SourceToken)) (es : List Expression) → Cut tokens xs → values_of xs ≡ Some es → ValuesAre tokens es
values_are _ _ es (last_part x) h =
    let e = bound (expression_from x) (λ e. Some (e ∷ [])) es h in
    subst (λ (vs : List Expression). ValuesAre x vs) (some_is (e.0 ∷ []) es e.2) (one_value x e.0 (expression_is x e.0 e.1))
values_are _ _ es (part x ys others cut) h =
    let e = bound (expression_from x) (λ e. values_of others >>= λ es. Some (e ∷ es)) es h in
    let vs = bound (values_of others) (λ vs. Some (e.0 ∷ vs)) es e.2 in
    subst (λ (vs : List Expression). ValuesAre (x ++ comma ∷ ys) vs) (some_is (e.0 ∷ vs.0) es vs.2) (many x ys e.0 vs.0 (expression_is x e.0 e.1) (values_are ys others vs.0 cut vs.1))

-- ---- directives

with_expression : (operation : Operation) (tokens : List SourceToken) (s : Statement) (made : Expression → Statement) → ((e : Expression) → ExpressionIs tokens e → Says operation tokens (made e)) → option_map made (expression_from tokens) ≡ Some s → Says operation tokens s
with_expression operation tokens s made is h =
    let e = mapped made (expression_from tokens) s h in
    subst (λ (t : Statement). Says operation tokens t) e.2 (is e.0 (expression_is tokens e.0 e.1))

text_is : (operation : Operation) (tokens : List SourceToken) (s : Statement) (made : List ℕ → Statement) → ((text bytes : List ℕ) → text_of text ≡ Some bytes → Says operation (Quoted text ∷ []) (made bytes)) → option_map made (text_from tokens) ≡ Some s → Says operation tokens s
unfolding text_from
text_is operation (Quoted text ∷ []) s made is h =
    let t = mapped made (text_of text) s h in
    subst (λ (p : Statement). Says operation (Quoted text ∷ []) p) t.2 (is text t.0 t.1)
text_is operation _ s made is h = absurd (cc)

equal_is : (tokens : List SourceToken) (s : Statement) → equal_from tokens ≡ Some s → Says (Directs directives.Equ) tokens s
unfolding equal_from
equal_is (Run given ∷ Mark b ∷ tokens) s h =
    let t = tested (is_name given && eqb b 44) (option_map (λ e. Equal given e) (expression_from tokens)) s h in
    let parts = and_parts (is_name given) (eqb b 44) t.0 in
    let e = mapped (λ e. Equal given e) (expression_from tokens) s t.1 in
    subst (λ (ts : List SourceToken). Says (Directs directives.Equ) (Run given ∷ ts) s) (sym (marked b 44 tokens parts.1)) (subst (λ (p : Statement). Says (Directs directives.Equ) (Run given ∷ comma ∷ tokens) p) e.2 (equ given tokens e.0 parts.0 (expression_is tokens e.0 e.1)))
equal_is _ s h = absurd (cc)

global_is : (tokens : List SourceToken) (s : Statement) → global_from tokens ≡ Some s → Says (Directs directives.Globl) tokens s
unfolding global_from
global_is (Run given ∷ []) s h =
    let t = tested (is_name given) (Some WithoutEffect) s h in
    subst (λ (p : Statement). Says (Directs directives.Globl) (Run given ∷ []) p) (some_is WithoutEffect s t.1) (globl given t.0)
global_is _ s h = absurd (cc)

setting_is : (run : List ℕ) → is_setting run ≡ true → IsSetting run
setting_is run h =
    elim (cases_Bool (bytes_eq run (codes "noreorder"))) [
      | inl a ↦ subst IsSetting (sym ((bytes_eq-Decides run (codes "noreorder")).0 a)) noreorder
      | inr no_a ↦
          elim (cases_Bool (bytes_eq run (codes "noat"))) [
            | inl b ↦ subst IsSetting (sym ((bytes_eq-Decides run (codes "noat")).0 b)) noat
            | inr no_b ↦ subst IsSetting (sym ((bytes_eq-Decides run (codes "nomacro")).0 (rw (no_a, no_b) at h))) nomacro
          ]
    ]

set_is : (tokens : List SourceToken) (s : Statement) → setting_from tokens ≡ Some s → Says (Directs directives.Set) tokens s
unfolding setting_from
set_is (Run run ∷ []) s h =
    let t = tested (is_setting run) (Some WithoutEffect) s h in
    subst (λ (p : Statement). Says (Directs directives.Set) (Run run ∷ []) p) (some_is WithoutEffect s t.1) (set run (setting_is run t.0))
set_is _ s h = absurd (cc)

order_is : (tokens : List SourceToken) (s : Statement) → order_from tokens ≡ Some s → Says (Directs directives.ByteOrder) tokens s
unfolding order_from
order_is (Run given ∷ []) s h =
    let o = mapped (λ order. ByteOrder order) (order_named given) s h in
    subst (λ (p : Statement). Says (Directs directives.ByteOrder) (Run given ∷ []) p) o.2 (byteorder given o.0 o.1)
order_is _ s h = absurd (cc)

directive_is : (d : Directive) (tokens : List SourceToken) (s : Statement) → directive_from d tokens ≡ Some s → Says (Directs d) tokens s
directive_is directives.Org tokens s h = with_expression (Directs directives.Org) tokens s (λ e. Org e) (λ e is. org tokens e is) h
directive_is directives.Align tokens s h = with_expression (Directs directives.Align) tokens s (λ e. Align e) (λ e is. align tokens e is) h
directive_is directives.Space tokens s h = with_expression (Directs directives.Space) tokens s (λ e. Space e) (λ e is. space tokens e is) h
directive_is (directives.Values w) tokens s h =
    let es = mapped (λ es. Data w es) (values_of (parts tokens)) s h in
    subst (λ (p : Statement). Says (Directs (directives.Values w)) tokens p) es.2 (values w tokens es.0 (values_are tokens (parts tokens) es.0 (cut_of tokens) es.1))
directive_is directives.Ascii tokens s h = text_is (Directs directives.Ascii) tokens s (λ text. Text text) (λ text bytes is. ascii text bytes is) h
directive_is directives.Asciiz tokens s h = text_is (Directs directives.Asciiz) tokens s (λ text. Text (text ++ 0 ∷ [])) (λ text bytes is. asciiz text bytes is) h
directive_is directives.Equ tokens s h = equal_is tokens s h
directive_is directives.Globl tokens s h = global_is tokens s h
directive_is directives.Set tokens s h = set_is tokens s h
directive_is directives.ByteOrder tokens s h = order_is tokens s h

-- ---- statements and lines

instruction_is : (operation : Operation) (form : Kind × Kind × Kind) (made : Operands → Instruction) (tokens : List SourceToken) (s : Statement)
    → ((written operands : Operands) → OperandsAre tokens written → taken form written ≡ Some operands → Says operation tokens (Instruct (made operands)))
    → instruction_from form made tokens ≡ Some s → Says operation tokens s
unfolding instruction_from
instruction_is operation form made tokens s is h =
    let o = bound (operands_from tokens >>= taken form) (λ operands. Some (Instruct (made operands))) s h in
    let w = bound (operands_from tokens) (taken form) o.0 o.1 in
    subst (λ (p : Statement). Says operation tokens p) (some_is (Instruct (made o.0)) s o.2) (is w.0 o.0 (all_operands tokens w.0 w.1) w.2)

said_is : (operation : Operation) (tokens : List SourceToken) (s : Statement) → said_from operation tokens ≡ Some s → Says operation tokens s
said_is (Mnemonic m) tokens s h = instruction_is (Mnemonic m) (form_of m) (instruction m) tokens s (λ written operands are takes. instructs m tokens written operands are takes) h
said_is (Shorthand short) tokens s h = instruction_is (Shorthand short) (short_form_of short) (stands_for short) tokens s (λ written operands are takes. shortens short tokens written operands are takes) h
said_is (Directs d) tokens s h = directive_is d tokens s h

statement_is : (tokens : List SourceToken) (s : Statement) → statement_from tokens ≡ Some s → StatementIs tokens s
unfolding statement_from
statement_is [] s h = subst (λ (p : Statement). StatementIs [] p) (some_is Nothing s h) left_out
statement_is (Run run ∷ tokens) s h =
    let w = bound (operation_named (lowered run)) (λ operation. said_from operation tokens) s h in
    begins run w.0 tokens s w.1 (said_is w.0 tokens s w.2)
statement_is _ s h = absurd (cc)

labelled_is : (tokens : List SourceToken) (s : Statement) → statement_from (behind_labels tokens) ≡ Some s → LineIs tokens (with_labels (labels_of tokens) s)
labelled_is (Run run ∷ Mark b ∷ tokens) s h =
    elim (cases_Bool (is_label run b)) [
      | inl a_label ↦
          let parts = and_parts (eqb b 58) (is_name run) a_label in
          rw a_label (subst (λ (ts : List SourceToken). LineIs (Run run ∷ ts) (with_labels (run ∷ labels_of tokens) s)) (sym (marked b 58 tokens parts.0)) (label run tokens (labels_of tokens) s parts.1 (labelled_is tokens s (rw a_label at h))))
      | inr no_label ↦ rw no_label (statement (Run run ∷ Mark b ∷ tokens) s (statement_is (Run run ∷ Mark b ∷ tokens) s (rw no_label at h)))
    ]
labelled_is tokens s h = statement tokens s (statement_is tokens s h)

pub line_is : (tokens : List SourceToken) (line : Line) → line_from tokens ≡ Some line → LineIs tokens line
line_is tokens line h =
    let s = mapped (with_labels (labels_of tokens)) (statement_from (behind_labels tokens)) line h in
    subst (λ (l : Line). LineIs tokens l) s.2 (labelled_is tokens s.0 s.1)
