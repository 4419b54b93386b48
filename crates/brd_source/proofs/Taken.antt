-- The instruction of a line has the operands that its mnemonic takes.
use Rattle.std.proofs.Common.{◌≡◌, true, List, Some, refl, subst}
use Rattle.std.specs.Prelude.{◌&&◌}
use Rattle.std.proofs.lemmas.Bool.{and_parts}
use Rattle.brd_source.specs.declared.forms.Kind.{Kind}
use Rattle.brd_source.specs.declared.forms.Kind.TheVariants.{Nothing, Register, Number}
use Rattle.brd_source.specs.declared.operations.Shorthand.{Shorthand}
use Rattle.brd_source.specs.declared.operations.Shorthand.TheVariants as shorthand
use Rattle.brd_source.specs.declared.operations.Operation.{Operation}
use Rattle.brd_source.specs.Forms.{form_of, short_form_of, register, stands_for, linked, is_of, are_of, completed, taken}
use Rattle.brd_source.specs.Grammar.{Says, StatementIs, LineIs}
use Rattle.brd_source.specs.Grammar.Says.{instructs, shortens}
use Rattle.brd_source.specs.Grammar.StatementIs.{left_out, begins}
use Rattle.brd_source.specs.Grammar.LineIs.{statement, label}
use Rattle.brd_source.specs.Statement.{Operands, Instruction, Statement, Line}
use Rattle.brd_source.specs.Statement.Statement.{Instruct}
use Rattle.brd_source.specs.Tokens.{SourceToken}
use Rattle.brd_source.proofs.OptionLemmas.{some_is, tested}

taken_are : (form : Kind × Kind × Kind) (written operands : Operands) → taken form written ≡ Some operands → are_of form operands ≡ true
unfolding taken
taken_are form written operands e =
    let all : Operands = completed form (linked form.0 written) in
    let p = tested (are_of form all) (Some all) operands e in
    subst (λ (os : Operands). are_of form os ≡ true) (some_is all operands p.1) p.0

HaveForm : Instruction → Type 0
HaveForm i = are_of (form_of i.mnemonic) i.operands ≡ true

number : (os : Operands) → are_of (Number, Nothing, Nothing) os ≡ true → is_of Number os.0 ≡ true
number os h = (and_parts (is_of Number os.0) (is_of Nothing os.1) (and_parts (is_of Number os.0 && is_of Nothing os.1) (is_of Nothing os.2) h).0).0

register_number : (os : Operands) → are_of (Register, Number, Nothing) os ≡ true → are_of (Register, Register, Number) (os.0, register 0, os.1) ≡ true
register_number os h =
    let a = and_parts (is_of Register os.0) (is_of Number os.1) (and_parts (is_of Register os.0 && is_of Number os.1) (is_of Nothing os.2) h).0 in
    rw (a.0, a.1) refl

stand_so : (s : Shorthand) (os : Operands) → are_of (short_form_of s) os ≡ true → HaveForm (stands_for s os)
unfolding HaveForm
stand_so shorthand.Nop os h = refl
stand_so shorthand.Move os h = rw (and_parts (is_of Register os.0 && is_of Register os.1) (is_of Nothing os.2) h).0 refl
stand_so shorthand.Branch os h = number os h
stand_so shorthand.BranchIfZero os h = register_number os h
stand_so shorthand.BranchUnlessZero os h = register_number os h
stand_so shorthand.BranchAndLink os h = rw (number os h) refl

-- the same instruction
same : (i j : Instruction) → Instruct i ≡ Instruct j → HaveForm i → HaveForm j
same i j e h = subst HaveForm (inside i j e) h
  where
    inside : (i j : Instruction) → Instruct i ≡ Instruct j → i ≡ j
    inside i j e = cc

said : (operation : Operation) (tokens : List SourceToken) (s : Statement) → Says operation tokens s → (i : Instruction) → s ≡ Instruct i → HaveForm i
unfolding HaveForm
said _ _ _ (instructs m tokens written operands are takes) i e = same (record { mnemonic = m; operands = operands }) i e (taken_are (form_of m) written operands takes)
said _ _ _ (shortens s tokens written operands are takes) i e = same (stands_for s operands) i e (stand_so s operands (taken_are (short_form_of s) written operands takes))
said _ _ _ _ i e = absurd (cc)

by_statement : (tokens : List SourceToken) (s : Statement) → StatementIs tokens s → (i : Instruction) → s ≡ Instruct i → HaveForm i
by_statement _ _ left_out i e = absurd (cc)
by_statement _ _ (begins run operation tokens s named says) i e = said operation tokens s says i e

pub have_operands : (tokens : List SourceToken) (line : Line) (i : Instruction) → LineIs tokens line → line.statement ≡ Instruct i → are_of (form_of i.mnemonic) i.operands ≡ true
unfolding HaveForm
have_operands _ _ i (statement tokens s is) e = by_statement tokens s is i e
have_operands _ _ i (label run tokens labels s h is) e = have_operands tokens (record { labels = labels; statement = s }) i is e
