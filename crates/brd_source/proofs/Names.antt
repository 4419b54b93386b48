-- What stands where a name has to be is a name.
use Rattle.std.proofs.Common.{◌≡◌, ℕ, true, List, subst}
use Rattle.brd_text.specs.Bytes.{is_name}
use Rattle.brd_source.specs.declared.operations.Operation.{Operation}
use Rattle.brd_source.specs.Grammar.{Says, StatementIs, LineIs}
use Rattle.brd_source.specs.Grammar.Says.{equ}
use Rattle.brd_source.specs.Grammar.StatementIs.{left_out, begins}
use Rattle.brd_source.specs.Grammar.LineIs.{statement, label}
use Rattle.brd_source.specs.Names.{HasNames}
use Rattle.brd_source.specs.Statement.{Expression, Statement, Line}
use Rattle.brd_source.specs.Statement.Statement.{Equal}
use Rattle.brd_source.specs.Tokens.{SourceToken}

same_name : (given name : List ℕ) (e value : Expression) → Equal given e ≡ Equal name value → given ≡ name
same_name given name e value is = cc

by_operation : (operation : Operation) (tokens : List SourceToken) (s : Statement) → Says operation tokens s → (name : List ℕ) (value : Expression) → s ≡ Equal name value → is_name name ≡ true
by_operation _ _ _ (equ given tokens e h is) name value same = subst (λ (n : List ℕ). is_name n ≡ true) (same_name given name e value same) h
by_operation _ _ _ _ name value same = absurd (cc)

by_statement : (tokens : List SourceToken) (s : Statement) → StatementIs tokens s → (name : List ℕ) (value : Expression) → s ≡ Equal name value → is_name name ≡ true
by_statement _ _ left_out name value same = absurd (cc)
by_statement _ _ (begins run operation tokens s named says) name value same = by_operation operation tokens s says name value same

pub names : (tokens : List SourceToken) (line : Line) → LineIs tokens line → HasNames line
names _ _ (statement tokens s is) = record { labels = tt; equal = by_statement tokens s is }
names _ _ (label run tokens labels s h is) =
    let others = names tokens (record { labels = labels; statement = s }) is in
    record { labels = (h, others.labels); equal = others.equal }
