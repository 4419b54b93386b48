-- The names that a line gives values to.
use Rattle.std.specs.Prelude.{◌≡◌, ℕ, true, List}
use Rattle.std.specs.List.{AllByRecursion}
use Rattle.brd_text.specs.Bytes.{is_name}
use Rattle.brd_source.specs.Statement.{Expression, Line}
use Rattle.brd_source.specs.Statement.Statement.{Equal}

-- labels are names, and so is what a statement gives a value to
pub record HasNames (line : Line) : Type 0 where
  pub labels : AllByRecursion (λ name. is_name name ≡ true) line.labels
  pub equal : (name : List ℕ) (value : Expression) → line.statement ≡ Equal name value → is_name name ≡ true
