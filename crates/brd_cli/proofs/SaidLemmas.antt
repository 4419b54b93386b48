-- Whatever `clap` says, what is shown of it is printable.
use Rattle.std.proofs.Common.{◌≡◌, ◌⊎◌, ℕ, ◌≤◌, List, [], ◌∷◌, ◌++◌, map, subst, sym, arith}
use Rattle.std.proofs.lemmas.Bool.Decides.{nat_tests}
use Rattle.brd_cli.specs.Said.{shown_byte, ArePrintableLines}

shown_byte-printable : (b : ℕ) → (shown_byte b ≡ 10) ⊎ ((32 ≤ shown_byte b) × (shown_byte b ≤ 126))
shown_byte-printable b = grind (arith, nat_tests)

shown-printable : (bytes : List ℕ) → ArePrintableLines (map shown_byte bytes)
shown-printable [] = tt
shown-printable (b ∷ bytes) = (shown_byte-printable b, shown-printable bytes)

front-printable : (front rest : List ℕ) → ArePrintableLines (front ++ rest) → ArePrintableLines front
front-printable [] rest are = tt
front-printable (b ∷ front) rest are = (are.0, front-printable front rest are.1)

pub so_far-printable : (shown rest bytes : List ℕ) → shown ++ rest ≡ map shown_byte bytes → ArePrintableLines shown
so_far-printable shown rest bytes e = front-printable shown rest (subst ArePrintableLines (sym e) (shown-printable bytes))
