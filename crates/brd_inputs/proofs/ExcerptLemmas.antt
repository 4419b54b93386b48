-- Whatever a text holds, what is shown of it is printable.
use Rattle.std.proofs.Common.{◌≡◌, ℕ, ◌≤◌, List, [], ◌∷◌, ◌++◌, map, subst, sym, arith}
use Rattle.std.proofs.lemmas.Bool.Decides.{nat_tests}
use Rattle.brd_inputs.specs.Excerpt.{shown_byte, ArePrintable}

shown_byte-printable : (b : ℕ) → (32 ≤ shown_byte b) × (shown_byte b ≤ 126)
shown_byte-printable b = (grind (arith, nat_tests), grind (arith, nat_tests))

shown-printable : (bytes : List ℕ) → ArePrintable (map shown_byte bytes)
shown-printable [] = tt
shown-printable (b ∷ bytes) = (shown_byte-printable b, shown-printable bytes)

front-printable : (front rest : List ℕ) → ArePrintable (front ++ rest) → ArePrintable front
front-printable [] rest are = tt
front-printable (b ∷ front) rest are = (are.0, front-printable front rest are.1)

pub so_far-printable : (shown rest bytes : List ℕ) → shown ++ rest ≡ map shown_byte bytes → ArePrintable shown
so_far-printable shown rest bytes e = front-printable shown rest (subst ArePrintable (sym e) (shown-printable bytes))
