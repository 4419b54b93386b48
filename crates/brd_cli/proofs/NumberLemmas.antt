-- A number that `get_one` reads of what was given for an argument.
use Rattle.std.proofs.Common.{◌≡◌, ℕ, List, Option, Some, None, Result, refl, subst}
use Rattle.std.specs.declared.num.ParseIntError.{ParseIntError}
use Rattle.std.specs.Str.Parse.{ParsesUnsigned, ExplainsUnsignedError, HasUnsignedDigitsIfOk}
use Rattle.clap.proofs.WalkLemmas.{one_text-rows}
use Rattle.clap.specs.declared.parser.matches.Found.{Found}
use Rattle.clap.specs.Words.{ReadsOne, Text, one_of, one_text, rows_of}
use Rattle.brd_cli.specs.Requests.{IsNumberOf}

-- a text is read as a number of so many bits, or not, with the reason and the digits
abbrev pub Reads : ℕ → List ℕ → Result ℕ ParseIntError → Type 0
Reads bits bytes read = ParsesUnsigned bits 10 bytes read × ExplainsUnsignedError 10 bytes read × HasUnsignedDigitsIfOk bytes read

is_number : (bits : ℕ) (text : Option Text) (number : Option ℕ) → (text ≡ None → number ≡ None)
    → ((t : Text) → text ≡ Some t → ReadsOne {E = ParseIntError} (λ bs r. Reads bits bs r) t number)
    → IsNumberOf bits text number
is_number bits None number none value = none refl
is_number bits (Some t) (Some n) none value = (value t refl).0
is_number bits (Some t) None none value = (value t refl).1.0

pub is_given : (bits : ℕ) (found : Found) (name : Text) (number : Option ℕ) → (one_text found name ≡ None → number ≡ None)
    → ((t : Text) → one_text found name ≡ Some t → ReadsOne {E = ParseIntError} (λ bs r. Reads bits bs r) t number)
    → IsNumberOf bits (one_of name (rows_of found)) number
is_given bits found name number none value =
    subst (λ (text : Option Text). IsNumberOf bits text number) (one_text-rows found name)
    (is_number bits (one_text found name) number none value)
