-- The digits of a number stand in a string as they are.
use Rattle.std.proofs.Common.{◌≡◌, ℕ, ◌<◌, ◌≤◌, ◌^◌, Bool, true, false, List, [], ◌∷◌, ◌++◌, refl, sym, ap, ◌∙◌, arith}
use Rattle.std.proofs.lemmas.Bool.Decides.{nat_tests}
use Rattle.std.proofs.lemmas.Fmt.{decimal_is_IsNumeral}
use Rattle.std.proofs.lemmas.Str.Parse.{tells_digits}
use Rattle.std.specs.Fmt.{decimal}
use Rattle.std.specs.List.{flat_map}
use Rattle.std.specs.Str.Parse.{AllDigits}
use Rattle.std.specs.Prelude.{if◌then◌else◌, codes}
use Rattle.brd_page.specs.Data.{is_plain, is_itself, data_byte, two_digits}

itself : (c : ℕ) → 48 ≤ c → c ≤ 57 → is_itself c ≡ true
unfolding is_itself is_plain
itself c least most = grind (arith, nat_tests, least, most)

one : (c : ℕ) → is_itself c ≡ true → data_byte c ≡ c ∷ []
one c is = ap (λ (b : Bool). if b then c ∷ [] else codes "\\u00" ++ two_digits c) is

pub all-themselves : (ds : List ℕ) → AllDigits 10 ds → flat_map data_byte ds ≡ ds
all-themselves [] are = refl
all-themselves (c ∷ cs) are =
    let parts = tells_digits.parts c cs are in
    rw (one c (itself c (omega (arith, parts.0)) (omega (arith, parts.0))), all-themselves cs parts.1) refl

pub digits-themselves : (n : ℕ) → n < 2 ^ 64 → flat_map data_byte (decimal n) ≡ decimal n
digits-themselves n small = all-themselves (decimal n) (decimal_is_IsNumeral n small).0.1
