-- Standard input among the files of data, one after the other.
use Rattle.std.proofs.Common.{◌≡◌, ℕ, zero, suc, ◌+◌, ◌-◌, ◌<◌, ◌^◌, List, [], ◌∷◌, length, map, refl, arith}
use Rattle.std.specs.Prelude.{drop, get_or, min}
use Rattle.std.specs.Borrow.{Bor}
use Rattle.brd_cli.specs.StandardInput.{counted, one_of_data}

pub counted-step : (n : ℕ) (texts : List (Bor (List ℕ))) (i : ℕ) (d : Bor (List ℕ)) → i < length texts →
    counted n (map (λ text. text.now) (drop i texts))
    ≡ counted (min (n + one_of_data (get_or texts i d).now) (2 ^ 32 - 1)) (map (λ text. text.now) (drop (suc i) texts))
counted-step n [] i d less = absurd (omega (arith, less))
counted-step n (text ∷ texts) zero d less = refl
counted-step n (text ∷ texts) (suc i) d less = counted-step n texts i d (omega (arith, less))

pub counted-all : (n : ℕ) (texts : List (Bor (List ℕ))) → counted n (map (λ text. text.now) (drop (length texts) texts)) ≡ n
counted-all n [] = refl
counted-all n (text ∷ texts) = counted-all n texts
