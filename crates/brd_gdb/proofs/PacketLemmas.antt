-- The bytes of packets.
use Rattle.std.proofs.Common.{◌≡◌, ℕ, ◌+◌, ◌%◌, ◌<◌, ◌≤◌, List, [], ◌∷◌, ◌++◌, length, drop, get_or, refl, sym, ap, ◌∙◌, arith, append_assoc}
use Rattle.std.specs.Prelude.{sum}
use Rattle.std.proofs.lemmas.List.{drop_all, drop_more}
use Rattle.std.proofs.lemmas.List.Sums.{sum_by-append}
use Rattle.brd_gdb.specs.Packets.{escape, escaped}

pub sum-append : (xs ys : List ℕ) → sum (xs ++ ys) ≡ sum xs + sum ys
sum-append xs ys = sum_by-append (λ (x : ℕ). x) xs ys

escaped_more : (payload : List ℕ) (i : ℕ) → i < length payload
    → escaped (drop i payload) ≡ escape (get_or payload i 0) ++ escaped (drop (i + 1) payload)
escaped_more payload i within = ap escaped (drop_more payload i 0 within)

-- one byte more is in the sum
pub sum_more : (old new all i : ℕ) (payload : List ℕ) → i < length payload
    → new ≡ (old + sum (escape (get_or payload i 0))) % 256
    → (old + sum (escaped (drop i payload))) % 256 ≡ all → (new + sum (escaped (drop (i + 1) payload))) % 256 ≡ all
sum_more old new all i payload within is so_far =
    let parts = ap sum (escaped_more payload i within)
    ∙ sum-append (escape (get_or payload i 0)) (escaped (drop (i + 1) payload)) in
    omega (arith, is, so_far, parts)

-- none is left
pub sum_at_end : (total i all : ℕ) (payload : List ℕ) → length payload ≤ i → total < 256
    → (total + sum (escaped (drop i payload))) % 256 ≡ all → total ≡ all
sum_at_end total i all payload end small so_far =
    let none : sum (escaped (drop i payload)) ≡ 0 = ap (λ (xs : List ℕ). sum (escaped xs)) (drop_all i payload end) in
    omega (arith, none, so_far, small)

-- and put
pub put_more : (old new all : List ℕ) (i : ℕ) (payload : List ℕ) → i < length payload
    → new ≡ old ++ escape (get_or payload i 0)
    → old ++ escaped (drop i payload) ≡ all → new ++ escaped (drop (i + 1) payload) ≡ all
put_more old new all i payload within is so_far =
    ap (λ (xs : List ℕ). xs ++ escaped (drop (i + 1) payload)) is
    ∙ append_assoc old (escape (get_or payload i 0)) (escaped (drop (i + 1) payload))
    ∙ ap (λ (xs : List ℕ). old ++ xs) (sym (escaped_more payload i within)) ∙ so_far
