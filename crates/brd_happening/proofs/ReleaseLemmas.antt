-- What a loop has found so far, and what is left to look at.
use Rattle.std.proofs.Common.{◌≡◌, ℕ, suc, ◌+◌, ◌-◌, ◌<◌, ◌≤◌, List, [], ◌++◌, refl, sym, ap, ◌∙◌, arith}
use Rattle.std.specs.Prelude.{Option, None, Some}
use Rattle.std.specs.List.{filter_map, range_with_len, cons_option}
use Rattle.std.proofs.lemmas.List.{append_assoc, append-nil}

in-front : {X : Type 0} (o : Option X) (rest : List X) → cons_option o rest ≡ cons_option o [] ++ rest
in-front None rest = refl
in-front (Some x) rest = refl

-- with what is found at the next number after what was found so far, the numbers that are left are one fewer
pub next-number : {X : Type 0} (h : ℕ → Option X) (so_far more whole : List X) (i end : ℕ) → i < end
    → more ≡ so_far ++ cons_option (h i) [] → so_far ++ filter_map h (range_with_len i (end - i)) ≡ whole
    → more ++ filter_map h (range_with_len (i + 1) (end - (i + 1))) ≡ whole
next-number h so_far more whole i end below is known =
    let rest = filter_map h (range_with_len (i + 1) (end - (i + 1))) in
    let left : end - i ≡ suc (end - (i + 1)) = omega arith in
    ap (λ front. front ++ rest) is ∙ append_assoc so_far (cons_option (h i) []) rest
    ∙ sym (ap (λ items. so_far ++ items) (ap (λ n. filter_map h (range_with_len i n)) left ∙ in-front (h i) rest)) ∙ known

-- behind the last number nothing is left
pub none-left : {X : Type 0} (h : ℕ → Option X) (found whole : List X) (i end : ℕ) → end ≤ i
    → found ++ filter_map h (range_with_len i (end - i)) ≡ whole → found ≡ whole
none-left h found whole i end past known =
    let none : end - i ≡ 0 = omega arith in
    sym (ap (λ n. found ++ filter_map h (range_with_len i n)) none ∙ append-nil found) ∙ known
