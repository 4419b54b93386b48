-- Lines that are put one after the other.
use Rattle.std.proofs.Common.{◌≡◌, ℕ, suc, ◌+◌, ◌-◌, ◌<◌, List, ◌++◌, sym, ap, ◌∙◌, arith}
use Rattle.std.specs.List.{flat_map, range_with_len}
use Rattle.std.proofs.lemmas.List.{append_assoc}

-- with the next line after those so far, the lines that are left are one fewer
pub next_line : (line : ℕ → List ℕ) (so_far more whole : List ℕ) (i end : ℕ) → i < end → more ≡ so_far ++ line i
    → so_far ++ flat_map line (range_with_len i (end - i)) ≡ whole → more ++ flat_map line (range_with_len (i + 1) (end - (i + 1))) ≡ whole
next_line line so_far more whole i end below is known =
    let rest = flat_map line (range_with_len (i + 1) (end - (i + 1))) in
    let left : end - i ≡ suc (end - (i + 1)) = omega arith in
    ap (λ front. front ++ rest) is ∙ append_assoc so_far (line i) rest
    ∙ sym (ap (λ n. so_far ++ flat_map line (range_with_len i n)) left) ∙ known
