-- The words of a window, by what lies in RAM.
use Rattle.std.proofs.Common.{◌≡◌, ℕ, ◌+◌, ◌-◌, ◌*◌, ◌%◌, ◌≤◌, ◌<◌, true, if◌then◌else◌, List, [], ◌∷◌, ◌++◌, length, take, refl, sym, ap, ◌∙◌, arith}
use Rattle.std.specs.Prelude.{◌==◌, Result, Ok, Err, map, slice_set, slice_index}
use Rattle.std.proofs.lemmas.Bool.Decides.{nat_tests}
use Rattle.std.proofs.lemmas.List.{map-append, take_more_set}
use Rattle.std.proofs.lemmas.List.FromFn.{map-range_with_len_more}
use Rattle.brd_base.specs.Space.{base}
use Rattle.brd_word.specs.declared.order.Order.{Order}
use Rattle.brd_mem.specs.declared.fault.Exc.{Exc}
use Rattle.brd_mem.specs.Memory.{Memory, size_of, contains, word_at}
use Rattle.brd_mem.specs.Access.{at_place, fetched, read_raw}
use Rattle.brd_mem.specs.Window.{words_at}
use Rattle.brd_lent.specs.Window.{words_of}

ok-is : (x y : ℕ) → ◌≡◌ {A = Result ℕ Exc} (Ok x) (Ok y) → x ≡ y
ok-is x y is = cc

-- what is fetched at a place is the word that begins there
fetch-word : (m : Memory) (at x : ℕ) → at % 4 ≡ 0 → at + 4 ≤ size_of m → fetched m (base + at) ≡ Ok x → x ≡ word_at m at
fetch-word m at x aligned inside is =
    let even : ((base + at) % 4 == 0) ≡ true = grind (arith, nat_tests, aligned) in
    let within : contains (size_of m) (base + at) 4 ≡ true = grind (arith, nat_tests, inside) in
    let place : base + at - base ≡ at = omega arith in
    ok-is x (word_at m at) (sym is
    ∙ ap (λ t. at_place (word_at m) (if t then (if contains (size_of m) (base + at) 4 then Ok (base + at - base) else Err Exc.IBE) else Err Exc.AdEL)) even
    ∙ ap (λ t. at_place (word_at m) (if t then Ok (base + at - base) else Err Exc.IBE)) within
    ∙ ap (λ n. Ok (word_at m n)) place)

-- one word more
pub word-more : (m : Memory) (at i raw : ℕ) (raws : List ℕ) → at % 4 ≡ 0 → at + 256 ≤ size_of m → i < 64 → length raws ≡ 64 →
    fetched m (base + (at + 4 * i)) ≡ Ok (read_raw m.order raw) → words_of m.order (take i raws) ≡ words_at m at i →
    words_of m.order (take (i + 1) (slice_set raws i raw)) ≡ words_at m at (i + 1)
unfolding words_at
word-more m at i raw raws aligned inside below count fetch so_far =
    let word : read_raw m.order raw ≡ word_at m (at + 4 * i) =
    fetch-word m (at + 4 * i) (read_raw m.order raw) (omega (arith, aligned)) (omega (arith, inside, below)) fetch in
    ap (words_of m.order) (take_more_set raws i raw (omega (arith, below, count)))
    ∙ map-append (read_raw m.order) (take i raws) (raw ∷ [])
    ∙ ap (λ them. them ++ read_raw m.order raw ∷ []) so_far
    ∙ ap (λ w. words_at m at i ++ w ∷ []) word
    ∙ sym (map-range_with_len_more (λ n. word_at m (at + 4 * n)) 0 i i (omega arith))
