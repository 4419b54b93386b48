-- Numbers that are drawn, one after the other, and priorities that are raised.
use Rattle.std.proofs.Common.{◌≡◌, ℕ, zero, suc, ◌+◌, ◌-◌, ◌^◌, ◌<◌, ◌≤◌, min, List, [], ◌∷◌, ◌++◌, length, map, take, drop, set, get_or, refl, sym, ap, ◌∙◌, subst, arith}
use Rattle.std.proofs.lemmas.List.{append_assoc, map-append, take_more}
use Rattle.std.proofs.Math.Seq.{drop-cons}
use Rattle.rand_core.specs.Stream.{Stream}
use Rattle.brd_schedule.specs.Steps.{below, numbers}

pub numbers_next : (end n : ℕ) (words : Stream) (drawn : List ℕ) (left : Stream) (number : ℕ) (rest : Stream) (more : List ℕ)
    → ◌≡◌ {A = List ℕ × Stream} (drawn, left) (numbers end n words) → ◌≡◌ {A = ℕ × Stream} (number, rest) (below end left)
    → more ≡ drawn ++ number ∷ [] → ◌≡◌ {A = List ℕ × Stream} (more, rest) (numbers end (n + 1) words)
unfolding numbers
numbers_next end n words drawn left number rest more before is e =
    let one : n + 1 ≡ suc n = omega arith in
    rw (one, e, ← before, ← is) refl

abbrev raised_by : ℕ → ℕ → ℕ
raised_by by number = min (number + by) (2 ^ 32 - 1)

set_behind : (front : List ℕ) (y : ℕ) (ys : List ℕ) (v : ℕ) → set (front ++ y ∷ ys) (length front) v ≡ front ++ v ∷ ys
set_behind [] y ys v = refl
set_behind (x ∷ xs) y ys v = ap (λ (them : List ℕ). x ∷ them) (set_behind xs y ys v)

get_behind : (front : List ℕ) (y : ℕ) (ys : List ℕ) → get_or (front ++ y ∷ ys) (length front) 0 ≡ y
get_behind [] y ys = refl
get_behind (x ∷ xs) y ys = get_behind xs y ys

front_len : (f : ℕ → ℕ) (i : ℕ) (xs : List ℕ) → i ≤ length xs → length (map f (take i xs)) ≡ i
front_len f zero xs h = refl
front_len f (suc i) [] h = absurd (omega arith)
front_len f (suc i) (x ∷ xs) h = ap (λ (n : ℕ). suc n) (front_len f i xs (omega arith))

-- one priority more
pub raised_next : (by : ℕ) (all now : List ℕ) (i v : ℕ) → i < length all → now ≡ map (raised_by by) (take i all) ++ drop i all
    → v ≡ raised_by by (get_or now i 0) → set now i v ≡ map (raised_by by) (take (i + 1) all) ++ drop (i + 1) all
raised_next by all now i v within same is =
    let front = map (raised_by by) (take i all) in
    let len : length front ≡ i = front_len (raised_by by) i all (omega arith) in
    let one : i + 1 ≡ suc i = omega arith in
    let rest : drop i all ≡ get_or all i 0 ∷ drop (i + 1) all = rw one (drop-cons all i 0 within) in
    let whole : now ≡ front ++ get_or all i 0 ∷ drop (i + 1) all = same ∙ ap (λ (xs : List ℕ). front ++ xs) rest in
    let here : get_or now i 0 ≡ get_or all i 0 =
    ap (λ (xs : List ℕ). get_or xs i 0) whole ∙ subst (λ n. get_or (front ++ get_or all i 0 ∷ drop (i + 1) all) n 0 ≡ get_or all i 0) len (get_behind front (get_or all i 0) (drop (i + 1) all)) in
    let stored : set now i v ≡ front ++ v ∷ drop (i + 1) all =
    ap (λ (xs : List ℕ). set xs i v) whole ∙ subst (λ n. set (front ++ get_or all i 0 ∷ drop (i + 1) all) n v ≡ front ++ v ∷ drop (i + 1) all) len (set_behind front (get_or all i 0) (drop (i + 1) all) v) in
    let value : v ≡ raised_by by (get_or all i 0) = is ∙ ap (raised_by by) here in
    let more : map (raised_by by) (take (i + 1) all) ≡ front ++ raised_by by (get_or all i 0) ∷ [] =
    ap (map (raised_by by)) (take_more {X = ℕ} all i 0 within) ∙ map-append (raised_by by) (take i all) (get_or all i 0 ∷ []) in
    stored ∙ ap (λ (w : ℕ). front ++ w ∷ drop (i + 1) all) value ∙ sym (ap (λ (xs : List ℕ). xs ++ drop (i + 1) all) more ∙ append_assoc front (raised_by by (get_or all i 0) ∷ []) (drop (i + 1) all))
