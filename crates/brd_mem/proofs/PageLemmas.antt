-- Pages below a number, put into a base one after the other: up to there the bytes are the memory's, from there on the
-- base's.
use Rattle.std.proofs.Common.{◌≡◌, ℕ, zero, suc, ◌+◌, ◌-◌, ◌*◌, ◌≤◌, Bool, true, false, bytes_eq, List, [], ◌∷◌, ◌++◌, length, take, drop, refl, sym, ap, ◌∙◌, arith, if◌then◌else◌}
use Rattle.std.proofs.Math.Seq.{take-add}
use Rattle.std.proofs.lemmas.List.{take-append-drop, length-take-le, take_at, append_assoc, append-nil, take_all, drop_all, drop-drop, length-drop}
use Rattle.std.proofs.lemmas.Slice.{drop-append-drop}
use Rattle.std.proofs.lemmas.Slice.Eq.{bytes_eq-Decides}
use Rattle.brd_word.specs.declared.order.Order.{Order}
use Rattle.brd_mem.specs.Memory.{Memory, memory_of_bytes, size_of, with_bytes}
use Rattle.brd_mem.specs.Pages.{page_size, page_of, with_pages, differing_below, LieWithin}
use Rattle.brd_mem.specs.declared.pages.Page.{Page}

-- the bytes of the one up to a place, and of the other from there on
abbrev pub halves : ℕ → List ℕ → List ℕ → List ℕ
halves at front behind = take at front ++ drop at behind

-- a page that both have alike
page-alike : (at p : ℕ) (xs ys : List ℕ) → take p (drop at ys) ≡ take p (drop at xs) → halves at xs ys ≡ halves (at + p) xs ys
page-alike at p xs ys alike =
    ap (λ rest. take at xs ++ rest) (sym (take-append-drop p (drop at ys)))
    ∙ sym (append_assoc (take at xs) (take p (drop at ys)) (drop p (drop at ys)))
    ∙ ap (λ page. take at xs ++ page ++ drop p (drop at ys)) alike
    ∙ ap (λ front. front ++ drop p (drop at ys)) (sym (take-add at p xs))
    ∙ ap (λ rest. take (at + p) xs ++ rest) (drop-drop p at ys)

-- a page that is put in its place
pub page-put : (order : Order) (at p : ℕ) (xs ys : List ℕ) → at + p ≤ length xs
    → with_bytes (memory_of_bytes order (halves at xs ys)) at (take p (drop at xs)) ≡ memory_of_bytes order (halves (at + p) xs ys)
page-put order at p xs ys within =
    let low : at ≤ length xs = omega (arith, within) in
    let rest : length (drop at xs) ≡ length xs - at = length-drop at xs in
    let long : length (take p (drop at xs)) ≡ p = length-take-le p (drop at xs) (omega (arith, within, rest)) in
    let next : at ≤ at + p = omega arith in
    ap (λ n. memory_of_bytes order (take at (halves at xs ys) ++ take p (drop at xs) ++ drop (at + n) (halves at xs ys))) long
    ∙ ap (λ front. memory_of_bytes order (front ++ take p (drop at xs) ++ drop (at + p) (halves at xs ys)))
    (take_at (take at xs) (drop at ys) at (length-take-le at xs low))
    ∙ ap (λ behind. memory_of_bytes order (take at xs ++ take p (drop at xs) ++ behind))
    (drop-append-drop at ys (take at xs) (at + p) next (length-take-le at xs low))
    ∙ ap (λ front. memory_of_bytes order (front ++ drop (at + p) ys)) (sym (take-add at p xs))

with-more : (memory : Memory) (front behind : List Page) → with_pages memory (front ++ behind) ≡ with_pages (with_pages memory front) behind
with-more memory [] behind = refl
with-more memory (page ∷ front) behind = with-more (with_bytes memory (page.number * page_size) page.bytes) front behind

-- one page more, as it differs or doesn't
one-more : (n : ℕ) (base memory : Memory) (alike : Bool) → (alike ≡ true → (page_of memory n).bytes ≡ (page_of base n).bytes)
    → n * page_size + page_size ≤ size_of memory
    → with_pages (memory_of_bytes base.order (halves (n * page_size) memory.bytes base.bytes)) (if alike then [] else page_of memory n ∷ [])
    ≡ memory_of_bytes base.order (halves (n * page_size + page_size) memory.bytes base.bytes)
one-more n base memory true same within = ap (memory_of_bytes base.order) (page-alike (n * page_size) page_size memory.bytes base.bytes (sym (same refl)))
one-more n base memory false same within = page-put base.order (n * page_size) page_size memory.bytes base.bytes within

pub below-put : (n : ℕ) (base memory : Memory) → n * page_size ≤ size_of memory
    → with_pages base (differing_below n base memory) ≡ memory_of_bytes base.order (halves (n * page_size) memory.bytes base.bytes)
below-put zero base memory within = refl
below-put (suc n) base memory within =
    let up : n * page_size + page_size ≤ size_of memory = omega (arith, within) in
    let less : n * page_size ≤ size_of memory = omega (arith, within) in
    let next : n * page_size + page_size ≡ suc n * page_size = omega arith in
    let alike : Bool = bytes_eq (page_of memory n).bytes (page_of base n).bytes in
    with-more base (differing_below n base memory) (if alike then [] else page_of memory n ∷ [])
    ∙ ap (λ it. with_pages it (if alike then [] else page_of memory n ∷ [])) (below-put n base memory less)
    ∙ one-more n base memory alike (bytes_eq-Decides (page_of memory n).bytes (page_of base n).bytes).0 up
    ∙ ap (λ at. memory_of_bytes base.order (halves at memory.bytes base.bytes)) next

within-more : (size : ℕ) (front behind : List Page) → LieWithin size front → LieWithin size behind → LieWithin size (front ++ behind)
within-more size [] behind each others = others
within-more size (page ∷ front) behind each others = (each.0, within-more size front behind each.1 others)

within-one : (size : ℕ) (page : Page) (alike : Bool) → page.number * page_size + page_size ≤ size → LieWithin size (if alike then [] else page ∷ [])
within-one size page true within = _
within-one size page false within = (within, _)

pub below-within : (n : ℕ) (base memory : Memory) (size : ℕ) → n * page_size ≤ size → LieWithin size (differing_below n base memory)
below-within zero base memory size within = _
below-within (suc n) base memory size within =
    let alike : Bool = bytes_eq (page_of memory n).bytes (page_of base n).bytes in
    within-more size (differing_below n base memory) (if alike then [] else page_of memory n ∷ [])
    (below-within n base memory size (omega (arith, within)))
    (within-one size (page_of memory n) alike (omega (arith, within)))

-- the pages of a whole memory
pub all-put : (n : ℕ) (base memory : Memory) → size_of memory ≡ size_of base → memory.order ≡ base.order → n * page_size ≡ size_of memory
    → with_pages base (differing_below n base memory) ≡ memory
all-put n base memory sizes orders whole =
    below-put n base memory (omega (arith, whole))
    ∙ ap (λ bytes. memory_of_bytes base.order (bytes ++ drop (n * page_size) base.bytes)) (take_all (n * page_size) memory.bytes (omega (arith, whole)))
    ∙ ap (λ rest. memory_of_bytes base.order (memory.bytes ++ rest)) (drop_all (n * page_size) base.bytes (omega (arith, whole, sizes)))
    ∙ ap (memory_of_bytes base.order) (append-nil memory.bytes)
    ∙ ap (λ order. memory_of_bytes order memory.bytes) (sym orders)

-- a page that is put where it is already
pub page-same : (order : Order) (at p : ℕ) (xs : List ℕ) → at + p ≤ length xs
    → with_bytes (memory_of_bytes order xs) at (take p (drop at xs)) ≡ memory_of_bytes order xs
page-same order at p xs within =
    ap (λ bytes. with_bytes (memory_of_bytes order bytes) at (take p (drop at xs))) (sym (take-append-drop at xs))
    ∙ page-put order at p xs xs within
    ∙ ap (memory_of_bytes order) (take-append-drop (at + p) xs)
