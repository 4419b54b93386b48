-- The first line of a text, and those after it; lines and the newlines between them.
use Rattle.std.proofs.Common.{◌≡◌, ℕ, suc, ◌+◌, true, false, eqb, List, [], ◌∷◌, ◌++◌, length, take, drop, refl, sym, ap, ◌∙◌, inl, inr, arith}
use Rattle.std.specs.Prelude.{Option, Some, None}
use Rattle.std.specs.List.{prefix_len, list_all, AllByRecursion, join_with_byte}
use Rattle.std.proofs.lemmas.Bool.{cases_Bool, not-true, and_parts, eqb-true}
use Rattle.brd_text.specs.Lines.{in_front, lines_of, stays_on, lines_behind}

ends_line : (b : ℕ) → eqb b 10 ≡ true → stays_on b ≡ false
unfolding stays_on
ends_line b e = rw e refl

in_line : (b : ℕ) → eqb b 10 ≡ false → stays_on b ≡ true
unfolding stays_on
in_line b e = rw e refl

-- the text after the first byte
abbrev behind_end : List ℕ → Option (List ℕ)
behind_end [] = None
behind_end (b ∷ bs) = Some bs

first_line : (bs : List ℕ) → lines_of bs ≡ take (prefix_len stays_on bs) bs ∷ lines_behind (behind_end (drop (prefix_len stays_on bs) bs))
first_line [] = refl
first_line (b ∷ bs) =
    let ih = first_line bs in
    elim (cases_Bool (eqb b 10)) [
      | inl ends ↦ rw (ends_line b ends, ends) refl
      | inr goes_on ↦
          let one : 1 + prefix_len stays_on bs ≡ suc (prefix_len stays_on bs) = omega arith in
          rw (in_line b goes_on, goes_on, one, ih) refl
    ]

-- a text whose first line ends with a newline
pub line_and_more : (bs line end behind : List ℕ) (n b : ℕ) → n ≡ prefix_len stays_on bs → line ≡ take n bs → end ≡ drop n bs → end ≡ b ∷ behind → lines_of bs ≡ line ∷ lines_behind (Some behind)
line_and_more bs line end behind n b len front back more = first_line bs ∙ rw (← len, ← back, ← front, more) refl

-- a text of one line
pub only_line : (bs line end : List ℕ) (n : ℕ) → n ≡ prefix_len stays_on bs → line ≡ take n bs → end ≡ drop n bs → length end ≡ 0 → lines_of bs ≡ line ∷ lines_behind None
only_line bs line [] n len front back none = first_line bs ∙ rw (← len, ← back, ← front) refl
only_line bs line (b ∷ bs') n len front back none = absurd (omega (arith, none))

-- ---- lines and the newlines between them

stays : (b : ℕ) → stays_on b ≡ true → eqb b 10 ≡ false
unfolding stays_on
stays b h = not-true (eqb b 10) h

pub some_line : (text : List ℕ) → (line : List ℕ) × (others : List (List ℕ)) × (lines_of text ≡ line ∷ others)
some_line text = (_, _, first_line text)

join-in_front : (b : ℕ) (line : List ℕ) (others : List (List ℕ)) → join_with_byte 10 (in_front b (line ∷ others)) ≡ b ∷ join_with_byte 10 (line ∷ others)
join-in_front b line [] = refl
join-in_front b line (other ∷ others) = refl

pub joined : (text : List ℕ) → join_with_byte 10 (lines_of text) ≡ text
joined [] = refl
joined (b ∷ bs) =
    let some = some_line bs in
    let ih : join_with_byte 10 (some.0 ∷ some.1) ≡ bs = rw some.2 at (joined bs) in
    elim (cases_Bool (eqb b 10)) [
      | inl ends ↦ rw (ends, some.2, ih) (ap (λ n. n ∷ bs) (sym (eqb-true b 10 ends)))
      | inr goes_on ↦ rw (goes_on, some.2) (join-in_front b some.0 some.1 ∙ ap (λ bs. b ∷ bs) ih)
    ]

apart-in_front : (b : ℕ) (lines : List (List ℕ)) → stays_on b ≡ true → AllByRecursion (λ line. list_all stays_on line ≡ true) lines → AllByRecursion (λ line. list_all stays_on line ≡ true) (in_front b lines)
apart-in_front b [] h all = (rw h refl, tt)
apart-in_front b (line ∷ lines) h all = (rw h all.0, all.1)

pub apart : (text : List ℕ) → AllByRecursion (λ line. list_all stays_on line ≡ true) (lines_of text)
apart [] = (refl, tt)
apart (b ∷ bs) =
    elim (cases_Bool (eqb b 10)) [
      | inl ends ↦ rw ends (refl, apart bs)
      | inr goes_on ↦ rw goes_on (apart-in_front b (lines_of bs) (in_line b goes_on) (apart bs))
    ]

last_line : (line : List ℕ) → list_all stays_on line ≡ true → lines_of line ≡ line ∷ []
last_line [] h = refl
last_line (b ∷ bs) h =
    let parts = and_parts (stays_on b) (list_all stays_on bs) h in
    rw (stays b parts.0, last_line bs parts.1) refl

line_in_front : (line rest : List ℕ) → list_all stays_on line ≡ true → lines_of (line ++ 10 ∷ rest) ≡ line ∷ lines_of rest
line_in_front [] rest h = refl
line_in_front (b ∷ bs) rest h =
    let parts = and_parts (stays_on b) (list_all stays_on bs) h in
    rw (stays b parts.0, line_in_front bs rest parts.1) refl

pub only_lines : (line : List ℕ) (others : List (List ℕ)) → AllByRecursion (λ line. list_all stays_on line ≡ true) (line ∷ others) → lines_of (join_with_byte 10 (line ∷ others)) ≡ line ∷ others
only_lines line [] h = last_line line h.0
only_lines line (other ∷ others) h = line_in_front line (join_with_byte 10 (other ∷ others)) h.0 ∙ ap (λ lines. line ∷ lines) (only_lines other others h.1)
