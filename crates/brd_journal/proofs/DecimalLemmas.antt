-- Digits that are put down from the last on.
use Rattle.std.proofs.Common.{◌≡◌, ℕ, ◌+◌, ◌-◌, ◌/◌, ◌%◌, ◌≤◌, ◌<◌, ◌^◌, List, [], ◌∷◌, ◌++◌, length, set, take, drop, refl, sym, ap, ◌∙◌, arith}
use Rattle.std.specs.Fmt.{decimal}
use Rattle.std.proofs.lemmas.List.{append_assoc, append-nil, length-append, length-set, length-drop, take_all, drop-set}
use Rattle.std.proofs.lemmas.Fmt.{decimal_step, decimal_digit, decimal_nonempty, length-decimal-le}

-- The digits from a place on are the last ones of a number; those of what is left stand before them, and there is room
-- for these.
pub record Placed (number left start : ℕ) (digits : List ℕ) : Type 0 where
  pub len : length digits ≡ 10
  pub most : start ≤ 10
  pub room : length (decimal left) ≤ start
  pub same : decimal left ++ drop start digits ≡ decimal number
  pub small : left < 2 ^ 32

pub placed_first : (number : ℕ) (digits : List ℕ) → number < 2 ^ 32 → length digits ≡ 10 → drop 10 digits ≡ [] → Placed number number 10 digits
placed_first number digits small len none = record {
  len = len;
  most = omega arith;
  room = length-decimal-le 10 number (omega arith) (omega arith) (omega arith);
  same = rw none (append-nil (decimal number));
  small = small;
}

pub placed_room : (number left start : ℕ) (digits : List ℕ) → Placed number left start digits → 1 ≤ start
placed_room number left start digits p = omega (arith, decimal_nonempty left (omega (arith, p.small)), p.room)

pub placed_more : (number left start : ℕ) (digits : List ℕ) → Placed number left start digits → 10 ≤ left → Placed number (left / 10) (start - 1) (set digits (start - 1) (48 + left % 10))
placed_more number left start digits p more =
    let step : decimal left ≡ decimal (left / 10) ++ ((48 + left % 10) ∷ []) = decimal_step left more (omega (arith, p.small)) in
    let longer : length (decimal left) ≡ length (decimal (left / 10)) + 1 = ap length step ∙ length-append (decimal (left / 10)) ((48 + left % 10) ∷ []) in
    let one : 1 ≤ start = placed_room number left start digits p in
    let at : start - 1 < length digits = omega (arith, p.len, p.most) in
    let next : (start - 1) + 1 ≡ start = omega arith in
    let put : drop (start - 1) (set digits (start - 1) (48 + left % 10)) ≡ (48 + left % 10) ∷ drop start digits = drop-set digits (start - 1) (48 + left % 10) at ∙ rw next refl in
    record {
      len = length-set digits (start - 1) (48 + left % 10) ∙ p.len;
      most = omega (arith, p.most);
      room = omega (arith, p.room, longer);
      same = rw put (sym (append_assoc (decimal (left / 10)) ((48 + left % 10) ∷ []) (drop start digits)) ∙ ap (λ (ds : List ℕ). ds ++ drop start digits) (sym step) ∙ p.same);
      small = omega (arith, p.small);
    }

pub placed_last : (number left start : ℕ) (digits : List ℕ) → Placed number left start digits → left < 10 → take (10 - (start - 1)) (drop (start - 1) (set digits (start - 1) (48 + left))) ≡ decimal number
placed_last number left start digits p less =
    let one : 1 ≤ start = placed_room number left start digits p in
    let at : start - 1 < length digits = omega (arith, p.len, p.most) in
    let next : (start - 1) + 1 ≡ start = omega arith in
    let put : drop (start - 1) (set digits (start - 1) (48 + left)) ≡ (48 + left) ∷ drop start digits = drop-set digits (start - 1) (48 + left) at ∙ rw next refl in
    let whole : length (drop (start - 1) (set digits (start - 1) (48 + left))) ≤ 10 - (start - 1) = simp (length-drop, length-set) (omega (arith, p.len)) in
    take_all (10 - (start - 1)) (drop (start - 1) (set digits (start - 1) (48 + left))) whole
    ∙ put ∙ ap (λ (ds : List ℕ). ds ++ drop start digits) (sym (decimal_digit left less)) ∙ p.same
