-- A text is shown part by part.
use Rattle.std.proofs.Common.{◌≡◌, ◌<◌, ◌≤◌, ℕ, List, [], ◌∷◌, ◌++◌, length, take, drop, refl, sym, ap, ◌∙◌, subst, append_assoc, append-nil, arith}
use Rattle.std.proofs.lemmas.List.{take-append-drop}
use Rattle.brd_gdb.specs.Output.{AddsOutput, Outputs, shown}
use Rattle.brd_gdb.specs.Output.Outputs.{nothing, one_more}

-- a front of a text is shown, and this is left
pub record ShowsFront (text left old new : List ℕ) : Type 0 where
  pub front : List ℕ
  pub whole : text ≡ front ++ left
  pub so_far : AddsOutput front old new

pub at_first : (text old : List ℕ) → ShowsFront text text old old
at_first text old = record {
  front = [];
  whole = refl;
  so_far = record { bytes = []; show = nothing; added = sym (append-nil old) };
}

pub one_part_more : (text left old new after part rest : List ℕ) → ShowsFront text left old new → left ≡ part ++ rest
    → 0 < length part → length part ≤ 8191 → after ≡ new ++ shown part → ShowsFront text rest old after
one_part_more text left old new after part rest h parts some few is = record {
  front = h.front ++ part;
  whole = h.whole ∙ ap (λ (xs : List ℕ). h.front ++ xs) parts ∙ sym (append_assoc h.front part rest);
  so_far = record {
    bytes = h.so_far.bytes ++ shown part;
    show = one_more h.front part h.so_far.bytes some few h.so_far.show;
    added = is ∙ ap (λ (xs : List ℕ). xs ++ shown part) h.so_far.added ∙ append_assoc old h.so_far.bytes (shown part);
  };
}

nothing_left : (front left : List ℕ) → length left ≡ 0 → front ++ left ≡ front
nothing_left front [] none = append-nil front
nothing_left front (b ∷ bs) none = absurd (omega (arith, none))

pub at_last : (text left old new : List ℕ) → ShowsFront text left old new → length left ≡ 0 → AddsOutput text old new
at_last text left old new h none =
    let P : List ℕ → Type 0 = λ xs. AddsOutput xs old new in
    subst P (sym (h.whole ∙ nothing_left h.front left none)) h.so_far
