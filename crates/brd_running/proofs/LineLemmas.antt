-- Lines that are read byte by byte.
use Rattle.std.proofs.Common.{◌≡◌, ◌≢◌, ℕ, ◌+◌, List, [], ◌∷◌, ◌++◌, length, refl, sym, ap, subst, ◌∙◌, arith, append_assoc}
use Rattle.std.specs.Prelude.{Option, None, Some}
use Rattle.std.proofs.lemmas.Bool.{ne_eqb}
use Rattle.brd_text.specs.Lines.{in_front}
use Rattle.brd_running.specs.DebugLine.{command_lines, line_size}
use Rattle.brd_running.specs.Lines.{TakesByte, CountsByte, IsLeftOf}
use Rattle.brd_running.specs.declared.lines.Taken.{Taken}

-- lines, with these bytes at the front of the first
abbrev pub with_front : List ℕ → List (List ℕ) → List (List ℕ)
with_front [] lines = lines
with_front (b ∷ bs) lines = in_front b (with_front bs lines)

-- a newline ends the first line
pub front_ends : (bs : List ℕ) (lines : List (List ℕ)) → with_front bs ([] ∷ lines) ≡ bs ∷ lines
front_ends [] lines = refl
front_ends (b ∷ bs) lines = rw (front_ends bs lines) refl

-- another byte goes on with it
pub front_grows : (bs : List ℕ) (b : ℕ) (lines : List (List ℕ)) → with_front bs (in_front b lines) ≡ with_front (bs ++ b ∷ []) lines
front_grows [] b lines = refl
front_grows (c ∷ bs) b lines = rw (front_grows bs b lines) refl

-- and so does the end
pub front_is_last : (b : ℕ) (bs : List ℕ) → with_front (b ∷ bs) [] ≡ (b ∷ bs) ∷ []
front_is_last b [] = refl
front_is_last b (c ∷ bs) = rw (front_is_last c bs) refl

other_byte : (b : ℕ) (bs : List ℕ) → b ≢ 10 → command_lines (b ∷ bs) ≡ in_front b (command_lines bs)
other_byte b bs other = rw (ne_eqb b 10 other) refl

other_size : (b : ℕ) (bs : List ℕ) → b ≢ 10 → line_size (b ∷ bs) ≡ line_size bs + 1
other_size b bs other = rw (ne_eqb b 10 other) refl

-- one more byte was taken of what is left of a text
left_further : (text rest more : List ℕ) (b : ℕ) → rest ≡ b ∷ more → IsLeftOf text rest → IsLeftOf text more
left_further text rest more b is (front, whole) =
    (front ++ b ∷ [], whole ∙ ap (λ xs. front ++ xs) is ∙ sym (append_assoc front (b ∷ []) more))

-- Of a text these bytes were taken for a line, and this is left; n bytes were taken before them, and m are
-- now.
abbrev pub IsTaken : List ℕ → List ℕ → Option (List ℕ) → ℕ → ℕ → Type 0
IsTaken text line left before now =
    (rest : List ℕ) × (left ≡ Some rest) × (command_lines text ≡ with_front line (command_lines rest)) × (now + length rest ≡ before + length text)
    × (now + line_size rest ≡ before + line_size text) × IsLeftOf text rest

module _ (text : List ℕ) (left after : Option (List ℕ)) (before : ℕ) (old new : Taken) (found : Option ℕ)
    (takes : (t : List ℕ) → left ≡ Some t → TakesByte t found after) (counts : CountsByte old found new) where
  -- a newline was taken
  pub line_ends : (line : List ℕ) (byte : ℕ) → IsTaken text line left before old.bytes → found ≡ Some byte → byte ≡ 10
      → (rest : List ℕ) × (after ≡ Some rest) × (command_lines text ≡ line ∷ command_lines rest) × (new.bytes + length rest ≡ before + length text)
      × IsLeftOf text rest
  line_ends line byte (rest, is, lines, counted, sized, of-text) is-found newline =
      let step = subst (λ f. TakesByte rest f after) is-found (takes rest is) in
      let more = subst (λ f. CountsByte old f new) is-found counts in (
        step.0,
        step.1,
        lines ∙ ap (λ t. with_front line (command_lines t)) step.2 ∙ ap (λ b. with_front line (command_lines (b ∷ step.0))) newline
            ∙ front_ends line (command_lines step.0),
        omega (arith, counted, ap length step.2, more.0),
        left_further text rest step.0 byte step.2 of-text,
      )

  -- another byte was taken
  pub line_grows : (line : List ℕ) (byte : ℕ) → IsTaken text line left before old.bytes → found ≡ Some byte → byte ≢ 10
      → IsTaken text (line ++ byte ∷ []) after before new.bytes
  line_grows line byte (rest, is, lines, counted, sized, of-text) is-found other =
      let step = subst (λ f. TakesByte rest f after) is-found (takes rest is) in
      let more = subst (λ f. CountsByte old f new) is-found counts in (
        step.0,
        step.1,
        lines ∙ ap (λ t. with_front line (command_lines t)) step.2 ∙ ap (with_front line) (other_byte byte step.0 other)
            ∙ front_grows line byte (command_lines step.0),
        omega (arith, counted, ap length step.2, more.0),
        omega (arith, sized, ap line_size step.2, other_size byte step.0 other, more.0),
        left_further text rest step.0 byte step.2 of-text,
      )

  -- the text had ended
  pub text_ends : (line : List ℕ) → IsTaken text line left before old.bytes → found ≡ None → length line ≡ 0
      → (command_lines text ≡ []) × (after ≡ Some []) × (new.bytes ≡ before + length text)
  text_ends [] (rest, is, lines, counted, sized, of-text) is-found empty =
      let step = subst (λ f. TakesByte rest f after) is-found (takes rest is) in
      let same = subst (λ f. CountsByte old f new) is-found counts in
      (lines ∙ ap command_lines step.0, step.1, omega (arith, counted, ap length step.0, same.0))
  text_ends (b ∷ bs) taken is-found empty = absurd (omega (arith, empty))

  -- the text had ended after bytes of a line
  pub last_line_ends : (line : List ℕ) → IsTaken text line left before old.bytes → found ≡ None → length line ≢ 0
      → (rest : List ℕ) × (after ≡ Some rest) × (command_lines text ≡ line ∷ command_lines rest) × (new.bytes + length rest ≡ before + length text)
      × IsLeftOf text rest
  last_line_ends [] taken is-found some = absurd (some refl)
  last_line_ends (b ∷ bs) (rest, is, lines, counted, sized, of-text) is-found some =
      let step = subst (λ f. TakesByte rest f after) is-found (takes rest is) in
      let same = subst (λ f. CountsByte old f new) is-found counts in (
        [],
        step.1,
        lines ∙ ap (λ t. with_front (b ∷ bs) (command_lines t)) step.0 ∙ front_is_last b bs,
        omega (arith, counted, ap length step.0, same.0),
        subst (IsLeftOf text) step.0 of-text,
      )
