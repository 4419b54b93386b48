-- Tokens at the front of a text: blanks, comments, runs and marks.
use Rattle.std.proofs.Common.{◌≡◌, ℕ, suc, ◌+◌, Bool, true, false, not, ◌&&◌, ◌||◌, List, [], ◌∷◌, length, drop, take, refl, ◌∙◌, inl, inr, arith}
use Prim.Native.Nat.compare
use Rattle.std.proofs.lemmas.Bool.{ne_eqb, cases_Bool, not-true, and_parts}
use Rattle.std.proofs.lemmas.Bool.Decides.{nat_tests}
use Rattle.std.specs.Prelude.{nat_eq, if◌then◌else◌}
use Rattle.std.specs.List.{list_all, prefix_len}
use Rattle.brd_text.specs.Bytes.{is_letter, is_digit, is_run_byte, is_space, is_blank, begins_name, begins_with, is_name}
use Rattle.brd_text.specs.Lines.{line_after}
use Rattle.brd_text.specs.Tokens.{opens_comment, tokens_in}
use Rattle.brd_text.specs.Tokens.Token.{Run, Mark}
use Rattle.brd_text.specs.Tokens.Place.{Between, InRun, InLine, Opened, InBlock}
use Rattle.brd_text.specs.Gaps.{begins_token, Begins}
use Rattle.brd_text.specs.Spelling.{begins_with_run_byte}

-- ---- bytes by kind

pub blank-is_run_byte : (b : ℕ) → is_blank b ≡ true → is_run_byte b ≡ false
unfolding is_run_byte is_blank is_space is_letter is_digit
blank-is_run_byte b h = grind (arith, nat_tests)

pub blank-is_slash : (b : ℕ) → is_blank b ≡ true → nat_eq b 47 ≡ false
unfolding is_blank is_space
blank-is_slash b h = grind (arith, nat_tests)

pub run_byte-is_newline : (b : ℕ) → is_run_byte b ≡ true → nat_eq b 10 ≡ false
unfolding is_run_byte is_letter is_digit
run_byte-is_newline b h = grind (arith, nat_tests)

pub other-is_newline : (b : ℕ) → is_blank b ≡ false → nat_eq b 10 ≡ false
unfolding is_blank is_space
other-is_newline b h = grind (arith, nat_tests)

-- ---- names

all_in_run : (bs : List ℕ) → nat_eq (prefix_len is_run_byte bs) (length bs) ≡ list_all is_run_byte bs
all_in_run [] = refl
all_in_run (b ∷ bs) =
    elim (cases_Bool (is_run_byte b)) [
      | inl is_one ↦ let one : 1 + prefix_len is_run_byte bs ≡ suc (prefix_len is_run_byte bs) = omega arith in
          rw (is_one, one, compare.suc-suc (prefix_len is_run_byte bs) (length bs)) (all_in_run bs)
      | inr is_other ↦ rw (is_other, ne_eqb 0 (suc (length bs)) (λ e. omega (arith, e))) refl
    ]

pub name_front : (b n : ℕ) (text bs : List ℕ) → text ≡ b ∷ bs → begins_name b ≡ true → n ≡ prefix_len is_run_byte bs → nat_eq n (length bs) ≡ is_name text
name_front b n text bs e h len = rw (e, h, len) (all_in_run bs)

-- ---- the longest run at the front

pub no_run_byte : (bs : List ℕ) → begins_with_run_byte (drop (prefix_len is_run_byte bs) bs) ≡ false
no_run_byte [] = refl
no_run_byte (b ∷ bs) =
    elim (cases_Bool (is_run_byte b)) [
      | inl is_one ↦ let one : 1 + prefix_len is_run_byte bs ≡ suc (prefix_len is_run_byte bs) = omega arith in
          rw (is_one, one) (no_run_byte bs)
      | inr is_other ↦ rw is_other (rw is_other refl)
    ]

pub run_bytes : (bs : List ℕ) → list_all is_run_byte (take (prefix_len is_run_byte bs) bs) ≡ true
run_bytes [] = refl
run_bytes (b ∷ bs) =
    elim (cases_Bool (is_run_byte b)) [
      | inl is_one ↦ let one : 1 + prefix_len is_run_byte bs ≡ suc (prefix_len is_run_byte bs) = omega arith in
          rw (is_one, one) (rw is_one (run_bytes bs))
      | inr is_other ↦ rw is_other refl
    ]

-- ---- gaps

pub blank_step : (line b : ℕ) (left bs : List ℕ) → left ≡ b ∷ bs → is_blank b ≡ true → tokens_in Between (line_after line b) bs ≡ tokens_in Between line left
blank_step line b left bs e h = rw (e, blank-is_run_byte b h, h, blank-is_slash b h) refl

pub line_comment_step : (line b : ℕ) (left more bs : List ℕ) → b ≡ 47 → left ≡ b ∷ more → more ≡ 47 ∷ bs → tokens_in InLine line bs ≡ tokens_in Between line left
unfolding is_run_byte is_blank is_space is_letter is_digit
line_comment_step line b left more bs slash e f = rw (e, slash, f) refl

pub block_comment_step : (line b : ℕ) (left more bs : List ℕ) → b ≡ 47 → left ≡ b ∷ more → more ≡ 42 ∷ bs → tokens_in InBlock line bs ≡ tokens_in Between line left
unfolding is_run_byte is_blank is_space is_letter is_digit
block_comment_step line b left more bs slash e f = rw (e, slash, f) refl

pub newline_ends : (line b : ℕ) (left bs : List ℕ) → left ≡ b ∷ bs → b ≡ 10 → tokens_in InLine line left ≡ tokens_in Between line left
unfolding is_run_byte is_blank is_space is_letter is_digit
newline_ends line b left bs e f = rw (e, f) refl

-- ---- tokens

-- after the run that stands here
pub run_rest : (line : ℕ) (bs : List ℕ) → tokens_in InRun line bs ≡ tokens_in Between line (drop (prefix_len is_run_byte bs) bs)
run_rest line [] = refl
run_rest line (b ∷ bs) =
    elim (cases_Bool (is_run_byte b)) [
      | inl is_one ↦ let one : 1 + prefix_len is_run_byte bs ≡ suc (prefix_len is_run_byte bs) = omega arith in
          rw (is_one, run_byte-is_newline b is_one, one) (run_rest line bs)
      | inr is_other ↦ rw is_other (rw is_other refl)
    ]

run_behind : (line b n : ℕ) (bs : List ℕ) → n ≡ suc (prefix_len is_run_byte bs) → tokens_in InRun line bs ≡ tokens_in Between line (drop n (b ∷ bs))
run_behind line b n bs e = rw e (run_rest line bs)

pub run_len : (b n : ℕ) (bs : List ℕ) → is_run_byte b ≡ true → n ≡ prefix_len is_run_byte (b ∷ bs) → n ≡ suc (prefix_len is_run_byte bs)
run_len b n bs h e = e ∙ rw h (omega arith)

run_at : (b n : ℕ) (bs : List ℕ) → is_run_byte b ≡ true → n ≡ prefix_len is_run_byte (b ∷ bs) → Begins (b ∷ bs) (Run (take n (b ∷ bs))) (drop n (b ∷ bs))
run_at b n bs h e = record {
  token = λ line. rw (e, h) refl;
  rest = λ line. rw (h, run_byte-is_newline b h) (run_behind line b n bs (run_len b n bs h e));
}

pub run_front : (b n : ℕ) (text bs : List ℕ) → text ≡ b ∷ bs → is_run_byte b ≡ true → n ≡ prefix_len is_run_byte text → Begins text (Run (take n text)) (drop n text)
run_front b n text bs e h len = rw e (run_at b n bs h (rw e at len))

place_by : (s x y : Bool) → (s && (x || y)) ≡ false → (if s then (if x then InLine else (if y then Opened else Between)) else Between) ≡ Between
place_by false x y h = refl
place_by true true y h = absurd (cc)
place_by true false true h = absurd (cc)
place_by true false false h = refl

-- no comment begins here
pub place_is : (b : ℕ) (bs : List ℕ) → opens_comment b bs ≡ false → (if nat_eq b 47 then (if begins_with 47 bs then InLine else (if begins_with 42 bs then Opened else Between)) else Between) ≡ Between
place_is b bs opens = place_by (nat_eq b 47) (begins_with 47 bs) (begins_with 42 bs) opens

mark_at_front : (b : ℕ) (bs : List ℕ) → is_run_byte b ≡ false → is_blank b ≡ false → opens_comment b bs ≡ false → Begins (b ∷ bs) (Mark b) bs
mark_at_front b bs h blank opens = record {
  token = λ line. rw (h, blank, opens) refl;
  rest = λ line. rw (h, blank, opens, place_is b bs opens, other-is_newline b blank) refl;
}

pub mark_front : (b : ℕ) (text bs : List ℕ) → text ≡ b ∷ bs → is_run_byte b ≡ false → begins_token text ≡ true → Begins text (Mark b) bs
mark_front b text bs e h at =
    let parts = and_parts (not (is_blank b)) (not (opens_comment b bs)) (rw e at at) in
    rw e (mark_at_front b bs h (not-true (is_blank b) parts.0) (not-true (opens_comment b bs) parts.1))
