-- Bytes spell the tokens that they have.
use Rattle.std.proofs.Common.{◌≡◌, ℕ, zero, suc, ◌+◌, ◌≤◌, true, false, ◌&&◌, List, [], ◌∷◌, ◌++◌, length, drop, take, Option, Some, None, refl, sym, ap, ◌∙◌, subst, inl, inr, arith}
use Rattle.std.specs.Prelude.{nat_eq}
use Rattle.std.specs.List.{list_all, prefix_len}
use Rattle.std.proofs.lemmas.Bool.{cases_Bool, and_parts, eqb-false, eqb-true}
use Rattle.std.proofs.lemmas.List.{take-append-drop, length-drop}
use Rattle.brd_text.specs.Bytes.{is_run_byte, begins_with, is_space}
use Rattle.brd_text.proofs.Runs.{no_run_byte, run_bytes}
use Rattle.brd_source.specs.Tokens.{SourceToken, opens_comment, string_len, quoted, tokens_in}
use Rattle.brd_source.specs.Tokens.SourceToken.{Run, Percent, Quoted, Mark, Wrong}
use Rattle.brd_source.specs.Tokens.Place.{Between, InString}
use Rattle.brd_source.specs.Spelling.{stays_open, SpellsLine}
use Rattle.brd_source.specs.Spelling.SpellsLine.{nothing, blank, sharp_comment, slash_comment, run, percent_run, in_quotes, unended, mark}
use Rattle.brd_source.proofs.Runs.{blank_step, comment_step, run_front, percent_front, behind_closed, behind_open, string_front}
use Rattle.brd_source.proofs.Spelled.{closed, closed_at, mark_begins}

-- ---- comments

slashed : (b : ℕ) (bs : List ℕ) → (nat_eq b 47 && begins_with 47 bs) ≡ true → SpellsLine (b ∷ bs) []
slashed b [] h = absurd (no_second (and_parts (nat_eq b 47) false h).1)
  where
    no_second : false ≡ true → ⊥
    no_second e = cc
slashed b (c ∷ bs) h =
    let parts = and_parts (nat_eq b 47) (nat_eq c 47) h in
    subst (λ (d : ℕ). SpellsLine (d ∷ c ∷ bs) []) (sym (eqb-true b 47 parts.0)) (subst (λ (d : ℕ). SpellsLine (47 ∷ d ∷ bs) []) (sym (eqb-true c 47 parts.1)) (slash_comment bs))

commented : (b : ℕ) (bs : List ℕ) → opens_comment b bs ≡ true → SpellsLine (b ∷ bs) []
commented b bs h =
    elim (cases_Bool (nat_eq b 35)) [
      | inl sharp ↦ subst (λ (c : ℕ). SpellsLine (c ∷ bs) []) (sym (eqb-true b 35 sharp)) (sharp_comment bs)
      | inr other ↦ slashed b bs (rw other at h)
    ]

-- ---- runs

-- what is to be shown of all bytes, of those that are at most n
abbrev AtMost : ℕ → Type 0
AtMost n = (bs : List ℕ) → length bs ≤ n → SpellsLine bs (tokens_in Between bs)

with_tokens : (bytes : List ℕ) (tokens : List SourceToken) → tokens_in Between bytes ≡ tokens → SpellsLine bytes tokens → SpellsLine bytes (tokens_in Between bytes)
with_tokens bytes tokens e s = subst (λ (ws : List SourceToken). SpellsLine bytes ws) (sym e) s

run_back : (n b : ℕ) (bs : List ℕ) → AtMost n → length bs ≤ n → is_run_byte b ≡ true → SpellsLine (b ∷ bs) (tokens_in Between (b ∷ bs))
run_back n b bs shorter le h =
    let k = prefix_len is_run_byte bs in
    let len : suc k ≡ prefix_len is_run_byte (b ∷ bs) = rw h (omega arith) in
    let rest = shorter (drop k bs) (omega (arith, length-drop k bs, le)) in
    let are : list_all is_run_byte (b ∷ take k bs) ≡ true = rw h (run_bytes bs) in
    with_tokens (b ∷ bs) (Run (b ∷ take k bs) ∷ tokens_in Between (drop k bs)) (run_front b (suc k) (b ∷ bs) bs refl h len)
    (subst (λ (l : List ℕ). SpellsLine (b ∷ l) (Run (b ∷ take k bs) ∷ tokens_in Between (drop k bs))) (take-append-drop k bs) (run b (take k bs) (drop k bs) (tokens_in Between (drop k bs)) are (no_run_byte bs) rest))

percent_back : (n : ℕ) (bs : List ℕ) → AtMost n → length bs ≤ n → SpellsLine (37 ∷ bs) (tokens_in Between (37 ∷ bs))
percent_back n bs shorter le =
    let k = prefix_len is_run_byte bs in
    let rest = shorter (drop k bs) (omega (arith, length-drop k bs, le)) in
    with_tokens (37 ∷ bs) (Percent (take k bs) ∷ tokens_in Between (drop k bs)) (percent_front 37 k (37 ∷ bs) bs refl refl refl)
    (subst (λ (l : List ℕ). SpellsLine (37 ∷ l) (Percent (take k bs) ∷ tokens_in Between (drop k bs))) (take-append-drop k bs) (percent_run (take k bs) (drop k bs) (tokens_in Between (drop k bs)) (run_bytes bs) (no_run_byte bs) rest))

-- ---- strings

some_none : (n : ℕ) → None ≡ Some n → ⊥
some_none n e = cc

open_at : (bs text behind : List ℕ) → None ≡ string_len false bs → bs ≡ text ++ 34 ∷ behind → stays_open false text ≡ false
open_at bs text behind none split =
    elim (cases_Bool (stays_open false text)) [
      | inl stays ↦ absurd (some_none (length text) (none ∙ ap (string_len false) split ∙ closed false text behind stays))
      | inr shut ↦ shut
    ]

string_back : (n : ℕ) (bs : List ℕ) → AtMost n → length bs ≤ n → (len : Option ℕ) → len ≡ string_len false bs → SpellsLine (34 ∷ bs) (tokens_in Between (34 ∷ bs))
string_back n bs shorter le None e = with_tokens (34 ∷ bs) (Wrong ∷ []) (string_front 34 (34 ∷ bs) bs Wrong [] refl refl (ap (λ (o : Option ℕ). quoted o bs) (sym e)) (behind_open bs e)) (unended bs (λ text behind split. open_at bs text behind e split))
string_back n bs shorter le (Some k) e =
    let one : k + 1 ≡ suc k = omega arith in
    let closed = closed_at false k bs (sym e) in
    let behind : tokens_in InString bs ≡ tokens_in Between (drop (suc k) bs) = rw one at (behind_closed k bs e) in
    let rest = shorter (drop (suc k) bs) (omega (arith, length-drop (suc k) bs, le)) in
    with_tokens (34 ∷ bs) (Quoted (take k bs) ∷ tokens_in Between (drop (suc k) bs)) (string_front 34 (34 ∷ bs) bs (Quoted (take k bs)) (drop (suc k) bs) refl refl (ap (λ (o : Option ℕ). quoted o bs) (sym e)) behind)
    (subst (λ (l : List ℕ). SpellsLine (34 ∷ l) (Quoted (take k bs) ∷ tokens_in Between (drop (suc k) bs))) (sym closed.split) (in_quotes (take k bs) (drop (suc k) bs) (tokens_in Between (drop (suc k) bs)) closed.stays rest))

-- ---- all bytes

sign_back : (n b : ℕ) (bs : List ℕ) → AtMost n → length bs ≤ n → is_run_byte b ≡ false → is_space b ≡ false → opens_comment b bs ≡ false → SpellsLine (b ∷ bs) (tokens_in Between (b ∷ bs))
sign_back n b bs shorter le h visible opens =
    elim (cases_Bool (nat_eq b 37)) [
      | inl percent ↦ subst (λ (c : ℕ). SpellsLine (c ∷ bs) (tokens_in Between (c ∷ bs))) (sym (eqb-true b 37 percent)) (percent_back n bs shorter le)
      | inr no_percent ↦
          elim (cases_Bool (nat_eq b 34)) [
            | inl quote ↦ subst (λ (c : ℕ). SpellsLine (c ∷ bs) (tokens_in Between (c ∷ bs))) (sym (eqb-true b 34 quote)) (string_back n bs shorter le (string_len false bs) refl)
            | inr no_quote ↦
                with_tokens (b ∷ bs) (Mark b ∷ tokens_in Between bs) (mark_begins b bs h visible opens (eqb-false b 37 no_percent) (eqb-false b 34 no_quote))
                (mark b bs (tokens_in Between bs) h visible opens (eqb-false b 37 no_percent) (eqb-false b 34 no_quote) (shorter bs le))
          ]
    ]

token_back : (n b : ℕ) (bs : List ℕ) → AtMost n → length bs ≤ n → is_space b ≡ false → opens_comment b bs ≡ false → SpellsLine (b ∷ bs) (tokens_in Between (b ∷ bs))
token_back n b bs shorter le visible opens =
    elim (cases_Bool (is_run_byte b)) [
      | inl is_one ↦ run_back n b bs shorter le is_one
      | inr is_other ↦ sign_back n b bs shorter le is_other visible opens
    ]

at_most : (n : ℕ) → AtMost n
at_most zero [] le = nothing
at_most zero (b ∷ bs) le = absurd (omega (arith, le))
at_most (suc n) [] le = nothing
at_most (suc n) (b ∷ bs) le =
    let shorter : length bs ≤ n = omega (arith, le) in
    elim (cases_Bool (is_space b)) [
      | inl is_one ↦ subst (λ (ws : List SourceToken). SpellsLine (b ∷ bs) ws) (blank_step b (b ∷ bs) bs refl is_one) (blank b bs (tokens_in Between bs) is_one (at_most n bs shorter))
      | inr visible ↦
          elim (cases_Bool (opens_comment b bs)) [
            | inl opens ↦ with_tokens (b ∷ bs) [] (comment_step b (b ∷ bs) bs refl opens) (commented b bs opens)
            | inr a_token ↦ token_back n b bs (λ bs le. at_most n bs le) shorter visible a_token
          ]
    ]

pub spelled_back : (bytes : List ℕ) → SpellsLine bytes (tokens_in Between bytes)
spelled_back bytes = at_most (length bytes) bytes (omega arith)
