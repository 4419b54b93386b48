-- Tokens at the front of a line: blanks, comments, runs, strings and marks.
use Rattle.std.proofs.Common.{◌≡◌, ℕ, suc, ◌+◌, sym, Bool, true, false, not, ◌||◌, List, [], ◌∷◌, drop, take, Option, Some, None, refl, ap, ◌∙◌, inl, inr, arith}
use Rattle.std.proofs.lemmas.Bool.{cases_Bool, not-true, and_parts}
use Rattle.std.proofs.lemmas.Bool.Decides.{nat_tests}
use Rattle.std.specs.Prelude.{nat_eq, option_map, take_while}
use Rattle.std.specs.List.{prefix_len}
use Rattle.brd_text.specs.Bytes.{is_letter, is_digit, is_run_byte, is_space}
use Rattle.brd_text.proofs.Runs.{run_len}
use Rattle.brd_source.specs.Tokens.{SourceToken, Place, opens_comment, string_len, quoted, tokens_in}
use Rattle.brd_source.specs.Tokens.SourceToken.{Run, Percent, Mark}
use Rattle.brd_source.specs.Tokens.Place.{Between, InRun, InString, Escaped, InComment}
use Rattle.brd_source.specs.Fronts.{begins_token}

-- A line begins with this token, and goes on so after it.
abbrev pub Begins : List ℕ → SourceToken → List ℕ → Type 0
Begins line token behind = tokens_in Between line ≡ token ∷ tokens_in Between behind

-- a token, and others after it, in two steps
same_tokens : (t u : SourceToken) (ts us : List SourceToken) → t ≡ u → ts ≡ us → t ∷ ts ≡ u ∷ us
same_tokens t u ts us e f = ap (λ (v : SourceToken). v ∷ ts) e ∙ ap (λ (vs : List SourceToken). u ∷ vs) f

-- ---- bytes by kind

pub blank-is_run_byte : (b : ℕ) → is_space b ≡ true → is_run_byte b ≡ false
unfolding is_run_byte is_space is_letter is_digit
blank-is_run_byte b h = grind (arith, nat_tests)

-- ---- gaps

pub in_comment : (bs : List ℕ) → tokens_in InComment bs ≡ []
in_comment [] = refl
in_comment (b ∷ bs) = in_comment bs

pub blank_step : (b : ℕ) (left bs : List ℕ) → left ≡ b ∷ bs → is_space b ≡ true → tokens_in Between bs ≡ tokens_in Between left
unfolding is_space
blank_step b left bs e h =
    let percent : nat_eq b 37 ≡ false = grind (arith, nat_tests) in
    let sharp : nat_eq b 35 ≡ false = grind (arith, nat_tests) in
    let slash : nat_eq b 47 ≡ false = grind (arith, nat_tests) in
    let quote : nat_eq b 34 ≡ false = grind (arith, nat_tests) in
    rw (e, blank-is_run_byte b h, h, percent, sharp, slash, quote) refl

or_true : (x : Bool) → (x || true) ≡ true
or_true true = refl
or_true false = refl

-- the bytes that begin a comment are no others
opens-is : (b : ℕ) (bs : List ℕ) → opens_comment b bs ≡ true → (is_run_byte b ≡ false) × (nat_eq b 37 ≡ false)
unfolding is_run_byte is_letter is_digit
opens-is b bs h = (grind (arith, nat_tests), grind (arith, nat_tests))

pub comment_step : (b : ℕ) (left bs : List ℕ) → left ≡ b ∷ bs → opens_comment b bs ≡ true → tokens_in Between left ≡ []
comment_step b left bs e opens =
    let none = opens-is b bs opens in
    rw (e, none.0, none.1, opens, or_true (is_space b)) (in_comment bs)

-- ---- runs

-- after the run that stands here
pub run_rest : (bs : List ℕ) → tokens_in InRun bs ≡ tokens_in Between (drop (prefix_len is_run_byte bs) bs)
run_rest [] = refl
run_rest (b ∷ bs) =
    elim (cases_Bool (is_run_byte b)) [
      | inl is_one ↦ let one : 1 + prefix_len is_run_byte bs ≡ suc (prefix_len is_run_byte bs) = omega arith in
          rw (is_one, one) (run_rest bs)
      | inr is_other ↦ rw is_other (rw is_other refl)
    ]

run_behind : (b n : ℕ) (bs : List ℕ) → n ≡ suc (prefix_len is_run_byte bs) → tokens_in InRun bs ≡ tokens_in Between (drop n (b ∷ bs))
run_behind b n bs e = rw e (run_rest bs)

run_at : (b n : ℕ) (bs : List ℕ) → is_run_byte b ≡ true → n ≡ prefix_len is_run_byte (b ∷ bs) → Begins (b ∷ bs) (Run (take n (b ∷ bs))) (drop n (b ∷ bs))
run_at b n bs h e =
    let front : tokens_in Between (b ∷ bs) ≡ Run (take_while is_run_byte (b ∷ bs)) ∷ tokens_in InRun bs = rw h refl in
    front ∙ same_tokens (Run (take_while is_run_byte (b ∷ bs))) (Run (take n (b ∷ bs))) (tokens_in InRun bs) (tokens_in Between (drop n (b ∷ bs))) (rw e refl) (run_behind b n bs (run_len b n bs h e))

pub run_front : (b n : ℕ) (line bs : List ℕ) → line ≡ b ∷ bs → is_run_byte b ≡ true → n ≡ prefix_len is_run_byte line → Begins line (Run (take n line)) (drop n line)
run_front b n line bs e h len = rw e (run_at b n bs h (rw e at len))

percent_at : (n : ℕ) (bs : List ℕ) → n ≡ prefix_len is_run_byte bs → Begins (37 ∷ bs) (Percent (take n bs)) (drop n bs)
unfolding is_space is_run_byte is_letter is_digit
percent_at n bs e = same_tokens (Percent (take_while is_run_byte bs)) (Percent (take n bs)) (tokens_in InRun bs) (tokens_in Between (drop n bs)) (rw e refl) (rw e (run_rest bs))

pub percent_front : (b n : ℕ) (line bs : List ℕ) → line ≡ b ∷ bs → b ≡ 37 → n ≡ prefix_len is_run_byte bs → Begins line (Percent (take n bs)) (drop n bs)
percent_front b n line bs e h len = rw (e, h) (percent_at n bs len)

-- ---- strings

in_string : Bool → Place
in_string true = Escaped
in_string false = InString

-- the tokens after a string of n bytes
behind_string : Option ℕ → List ℕ → List SourceToken
behind_string (Some n) bs = tokens_in Between (drop (suc n) bs)
behind_string None bs = []

one_more : (o : Option ℕ) (b : ℕ) (bs : List ℕ) → behind_string (option_map (λ n. suc n) o) (b ∷ bs) ≡ behind_string o bs
unfolding behind_string
one_more (Some n) b bs = refl
one_more None b bs = refl

string_over : (escaped : Bool) (bs : List ℕ) → tokens_in (in_string escaped) bs ≡ behind_string (string_len escaped bs) bs
unfolding in_string behind_string
string_over escaped [] = refl
string_over true (b ∷ bs) = rw (one_more (string_len false bs) b bs) (string_over false bs)
string_over false (b ∷ bs) =
    elim (cases_Bool (nat_eq b 34)) [
      | inl quote ↦ rw quote refl
      | inr other ↦
          elim (cases_Bool (nat_eq b 92)) [
            | inl backslash ↦ rw (other, backslash, one_more (string_len true bs) b bs) (string_over true bs)
            | inr plain ↦ rw (other, plain, one_more (string_len false bs) b bs) (string_over false bs)
          ]
    ]

pub behind_closed : (n : ℕ) (bs : List ℕ) → Some n ≡ string_len false bs → tokens_in InString bs ≡ tokens_in Between (drop (n + 1) bs)
unfolding in_string behind_string
behind_closed n bs e =
    let one : n + 1 ≡ suc n = omega arith in
    rw one (string_over false bs ∙ ap (λ (o : Option ℕ). behind_string o bs) (sym e))

pub behind_open : (bs : List ℕ) → None ≡ string_len false bs → tokens_in InString bs ≡ []
unfolding in_string behind_string
behind_open bs e = string_over false bs ∙ ap (λ (o : Option ℕ). behind_string o bs) (sym e)

string_at_front : (bs : List ℕ) (token : SourceToken) (behind : List ℕ) → quoted (string_len false bs) bs ≡ token → tokens_in InString bs ≡ tokens_in Between behind → Begins (34 ∷ bs) token behind
unfolding is_space is_run_byte is_letter is_digit
string_at_front bs token behind e f = same_tokens (quoted (string_len false bs) bs) token (tokens_in InString bs) (tokens_in Between behind) e f

pub string_front : (b : ℕ) (line bs : List ℕ) (token : SourceToken) (behind : List ℕ) → line ≡ b ∷ bs → b ≡ 34 → quoted (string_len false bs) bs ≡ token → tokens_in InString bs ≡ tokens_in Between behind → Begins line token behind
string_front b line bs token behind e h f g = rw (e, h) (string_at_front bs token behind f g)

-- ---- marks

mark_at_front : (b : ℕ) (bs : List ℕ) → is_run_byte b ≡ false → nat_eq b 37 ≡ false → nat_eq b 34 ≡ false → is_space b ≡ false → opens_comment b bs ≡ false → Begins (b ∷ bs) (Mark b) bs
mark_at_front b bs h percent quote blank opens = rw (h, percent, quote, blank, opens) refl

pub mark_front : (b : ℕ) (line bs : List ℕ) → line ≡ b ∷ bs → is_run_byte b ≡ false → nat_eq b 37 ≡ false → nat_eq b 34 ≡ false → begins_token line ≡ true → Begins line (Mark b) bs
mark_front b line bs e h percent quote at =
    let parts = and_parts (not (is_space b)) (not (opens_comment b bs)) (rw e at at) in
    rw e (mark_at_front b bs h percent quote (not-true (is_space b) parts.0) (not-true (opens_comment b bs) parts.1))
