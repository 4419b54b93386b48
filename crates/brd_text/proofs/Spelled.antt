-- What spells tokens has these tokens.
use Rattle.std.proofs.Common.{◌≡◌, ℕ, Bool, true, false, not, ◌&&◌, ◌||◌, List, [], ◌∷◌, ◌++◌, length, drop, take, map, refl, sym, ap, ◌∙◌, arith}
use Rattle.std.specs.Prelude.{nat_eq}
use Rattle.std.specs.List.{list_all, prefix_len}
use Rattle.std.proofs.lemmas.Bool.{and_parts, not-true}
use Rattle.std.proofs.lemmas.List.{take_at, drop_at, append-nil}
use Rattle.brd_text.specs.Bytes.{is_run_byte, is_blank, begins_with}
use Rattle.brd_text.specs.Lines.{line_after}
use Rattle.brd_text.specs.Tokens.{Token, Placed, Text, opens_comment, tokens_in, first, others}
use Rattle.brd_text.specs.Tokens.Token.{Run, Mark, End}
use Rattle.brd_text.specs.Tokens.Place.{Between, InLine, InBlock}
use Rattle.brd_text.specs.Gaps.{Begins}
use Rattle.brd_text.specs.Spelling.{has_closing, begins_with_run_byte, Spells, bare_tokens}
use Rattle.brd_text.specs.Spelling.Spells.{nothing, blank, line_comment, last_comment, block_comment, run, mark}
use Rattle.brd_text.proofs.Runs.{blank_step, line_comment_step, block_comment_step, newline_ends, run_front, mark_front}

-- ---- comments

in_line : (line : ℕ) (comment rest : List ℕ) → list_all (λ b. not (nat_eq b 10)) comment ≡ true → tokens_in InLine line (comment ++ rest) ≡ tokens_in InLine line rest
in_line line [] rest h = refl
in_line line (b ∷ bs) rest h =
    let parts = and_parts (not (nat_eq b 10)) (list_all (λ b. not (nat_eq b 10)) bs) h in
    rw (not-true (nat_eq b 10) parts.0) (in_line line bs rest parts.1)

-- a slash after these bytes, whatever follows the comment
slash_behind : (bs rest : List ℕ) → begins_with 47 (bs ++ 42 ∷ 47 ∷ rest) ≡ begins_with 47 bs
slash_behind [] rest = refl
slash_behind (b ∷ bs) rest = refl

or_left : (x y : Bool) → (x || y) ≡ false → x ≡ false
or_left true y h = absurd (cc)
or_left false y h = refl

or_right : (x y : Bool) → (x || y) ≡ false → y ≡ false
or_right true y h = absurd (cc)
or_right false y h = h

in_block : (line : ℕ) (comment rest : List ℕ) → has_closing comment ≡ false → (k : ℕ) × (tokens_in InBlock line (comment ++ 42 ∷ 47 ∷ rest) ≡ tokens_in Between k rest)
in_block line [] rest h = (line, refl)
in_block line (b ∷ bs) rest h =
    let goes_on = in_block (line_after line b) bs rest (or_right (nat_eq b 42 && begins_with 47 bs) (has_closing bs) h) in
    let inside : (nat_eq b 42 && begins_with 47 (bs ++ 42 ∷ 47 ∷ rest)) ≡ false = rw (slash_behind bs rest) (or_left (nat_eq b 42 && begins_with 47 bs) (has_closing bs) h) in
    (goes_on.0, rw inside goes_on.1)

-- ---- tokens

-- the bytes of a run, and what is no part of it
pub prefix_of_run : (bs rest : List ℕ) → list_all is_run_byte bs ≡ true → begins_with_run_byte rest ≡ false → prefix_len is_run_byte (bs ++ rest) ≡ length bs
prefix_of_run [] [] h e = refl
prefix_of_run [] (b ∷ rest) h e = rw e refl
prefix_of_run (b ∷ bs) rest h e =
    let parts = and_parts (is_run_byte b) (list_all is_run_byte bs) h in
    rw (parts.0, prefix_of_run bs rest parts.1 e) (omega arith)

-- a text that begins with a token
one_token : (token : Token) (line : ℕ) (t : Text) → first t ≡ record { token = token; line = line } → (token ≡ End → ⊥) → bare_tokens t ≡ token ∷ bare_tokens (others t)
one_token token line t e some = by_tokens t.tokens t.end e
  where
    by_tokens : (ps : List Placed) (end : ℕ) → first (record { tokens = ps; end = end }) ≡ record { token = token; line = line } → map (λ p. p.token) ps ≡ token ∷ map (λ p. p.token) (drop 1 ps)
    by_tokens [] end e = absurd (some (sym (ap (λ (p : Placed). p.token) e)))
    by_tokens (p ∷ ps) end e = ap (λ (q : Placed). q.token ∷ map (λ p. p.token) ps) e

after_token : (token : Token) (line : ℕ) (text behind : List ℕ) (tokens : List Token) → Begins text token behind → (token ≡ End → ⊥) → bare_tokens (tokens_in Between line behind) ≡ tokens → bare_tokens (tokens_in Between line text) ≡ token ∷ tokens
after_token token line text behind tokens b some e = one_token token line (tokens_in Between line text) (b.token line) some ∙ ap (λ (t : Text). token ∷ bare_tokens t) (b.rest line) ∙ ap (λ ws. token ∷ ws) e

run_begins : (b : ℕ) (bs rest : List ℕ) → list_all is_run_byte (b ∷ bs) ≡ true → begins_with_run_byte rest ≡ false → Begins (b ∷ (bs ++ rest)) (Run (b ∷ bs)) rest
run_begins b bs rest h e =
    let first_byte = and_parts (is_run_byte b) (list_all is_run_byte bs) h in
    let len : length (b ∷ bs) ≡ prefix_len is_run_byte (b ∷ (bs ++ rest)) = sym (prefix_of_run (b ∷ bs) rest h e) in
    let begins = run_front b (length (b ∷ bs)) (b ∷ (bs ++ rest)) (bs ++ rest) refl first_byte.0 len in
    let front : take (length (b ∷ bs)) ((b ∷ bs) ++ rest) ≡ b ∷ bs = take_at (b ∷ bs) rest (length (b ∷ bs)) refl in
    let back : drop (length (b ∷ bs)) ((b ∷ bs) ++ rest) ≡ rest = drop_at (b ∷ bs) rest (length (b ∷ bs)) refl in
    rw (front, back) at begins

mark_begins : (b : ℕ) (bytes : List ℕ) → is_run_byte b ≡ false → is_blank b ≡ false → opens_comment b bytes ≡ false → Begins (b ∷ bytes) (Mark b) bytes
mark_begins b bytes h visible opens = mark_front b (b ∷ bytes) bytes refl h (rw (visible, opens) refl)

pub spelled : (line : ℕ) (bytes : List ℕ) (tokens : List Token) → Spells bytes tokens → bare_tokens (tokens_in Between line bytes) ≡ tokens
spelled line _ _ nothing = refl
spelled line _ _ (blank b bytes tokens h s) = ap bare_tokens (sym (blank_step line b (b ∷ bytes) bytes refl h)) ∙ spelled (line_after line b) bytes tokens s
spelled line _ _ (line_comment comment bytes tokens h s) =
    ap bare_tokens (sym (line_comment_step line 47 (47 ∷ 47 ∷ (comment ++ 10 ∷ bytes)) (47 ∷ (comment ++ 10 ∷ bytes)) (comment ++ 10 ∷ bytes) refl refl refl)
    ∙ in_line line comment (10 ∷ bytes) h ∙ newline_ends line 10 (10 ∷ bytes) bytes refl refl)
    ∙ spelled line (10 ∷ bytes) tokens s
spelled line _ _ (last_comment comment h) =
    ap bare_tokens (sym (line_comment_step line 47 (47 ∷ 47 ∷ comment) (47 ∷ comment) comment refl refl refl) ∙ ap (tokens_in InLine line) (sym (append-nil comment)) ∙ in_line line comment [] h)
spelled line _ _ (block_comment comment bytes tokens h s) =
    let inside = in_block line comment bytes h in
    ap bare_tokens (sym (block_comment_step line 47 (47 ∷ 42 ∷ (comment ++ 42 ∷ 47 ∷ bytes)) (42 ∷ (comment ++ 42 ∷ 47 ∷ bytes)) (comment ++ 42 ∷ 47 ∷ bytes) refl refl refl) ∙ inside.1)
    ∙ spelled inside.0 bytes tokens s
spelled line _ _ (run b bs bytes tokens h e s) = after_token (Run (b ∷ bs)) line (b ∷ (bs ++ bytes)) bytes tokens (run_begins b bs bytes h e) (λ e. cc) (spelled line bytes tokens s)
spelled line _ _ (mark b bytes tokens h visible opens s) = after_token (Mark b) line (b ∷ bytes) bytes tokens (mark_begins b bytes h visible opens) (λ e. cc) (spelled line bytes tokens s)
