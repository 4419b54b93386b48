-- What spells tokens has these tokens.
use Rattle.std.proofs.Common.{◌≡◌, ℕ, ◌+◌, Bool, true, false, not, List, [], ◌∷◌, ◌++◌, length, drop, take, suc, Option, Some, None, refl, sym, ap, ◌∙◌, subst, inl, inr, append_assoc, length-append}
use Rattle.std.specs.List.{list_all, prefix_len}
use Rattle.std.specs.Prelude.{nat_eq, option_map}
use Rattle.std.proofs.lemmas.Bool.{cases_Bool, and_parts, not-true, ne_eqb, eqb-true, true≢false}
use Rattle.std.proofs.lemmas.List.{take_at, drop_at}
use Rattle.brd_text.specs.Bytes.{is_run_byte, is_space}
use Rattle.brd_text.specs.Spelling.{begins_with_run_byte}
use Rattle.brd_text.proofs.Spelled.{prefix_of_run}
use Rattle.brd_source.specs.Tokens.{SourceToken, opens_comment, ends_string, escapes, string_len, quoted, tokens_in}
use Rattle.brd_source.specs.Tokens.SourceToken.{Run, Percent, Quoted, Mark, Wrong}
use Rattle.brd_source.specs.Tokens.Place.{Between, InString}
use Rattle.brd_source.specs.Spelling.{stays_open, SpellsLine}
use Rattle.brd_source.specs.Spelling.SpellsLine.{nothing, blank, sharp_comment, slash_comment, run, percent_run, in_quotes, unended, mark}
use Rattle.brd_source.proofs.Runs.{Begins, blank_step, comment_step, run_front, percent_front, behind_closed, behind_open, string_front, mark_front}

after_token : (line behind : List ℕ) (token : SourceToken) (tokens : List SourceToken) → Begins line token behind → tokens_in Between behind ≡ tokens → tokens_in Between line ≡ token ∷ tokens
after_token line behind token tokens begins e = begins ∙ ap (λ (ws : List SourceToken). token ∷ ws) e

run_begins : (b : ℕ) (bs rest : List ℕ) → list_all is_run_byte (b ∷ bs) ≡ true → begins_with_run_byte rest ≡ false → Begins (b ∷ (bs ++ rest)) (Run (b ∷ bs)) rest
run_begins b bs rest h e =
    let first_byte = and_parts (is_run_byte b) (list_all is_run_byte bs) h in
    let len : length (b ∷ bs) ≡ prefix_len is_run_byte (b ∷ (bs ++ rest)) = sym (prefix_of_run (b ∷ bs) rest h e) in
    let begins = run_front b (length (b ∷ bs)) (b ∷ (bs ++ rest)) (bs ++ rest) refl first_byte.0 len in
    let front : take (length (b ∷ bs)) ((b ∷ bs) ++ rest) ≡ b ∷ bs = take_at (b ∷ bs) rest (length (b ∷ bs)) refl in
    let back : drop (length (b ∷ bs)) ((b ∷ bs) ++ rest) ≡ rest = drop_at (b ∷ bs) rest (length (b ∷ bs)) refl in
    rw (front, back) at begins

percent_begins : (bs rest : List ℕ) → list_all is_run_byte bs ≡ true → begins_with_run_byte rest ≡ false → Begins (37 ∷ (bs ++ rest)) (Percent bs) rest
percent_begins bs rest h e =
    let begins = percent_front 37 (length bs) (37 ∷ (bs ++ rest)) (bs ++ rest) refl refl (sym (prefix_of_run bs rest h e)) in
    let front : take (length bs) (bs ++ rest) ≡ bs = take_at bs rest (length bs) refl in
    let back : drop (length bs) (bs ++ rest) ≡ rest = drop_at bs rest (length bs) refl in
    rw (front, back) at begins

pub closed : (escaped : Bool) (text rest : List ℕ) → stays_open escaped text ≡ true → string_len escaped (text ++ 34 ∷ rest) ≡ Some (length text)
closed true [] rest h = absurd (cc)
closed false [] rest h = refl
closed escaped (b ∷ bs) rest h =
    let parts = and_parts (not (ends_string escaped b)) (stays_open (escapes escaped b) bs) h in
    rw (not-true (ends_string escaped b) parts.0, closed (escapes escaped b) bs rest parts.1) refl

quoted_begins : (text rest : List ℕ) → stays_open false text ≡ true → Begins (34 ∷ (text ++ 34 ∷ rest)) (Quoted text) rest
quoted_begins text rest h =
    let len = closed false text rest h in
    let front : take (length text) (text ++ 34 ∷ rest) ≡ text = take_at text (34 ∷ rest) (length text) refl in
    let split : (text ++ 34 ∷ []) ++ rest ≡ text ++ 34 ∷ rest = append_assoc text (34 ∷ []) rest in
    let one : length text + 1 ≡ length (text ++ 34 ∷ []) = sym (length-append text (34 ∷ [])) in
    let back : drop (length text + 1) (text ++ 34 ∷ rest) ≡ rest = ap (drop (length text + 1)) (sym split) ∙ drop_at (text ++ 34 ∷ []) rest (length text + 1) (sym one) in
    let token : quoted (string_len false (text ++ 34 ∷ rest)) (text ++ 34 ∷ rest) ≡ Quoted text = rw (len, front) refl in
    let behind : tokens_in InString (text ++ 34 ∷ rest) ≡ tokens_in Between rest = behind_closed (length text) (text ++ 34 ∷ rest) (sym len) ∙ ap (tokens_in Between) back in
    string_front 34 (34 ∷ (text ++ 34 ∷ rest)) (text ++ 34 ∷ rest) (Quoted text) rest refl refl token behind

one_less : (o : Option ℕ) (n : ℕ) → option_map (λ k. suc k) o ≡ Some n → (m : ℕ) × (o ≡ Some m) × (suc m ≡ n)
one_less None n e = absurd (cc)
one_less (Some m) n e = (m, refl, same (suc m) n e)
  where
    same : (i j : ℕ) → Some i ≡ Some j → i ≡ j
    same i j e = cc

-- the bytes of a string, and the quote after them
pub record Closed (escaped : Bool) (n : ℕ) (bs : List ℕ) : Type 0 where
  pub stays : stays_open escaped (take n bs) ≡ true
  pub split : bs ≡ take n bs ++ 34 ∷ drop (suc n) bs

closed_here : (escaped : Bool) (b : ℕ) (bs : List ℕ) → ends_string escaped b ≡ true → Closed escaped 0 (b ∷ bs)
closed_here escaped b bs h =
    let parts = and_parts (not escaped) (nat_eq b 34) h in
    record { stays = parts.0; split = ap (λ (c : ℕ). c ∷ bs) (eqb-true b 34 parts.1) }

closed_behind : (escaped : Bool) (b n : ℕ) (bs : List ℕ) → ends_string escaped b ≡ false → Closed (escapes escaped b) n bs → Closed escaped (suc n) (b ∷ bs)
closed_behind escaped b n bs h closed = record { stays = rw h closed.stays; split = ap (λ (l : List ℕ). b ∷ l) closed.split }

first_none : (n : ℕ) → Some 0 ≡ Some n → 0 ≡ n
first_none n e = cc

pub closed_at : (escaped : Bool) (n : ℕ) (bs : List ℕ) → string_len escaped bs ≡ Some n → Closed escaped n bs
closed_at escaped n [] e = absurd (cc)
closed_at escaped n (b ∷ bs) e =
    elim (cases_Bool (ends_string escaped b)) [
      | inl here ↦ subst (λ (k : ℕ). Closed escaped k (b ∷ bs)) (first_none n (rw here at e)) (closed_here escaped b bs here)
      | inr behind ↦
          let less = one_less (string_len (escapes escaped b) bs) n (rw behind at e) in
          subst (λ (k : ℕ). Closed escaped k (b ∷ bs)) less.2 (closed_behind escaped b less.0 bs behind (closed_at (escapes escaped b) less.0 bs less.1))
    ]

never_ends : (bytes : List ℕ) → ((text behind : List ℕ) → bytes ≡ text ++ 34 ∷ behind → stays_open false text ≡ false) → (len : Option ℕ) → string_len false bytes ≡ len → string_len false bytes ≡ None
never_ends bytes none None e = e
never_ends bytes none (Some n) e =
    let found = closed_at false n bytes e in
    absurd (true≢false (sym found.stays ∙ none (take n bytes) (drop (suc n) bytes) found.split))

pub mark_begins : (b : ℕ) (bytes : List ℕ) → is_run_byte b ≡ false → is_space b ≡ false → opens_comment b bytes ≡ false → (b ≡ 37 → ⊥) → (b ≡ 34 → ⊥) → Begins (b ∷ bytes) (Mark b) bytes
mark_begins b bytes h visible opens percent quote = mark_front b (b ∷ bytes) bytes refl h (ne_eqb b 37 percent) (ne_eqb b 34 quote) (rw (visible, opens) refl)

pub spelled : (bytes : List ℕ) (tokens : List SourceToken) → SpellsLine bytes tokens → tokens_in Between bytes ≡ tokens
spelled _ _ nothing = refl
spelled _ _ (blank b bytes tokens h s) = sym (blank_step b (b ∷ bytes) bytes refl h) ∙ spelled bytes tokens s
spelled _ _ (sharp_comment comment) = comment_step 35 (35 ∷ comment) comment refl refl
spelled _ _ (slash_comment comment) = comment_step 47 (47 ∷ 47 ∷ comment) (47 ∷ comment) refl refl
spelled _ _ (run b bs bytes tokens h e s) = after_token (b ∷ (bs ++ bytes)) bytes (Run (b ∷ bs)) tokens (run_begins b bs bytes h e) (spelled bytes tokens s)
spelled _ _ (percent_run bs bytes tokens h e s) = after_token (37 ∷ (bs ++ bytes)) bytes (Percent bs) tokens (percent_begins bs bytes h e) (spelled bytes tokens s)
spelled _ _ (in_quotes text bytes tokens h s) = after_token (34 ∷ (text ++ 34 ∷ bytes)) bytes (Quoted text) tokens (quoted_begins text bytes h) (spelled bytes tokens s)
spelled _ _ (unended bytes none) =
    let no_end : string_len false bytes ≡ None = never_ends bytes none (string_len false bytes) refl in
    string_front 34 (34 ∷ bytes) bytes Wrong [] refl refl (rw no_end refl) (behind_open bytes (sym no_end))
spelled _ _ (mark b bytes tokens h visible opens percent quote s) = after_token (b ∷ bytes) bytes (Mark b) tokens (mark_begins b bytes h visible opens percent quote) (spelled bytes tokens s)
