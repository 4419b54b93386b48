-- Bytes spell the tokens that they have, where no comment lacks its end.
use Rattle.std.proofs.Common.{◌≡◌, ◌≢◌, ℕ, zero, suc, ◌≤◌, Bool, true, false, cond, not, ◌&&◌, ◌||◌, ◌⊎◌, List, [], ◌∷◌, ◌++◌, length, drop, take, map, Option, Some, None, refl, sym, ap, subst, ◌∙◌, inl, inr, arith}
use Rattle.std.specs.Prelude.{nat_eq}
use Rattle.std.specs.List.{list_all, prefix_len, AllByRecursion}
use Rattle.std.proofs.lemmas.Bool.{cases_Bool, and_parts, eqb-true}
use Rattle.std.proofs.lemmas.List.{take-append-drop, length-drop}
use Rattle.brd_text.specs.Bytes.{is_run_byte, is_blank, begins_with}
use Rattle.brd_text.specs.Lines.{line_after}
use Rattle.brd_text.specs.Tokens.{Token, Placed, Text, Place, opens_comment, tokens_in, with_token, token_at, place_after, first, others}
use Rattle.brd_text.specs.Tokens.Token.{Run, Mark, Unclosed, End}
use Rattle.brd_text.specs.Tokens.Place.{Between, InRun, InLine, Opened, InBlock, Closing}
use Rattle.brd_text.specs.Gaps.{Begins}
use Rattle.brd_text.specs.Spelling.{has_closing, Spells, bare_tokens}
use Rattle.brd_text.specs.Spelling.Spells.{nothing, blank, line_comment, last_comment, block_comment, run, mark}
use Rattle.brd_text.proofs.Runs.{blank_step, line_comment_step, block_comment_step, newline_ends, no_run_byte, run_bytes, run_front, mark_front}

-- no comment lacks its end
abbrev pub AreClosed : List Token → Type 0
AreClosed tokens = AllByRecursion (λ token. token ≢ Unclosed) tokens

-- the tokens that a text of a line has
abbrev tokens_from : ℕ → List ℕ → List Token
tokens_from line bytes = bare_tokens (tokens_in Between line bytes)

-- what is to be shown of all bytes, of those that are at most n
abbrev AtMost : ℕ → Type 0
AtMost n = (line : ℕ) (bs : List ℕ) → length bs ≤ n → AreClosed (tokens_from line bs) → Spells bs (tokens_from line bs)

-- ---- the first token, and those after it

one_token : (token : Token) (line : ℕ) (t : Text) → first t ≡ record { token = token; line = line } → (token ≡ End → ⊥) → bare_tokens t ≡ token ∷ bare_tokens (others t)
one_token token line t e some = by_tokens t.tokens t.end e
  where
    by_tokens : (ps : List Placed) (end : ℕ) → first (record { tokens = ps; end = end }) ≡ record { token = token; line = line } → map (λ p. p.token) ps ≡ token ∷ map (λ p. p.token) (drop 1 ps)
    by_tokens [] end e = absurd (some (sym (ap (λ (p : Placed). p.token) e)))
    by_tokens (p ∷ ps) end e = ap (λ (q : Placed). q.token ∷ map (λ p. p.token) ps) e

begun : (token : Token) (line : ℕ) (text behind : List ℕ) → Begins text token behind → (token ≡ End → ⊥) → tokens_from line text ≡ token ∷ tokens_from line behind
begun token line text behind b some = one_token token line (tokens_in Between line text) (b.token line) some ∙ ap (λ (t : Text). token ∷ bare_tokens t) (b.rest line)

-- ---- comments to the end of the line

-- the comment goes on to the end of the text, or has an end
record LineComment (line : ℕ) (bs : List ℕ) : Type 0 where
  comment : List ℕ
  rest : List ℕ
  split : bs ≡ comment ++ 10 ∷ rest
  inside : list_all (λ b. not (nat_eq b 10)) comment ≡ true
  tokens : tokens_in InLine line bs ≡ tokens_in Between line (10 ∷ rest)

record LastComment (line : ℕ) (bs : List ℕ) : Type 0 where
  inside : list_all (λ b. not (nat_eq b 10)) bs ≡ true
  tokens : bare_tokens (tokens_in InLine line bs) ≡ []

line_cut : (line : ℕ) (bs : List ℕ) → LineComment line bs ⊎ LastComment line bs
line_cut line [] = inr (record { inside = refl; tokens = refl })
line_cut line (b ∷ bs) =
    elim (cases_Bool (nat_eq b 10)) [
      | inl ends ↦
          let same = eqb-true b 10 ends in
          inl (record { comment = []; rest = bs; split = ap (λ (c : ℕ). c ∷ bs) same; inside = refl; tokens = newline_ends line b (b ∷ bs) bs refl same ∙ ap (λ (c : ℕ). tokens_in Between line (c ∷ bs)) same })
      | inr stays ↦
          elim (line_cut line bs) [
            | inl cut ↦ inl (record { comment = b ∷ cut.comment; rest = cut.rest; split = ap (λ (cs : List ℕ). b ∷ cs) cut.split; inside = rw stays cut.inside; tokens = rw stays cut.tokens })
            | inr last ↦ inr (record { inside = rw stays last.inside; tokens = rw stays last.tokens })
          ]
    ]

-- ---- comments to */

record BlockComment (line : ℕ) (bs : List ℕ) : Type 0 where
  comment : List ℕ
  rest : List ℕ
  on : ℕ
  split : bs ≡ comment ++ 42 ∷ 47 ∷ rest
  inside : has_closing comment ≡ false
  tokens : tokens_in InBlock line bs ≡ tokens_in Between on rest

slash_behind : (bs rest : List ℕ) → begins_with 47 (bs ++ 42 ∷ 47 ∷ rest) ≡ begins_with 47 bs
slash_behind [] rest = refl
slash_behind (b ∷ bs) rest = refl

closed_here : (line b : ℕ) (bs : List ℕ) → (nat_eq b 42 && begins_with 47 bs) ≡ true → BlockComment line (b ∷ bs)
closed_here line b [] h = absurd (no_second (and_parts (nat_eq b 42) false h).1)
  where
    no_second : false ≡ true → ⊥
    no_second e = cc
closed_here line b (c ∷ bs) h =
    let parts = and_parts (nat_eq b 42) (nat_eq c 47) h in
    rw (eqb-true b 42 parts.0, eqb-true c 47 parts.1) (record { comment = []; rest = bs; on = line; split = refl; inside = refl; tokens = refl })

closed_behind : (line b : ℕ) (bs : List ℕ) → (nat_eq b 42 && begins_with 47 bs) ≡ false → BlockComment (line_after line b) bs → BlockComment line (b ∷ bs)
closed_behind line b bs h c =
    let inside : (nat_eq b 42 && begins_with 47 c.comment) ≡ false = ap (λ (x : Bool). nat_eq b 42 && x) (sym (slash_behind c.comment c.rest) ∙ ap (begins_with 47) (sym c.split)) ∙ h in
    record { comment = b ∷ c.comment; rest = c.rest; on = c.on; split = ap (λ (cs : List ℕ). b ∷ cs) c.split; inside = rw inside c.inside; tokens = rw h c.tokens }

block_cut : (line : ℕ) (bs : List ℕ) → BlockComment line bs ⊎ (bare_tokens (tokens_in InBlock line bs) ≡ Unclosed ∷ [])
block_cut line [] = inr refl
block_cut line (b ∷ bs) =
    elim (cases_Bool (nat_eq b 42 && begins_with 47 bs)) [
      | inl closes ↦ inl (closed_here line b bs closes)
      | inr inside ↦
          elim (block_cut (line_after line b) bs) [
            | inl cut ↦ inl (closed_behind line b bs inside cut)
            | inr unclosed ↦ inr (rw inside unclosed)
          ]
    ]

longer : (comment rest : List ℕ) → length rest ≤ length (comment ++ rest)
longer [] rest = omega arith
longer (b ∷ comment) rest = omega (arith, longer comment rest)

line_commented : (n line : ℕ) (bs : List ℕ) → AtMost n → length bs ≤ n → AreClosed (tokens_from line (47 ∷ 47 ∷ bs)) → Spells (47 ∷ 47 ∷ bs) (tokens_from line (47 ∷ 47 ∷ bs))
line_commented n line bs shorter le closed =
    let same = line_comment_step line 47 (47 ∷ 47 ∷ bs) (47 ∷ bs) bs refl refl refl in
    elim (line_cut line bs) [
      | inl cut ↦
          let tokens : tokens_from line (47 ∷ 47 ∷ bs) ≡ tokens_from line (10 ∷ cut.rest) = ap bare_tokens (sym same ∙ cut.tokens) in
          let rest = shorter line (10 ∷ cut.rest) (omega (arith, le, ap length cut.split, longer cut.comment (10 ∷ cut.rest))) (subst AreClosed tokens closed) in
          subst (λ (ws : List Token). Spells (47 ∷ 47 ∷ bs) ws) (sym tokens) (subst (λ (l : List ℕ). Spells (47 ∷ 47 ∷ l) (tokens_from line (10 ∷ cut.rest))) (sym cut.split) (line_comment cut.comment cut.rest (tokens_from line (10 ∷ cut.rest)) cut.inside rest))
      | inr last ↦ subst (λ (ws : List Token). Spells (47 ∷ 47 ∷ bs) ws) (sym (ap bare_tokens (sym same) ∙ last.tokens)) (last_comment bs last.inside)
    ]

block_commented : (n line : ℕ) (bs : List ℕ) → AtMost n → length bs ≤ n → AreClosed (tokens_from line (47 ∷ 42 ∷ bs)) → Spells (47 ∷ 42 ∷ bs) (tokens_from line (47 ∷ 42 ∷ bs))
block_commented n line bs shorter le closed =
    let same = block_comment_step line 47 (47 ∷ 42 ∷ bs) (42 ∷ bs) bs refl refl refl in
    elim (block_cut line bs) [
      | inl cut ↦
          let tokens : tokens_from line (47 ∷ 42 ∷ bs) ≡ tokens_from cut.on cut.rest = ap bare_tokens (sym same ∙ cut.tokens) in
          let rest = shorter cut.on cut.rest (omega (arith, le, ap length cut.split, longer cut.comment (42 ∷ 47 ∷ cut.rest))) (subst AreClosed tokens closed) in
          subst (λ (ws : List Token). Spells (47 ∷ 42 ∷ bs) ws) (sym tokens) (subst (λ (l : List ℕ). Spells (47 ∷ 42 ∷ l) (tokens_from cut.on cut.rest)) (sym cut.split) (block_comment cut.comment cut.rest (tokens_from cut.on cut.rest) cut.inside rest))
      | inr unclosed ↦ absurd ((subst AreClosed (ap bare_tokens (sym same) ∙ unclosed) closed).0 refl)
    ]

commented : (n line b : ℕ) (bs : List ℕ) → AtMost n → length bs ≤ n → opens_comment b bs ≡ true → AreClosed (tokens_from line (b ∷ bs)) → Spells (b ∷ bs) (tokens_from line (b ∷ bs))
commented n line b [] shorter le h closed = absurd (no_second (and_parts (nat_eq b 47) false h).1)
  where
    no_second : false ≡ true → ⊥
    no_second e = cc
commented n line b (c ∷ bs) shorter le h closed =
    let parts = and_parts (nat_eq b 47) (nat_eq c 47 || nat_eq c 42) h in
    let fewer : length bs ≤ n = omega (arith, le) in
    let P : ℕ → Type 0 = λ d. AreClosed (tokens_from line (d ∷ c ∷ bs)) → Spells (d ∷ c ∷ bs) (tokens_from line (d ∷ c ∷ bs)) in
    let Q : ℕ → Type 0 = λ d. AreClosed (tokens_from line (47 ∷ d ∷ bs)) → Spells (47 ∷ d ∷ bs) (tokens_from line (47 ∷ d ∷ bs)) in
    subst P (sym (eqb-true b 47 parts.0))
    (elim (cases_Bool (nat_eq c 47)) [
      | inl slash ↦ subst Q (sym (eqb-true c 47 slash)) (line_commented n line bs shorter fewer)
      | inr other ↦ subst Q (sym (eqb-true c 42 (rw other at parts.1))) (block_commented n line bs shorter fewer)
    ]) closed

-- ---- runs and marks

run_back : (n line b : ℕ) (bs : List ℕ) → AtMost n → length bs ≤ n → is_run_byte b ≡ true → AreClosed (tokens_from line (b ∷ bs)) → Spells (b ∷ bs) (tokens_from line (b ∷ bs))
run_back n line b bs shorter le h closed =
    let k = prefix_len is_run_byte bs in
    let len : suc k ≡ prefix_len is_run_byte (b ∷ bs) = rw h (omega arith) in
    let tokens : tokens_from line (b ∷ bs) ≡ Run (b ∷ take k bs) ∷ tokens_from line (drop k bs) = begun (Run (b ∷ take k bs)) line (b ∷ bs) (drop k bs) (run_front b (suc k) (b ∷ bs) bs refl h len) (λ e. cc) in
    let rest = shorter line (drop k bs) (omega (arith, length-drop k bs, le)) (subst AreClosed tokens closed).1 in
    let are : list_all is_run_byte (b ∷ take k bs) ≡ true = rw h (run_bytes bs) in
    subst (λ (ws : List Token). Spells (b ∷ bs) ws) (sym tokens)
    (subst (λ (l : List ℕ). Spells (b ∷ l) (Run (b ∷ take k bs) ∷ tokens_from line (drop k bs))) (take-append-drop k bs) (run b (take k bs) (drop k bs) (tokens_from line (drop k bs)) are (no_run_byte bs) rest))

mark_back : (n line b : ℕ) (bs : List ℕ) → AtMost n → length bs ≤ n → is_run_byte b ≡ false → is_blank b ≡ false → opens_comment b bs ≡ false → AreClosed (tokens_from line (b ∷ bs)) → Spells (b ∷ bs) (tokens_from line (b ∷ bs))
mark_back n line b bs shorter le h visible opens closed =
    let tokens : tokens_from line (b ∷ bs) ≡ Mark b ∷ tokens_from line bs = begun (Mark b) line (b ∷ bs) bs (mark_front b (b ∷ bs) bs refl h (rw (visible, opens) refl)) (λ e. cc) in
    subst (λ (ws : List Token). Spells (b ∷ bs) ws) (sym tokens) (mark b bs (tokens_from line bs) h visible opens (shorter line bs le (subst AreClosed tokens closed).1))

-- ---- all bytes

token_back : (n line b : ℕ) (bs : List ℕ) → AtMost n → length bs ≤ n → is_blank b ≡ false → opens_comment b bs ≡ false → AreClosed (tokens_from line (b ∷ bs)) → Spells (b ∷ bs) (tokens_from line (b ∷ bs))
token_back n line b bs shorter le visible opens closed =
    elim (cases_Bool (is_run_byte b)) [
      | inl is_one ↦ run_back n line b bs shorter le is_one closed
      | inr is_other ↦ mark_back n line b bs shorter le is_other visible opens closed
    ]

at_most : (n : ℕ) → AtMost n
at_most zero line [] le closed = nothing
at_most zero line (b ∷ bs) le closed = absurd (omega (arith, le))
at_most (suc n) line [] le closed = nothing
at_most (suc n) line (b ∷ bs) le closed =
    let fewer : length bs ≤ n = omega (arith, le) in
    elim (cases_Bool (is_blank b)) [
      | inl is_one ↦
          let same = ap bare_tokens (blank_step line b (b ∷ bs) bs refl is_one) in
          subst (λ (ws : List Token). Spells (b ∷ bs) ws) same (blank b bs (tokens_from (line_after line b) bs) is_one (at_most n (line_after line b) bs fewer (subst AreClosed (sym same) closed)))
      | inr visible ↦
          elim (cases_Bool (opens_comment b bs)) [
            | inl opens ↦ commented n line b bs (λ line bs le closed. at_most n line bs le closed) fewer opens closed
            | inr a_token ↦ token_back n line b bs (λ line bs le closed. at_most n line bs le closed) fewer visible a_token closed
          ]
    ]

pub spelled_back : (line : ℕ) (bytes : List ℕ) → AreClosed (bare_tokens (tokens_in Between line bytes)) → Spells bytes (bare_tokens (tokens_in Between line bytes))
spelled_back line bytes closed = at_most (length bytes) line bytes (omega arith) closed

-- ---- no token stands for the end

abbrev pub AreTokens : List Token → Type 0
AreTokens tokens = AllByRecursion (λ token. token ≢ End) tokens

abbrev IsNoEnd : Option Token → Type 0
IsNoEnd None = Unit {0}
IsNoEnd (Some token) = token ≢ End

run_or_mark : (is_run is_gap : Bool) (bytes : List ℕ) (b : ℕ) → IsNoEnd (cond is_run (Some (Run bytes)) (cond is_gap None (Some (Mark b))))
run_or_mark true is_gap bytes b = λ e. cc
run_or_mark false true bytes b = tt
run_or_mark false false bytes b = λ e. cc

only_mark : (is_run is_gap : Bool) (b : ℕ) → IsNoEnd (cond is_run None (cond is_gap None (Some (Mark b))))
only_mark true is_gap b = tt
only_mark false true b = tt
only_mark false false b = λ e. cc

no_end : (place : Place) (b : ℕ) (bs : List ℕ) → IsNoEnd (token_at place b bs)
no_end Between b bs = run_or_mark (is_run_byte b) (is_blank b || opens_comment b bs) _ b
no_end InRun b bs = only_mark (is_run_byte b) (is_blank b || opens_comment b bs) b
no_end InLine b bs = tt
no_end Opened b bs = tt
no_end InBlock b bs = tt
no_end Closing b bs = tt

one_more : (token : Option Token) (line : ℕ) (t : Text) → IsNoEnd token → AreTokens (bare_tokens t) → AreTokens (bare_tokens (with_token token line t))
one_more None line t is are = are
one_more (Some token) line t is are = (is, are)

pub are_tokens : (place : Place) (line : ℕ) (bs : List ℕ) → AreTokens (bare_tokens (tokens_in place line bs))
are_tokens Between line [] = tt
are_tokens InRun line [] = tt
are_tokens InLine line [] = tt
are_tokens Opened line [] = ((λ e. cc), tt)
are_tokens InBlock line [] = ((λ e. cc), tt)
are_tokens Closing line [] = ((λ e. cc), tt)
are_tokens place line (b ∷ bs) = one_more (token_at place b bs) line (tokens_in (place_after place b bs) (line_after line b) bs) (no_end place b bs) (are_tokens (place_after place b bs) (line_after line b) bs)
