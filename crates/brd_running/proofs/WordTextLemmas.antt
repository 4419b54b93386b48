-- One turn of the loop over a text: it takes a run, and what is left begins after it.
use Rattle.std.proofs.Common.{◌≡◌, ℕ, ◌+◌, ◌-◌, ◌<◌, List, [], ◌∷◌, ◌++◌, length, take, drop, suc, refl, ap, sym, ◌∙◌, arith, append_assoc, length-append}
use Rattle.std.specs.Prelude.{Bool, true, false, Option, Some, None, Result, Ok, Err}
use Rattle.std.specs.List.{prefix_len}
use Rattle.std.proofs.lemmas.Bool.Decides.{nat_tests}
use Rattle.std.proofs.lemmas.Grind.{common_steps}
use Rattle.brd_text.specs.Bytes.{is_blank}
use Rattle.brd_text.specs.Hex.{hex_word_of}
use Rattle.brd_running.specs.WordText.{in_run, runs_from, words_of_runs, with_front, with_word, word_or_fault}
use Rattle.brd_inputs.specs.declared.words_fault.WordsFault.{WordsFault}

-- a run goes on up to its first other byte
behind_by : (blank : Bool) (line byte : ℕ) (bytes : List ℕ) → is_blank byte ≡ blank →
    runs_from true line bytes ≡ runs_from false line (drop (prefix_len in_run bytes) bytes) →
    runs_from true line (byte ∷ bytes) ≡ runs_from false line (drop (prefix_len in_run (byte ∷ bytes)) (byte ∷ bytes))
behind_by true line byte bytes e again = rw e (rw e refl)
behind_by false line byte bytes e again =
    let one : 1 + prefix_len in_run bytes ≡ suc (prefix_len in_run bytes) = omega arith in
    rw e (rw one again)

runs-behind : (line : ℕ) (bytes : List ℕ) → runs_from true line bytes ≡ runs_from false line (drop (prefix_len in_run bytes) bytes)
runs-behind line [] = refl
runs-behind line (byte ∷ bytes) = behind_by (is_blank byte) line byte bytes refl (runs-behind line bytes)

-- a text that begins with no blank begins with a run
runs-begin : (line byte : ℕ) (rest left : List ℕ) → left ≡ byte ∷ rest → is_blank byte ≡ false →
    runs_from false line left
    ≡ record { line = line; bytes = take (prefix_len in_run left) left } ∷ runs_from false line (drop (prefix_len in_run left) left)
runs-begin line byte rest left e word =
    let one : 1 + prefix_len in_run rest ≡ suc (prefix_len in_run rest) = omega arith in
    let behind = runs-behind line rest in
    rw (e, word) (rw one (cc behind))

with_front-with_front : (front more : List ℕ) (read : Result (List ℕ) WordsFault) →
    with_front front (with_front more read) ≡ with_front (front ++ more) read
with_front-with_front front more (Ok words) = ap Ok (sym (append_assoc front more words))
with_front-with_front front more (Err fault) = refl

-- there is room for a word that was read
pub room_for : (room line : ℕ) (found : Option ℕ) (word : ℕ) → word_or_fault room line found ≡ Ok word → 0 < room
room_for room line None word e = let wrong : ⊥ = cc in absurd wrong
room_for room line (Some value) word e = grind (arith, nat_tests, common_steps)

pub turn : (line byte word len : ℕ) (rest left words : List ℕ) (total : Result (List ℕ) WordsFault) →
    left ≡ byte ∷ rest → is_blank byte ≡ false → len ≡ prefix_len in_run left →
    word_or_fault (16384 - length words) line (hex_word_of (take len left)) ≡ Ok word →
    with_front words (words_of_runs (16384 - length words) (runs_from false line left)) ≡ total →
    with_front (words ++ word ∷ []) (words_of_runs (16384 - length (words ++ word ∷ [])) (runs_from false line (drop len left))) ≡ total
turn line byte word len rest left words total e not_blank measured read so_far =
    let begins = runs-begin line byte rest left e not_blank in
    let room : 16384 - length (words ++ word ∷ []) ≡ 16384 - length words - 1 = omega (arith, length-append words (word ∷ [])) in
    let regrouped = with_front-with_front words (word ∷ []) (words_of_runs (16384 - length words - 1) (runs_from false line (drop len left))) in
    let this : with_word (word_or_fault (16384 - length words) line (hex_word_of (take len left))) (words_of_runs (16384 - length words - 1) (runs_from false line (drop len left)))
    ≡ with_front (word ∷ []) (words_of_runs (16384 - length words - 1) (runs_from false line (drop len left)))
    = rw read refl in
    let first : runs_from false line left ≡ record { line = line; bytes = take len left } ∷ runs_from false line (drop len left) = rw measured begins in
    rw room
    (sym regrouped ∙ ap (λ read. with_front words read) (sym this)
    ∙ ap (λ runs. with_front words (words_of_runs (16384 - length words) runs)) (sym first) ∙ so_far)
