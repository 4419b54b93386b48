-- The text that `words` reads: words of eight hexadecimal digits, with blanks or newlines between them, at most 16,384
-- (own choice).
use Rattle.std.specs.Prelude.{◌≡◌, ℕ, ◌-◌, ◌==◌, Bool, true, false, not, if◌then◌else◌, List, [], ◌∷◌, ◌++◌, take_while}
use Rattle.std.specs.Prelude.{Option, Some, None, Result, Ok, Err}
use Rattle.brd_text.specs.Bytes.{is_blank}
use Rattle.brd_text.specs.Hex.{hex_word_of}
use Rattle.brd_text.specs.Lines.{line_after}
use Rattle.brd_inputs.specs.declared.words_fault.WordsFault.{WordsFault}
use Rattle.brd_inputs.specs.declared.words_fault.WordsFault.TheVariants.{NoMemory, Syntax, TooMany}

-- bytes without a blank among them, and their line, counted from 1
pub record Run : Type 0 where
  pub line : ℕ
  pub bytes : List ℕ

-- a byte of a run
abbrev pub in_run : ℕ → Bool
in_run byte = not (is_blank byte)

-- The runs of a text, from a line on. A run begins at a byte that isn't blank and follows none that isn't; it goes on
-- as long as no blank comes.
abbrev pub runs_from : Bool → ℕ → List ℕ → List Run
runs_from inside line [] = []
runs_from inside line (byte ∷ bytes) =
    if is_blank byte then runs_from false (line_after line byte) bytes
    else (if inside then runs_from true line bytes
    else record { line = line; bytes = take_while in_run (byte ∷ bytes) } ∷ runs_from true line bytes)

-- a word in front of those that were read
abbrev pub with_front : List ℕ → Result (List ℕ) WordsFault → Result (List ℕ) WordsFault
with_front front (Ok words) = Ok (front ++ words)
with_front front (Err fault) = Err fault

-- what a run gives, where there is room for n words: its word, or its fault
abbrev pub word_or_fault : ℕ → ℕ → Option ℕ → Result ℕ WordsFault
word_or_fault room line None = Err (Syntax line)
word_or_fault room line (Some word) = if room == 0 then Err TooMany else Ok word

-- a word in front of the others, or the first fault of both
abbrev pub with_word : Result ℕ WordsFault → Result (List ℕ) WordsFault → Result (List ℕ) WordsFault
with_word (Ok word) others = with_front (word ∷ []) others
with_word (Err fault) others = Err fault

-- the words of the runs, where there is room for n; or the first fault
abbrev pub words_of_runs : ℕ → List Run → Result (List ℕ) WordsFault
words_of_runs room [] = Ok []
words_of_runs room (run ∷ runs) =
    with_word (word_or_fault room run.line (hex_word_of run.bytes)) (words_of_runs (room - 1) runs)

-- the words of a text, or its first fault
abbrev pub words_of_text : List ℕ → Result (List ℕ) WordsFault
words_of_text text = words_of_runs 16384 (runs_from false 1 text)

-- A fault is the text's, but for lack of memory.
abbrev pub IsFaultOf : Result (List ℕ) WordsFault → WordsFault → Type 0
IsFaultOf read NoMemory = Unit {0}
IsFaultOf read (Syntax line) = read ≡ Err (Syntax line)
IsFaultOf read TooMany = read ≡ Err TooMany
