-- What stands at the front of the lines of a journal.
use Rattle.std.proofs.Common.{◌≡◌, ℕ, ◌+◌, ◌≤◌, ◌<◌, List, [], ◌∷◌, ◌++◌, length, Bor, refl, sym, ap, ◌∙◌, arith}
use Rattle.std.specs.Prelude.{Option, Some, None}
use Rattle.std.proofs.lemmas.Fmt.{decimal_digit}
use Rattle.brd_text.specs.Lines.{lines_of, lines_behind}
use Rattle.brd_board.specs.declared.event.Event.TheVariants.{Step}
use Rattle.brd_journal.specs.declared.reading.Front.TheVariants.{Line, Wrong}
use Rattle.brd_journal.specs.declared.run.Run.{Run}
use Rattle.brd_journal.specs.Text.{line_text, CanBeSpelled}
use Rattle.brd_journal.specs.Reading.{run_of_line, lines_read}
use Rattle.brd_journal.specs.Front.{IsFront}
use Rattle.brd_journal.proofs.EventLemmas.{run_of}
use Rattle.brd_journal.proofs.FieldLemmas.{line_again}
use Rattle.brd_journal.proofs.LineLemmas.{one_line}
use Rattle.brd_journal.proofs.GrammarLemmas.{lines_front, line_stays}

-- ---- a front by the first line

by_line : (text line after : List ℕ) (behind : Option (List ℕ)) → lines_of text ≡ line ∷ lines_behind behind → behind ≡ Some after → lines_of text ≡ line ∷ lines_of after
by_line text line after behind lines more = lines ∙ rw more refl

pub front_line : (text line : List ℕ) (after : Bor (List ℕ)) (behind : Option (List ℕ)) (run : Run) → lines_of text ≡ line ∷ lines_behind behind → behind ≡ Some after.now → Some run ≡ run_of_line line → IsFront text (Line run after)
front_line text line after behind run lines more some = λ j n.
    ap (lines_read j n) (by_line text line after.now behind lines more) ∙ one_line j n line after.now ∙ rw (sym some) refl

pub front_wrong : (text line after : List ℕ) (behind : Option (List ℕ)) → lines_of text ≡ line ∷ lines_behind behind → behind ≡ Some after → None ≡ run_of_line line → IsFront text Wrong
front_wrong text line after behind lines more none = λ j n.
    ap (lines_read j n) (by_line text line after behind lines more) ∙ one_line j n line after ∙ rw (sym none) refl

-- the line of a step with two digits
pub front_short : (cpu count : ℕ) (after : Bor (List ℕ)) → cpu ≤ 9 → 1 ≤ count → count ≤ 9 → IsFront (83 ∷ 32 ∷ (48 + cpu) ∷ 32 ∷ (48 + count) ∷ 10 ∷ after.now) (Line (run_of (Step cpu) count) after)
front_short cpu count after few some most = λ j number.
    let run : Run = run_of (Step cpu) count in
    let can : CanBeSpelled run = record { numbered = omega (arith, few); least = some; most = omega (arith, most) } in
    let line : line_text run ≡ 83 ∷ 32 ∷ (48 + cpu) ∷ 32 ∷ (48 + count) ∷ [] =
    rw (decimal_digit cpu (omega (arith, few)), decimal_digit count (omega (arith, most))) refl in
    let lines : lines_of (83 ∷ 32 ∷ (48 + cpu) ∷ 32 ∷ (48 + count) ∷ 10 ∷ after.now) ≡ line_text run ∷ lines_of after.now =
    ap (λ (bytes : List ℕ). lines_of (bytes ++ 10 ∷ after.now)) (sym line) ∙ lines_front (line_text run) after.now (line_stays run can) in
    ap (lines_read j number) lines ∙ one_line j number (line_text run) after.now ∙ rw (line_again run can) refl

-- the same, byte by byte
pub front_bytes : (text blank fields second counted end : List ℕ) (cpu count : ℕ) (after : Bor (List ℕ)) → text ≡ 83 ∷ blank → blank ≡ 32 ∷ fields → fields ≡ (48 + cpu) ∷ second → second ≡ 32 ∷ counted
    → counted ≡ (48 + count) ∷ end → end ≡ 10 ∷ after.now → cpu ≤ 9 → 49 ≤ 48 + count → count ≤ 9 → IsFront text (Line (run_of (Step cpu) count) after)
front_bytes text blank fields second counted end cpu count after a b c d e f few some most =
    rw (a, b, c, d, e, f) (front_short cpu count after few (omega (arith, some)) most)

pub bytes_shorter : (text blank fields second counted end : List ℕ) (cpu count : ℕ) (after : List ℕ) → text ≡ 83 ∷ blank → blank ≡ 32 ∷ fields → fields ≡ (48 + cpu) ∷ second → second ≡ 32 ∷ counted
    → counted ≡ (48 + count) ∷ end → end ≡ 10 ∷ after → length after < length text
bytes_shorter text blank fields second counted end cpu count after a b c d e f = rw (a, b, c, d, e, f) (omega arith)
