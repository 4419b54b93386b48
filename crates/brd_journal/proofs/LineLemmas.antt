-- One line on in a text.
use Rattle.std.proofs.Common.{◌≡◌, ℕ, ◌+◌, List, [], ◌∷◌, ◌++◌, refl, sym, ◌∙◌}
use Rattle.std.specs.Prelude.{Option, Some}
use Rattle.std.specs.List.{join_with_byte}
use Rattle.brd_word.specs.declared.order.Order.{Order}
use Rattle.brd_text.specs.Faults.{◌>>=◌, or_fault}
use Rattle.brd_text.specs.Lines.{lines_of, lines_behind}
use Rattle.brd_text.proofs.LineLemmas.{some_line, joined}
use Rattle.brd_journal.specs.declared.fault.JournalFault.TheVariants.{Syntax}
use Rattle.brd_journal.specs.Runs.{copies}
use Rattle.brd_journal.specs.Journal.{JournalState, appended}
use Rattle.brd_journal.specs.Reading.{order_of_line, run_of_line, lines_read, journal_of}

-- a text is its first line, a newline and the text after it
pub behind_line : (text line behind : List ℕ) → lines_of text ≡ line ∷ lines_of behind → text ≡ line ++ 10 ∷ behind
behind_line text line behind h =
    let some = some_line behind in
    let whole : join_with_byte 10 (line ∷ lines_of behind) ≡ text = rw h at (joined text) in
    let rest : join_with_byte 10 (some.0 ∷ some.1) ≡ behind = rw some.2 at (joined behind) in
    sym whole ∙ rw (some.2, rest) refl

-- the reading of a line after which there is another
pub one_line : (j : JournalState) (n : ℕ) (line after : List ℕ)
    → lines_read j n (line ∷ lines_of after) ≡ (or_fault (Syntax n) (run_of_line line) >>= λ run. appended j (copies run.event run.count) >>= λ more. lines_read more (n + 1) (lines_of after))
one_line j n line after = let some = some_line after in rw some.2 refl

-- a text whose first line is right
pub behind_first : (limit : ℕ) (order : Order) (text line rest : List ℕ) (behind : Option (List ℕ)) → lines_of text ≡ line ∷ lines_behind behind → behind ≡ Some rest → order_of_line line ≡ Some order
    → journal_of limit text ≡ lines_read (record { limit = limit; order = order; events = [] }) 2 (lines_of rest)
unfolding journal_of
behind_first limit order text line rest behind lines more right =
    let some = some_line rest in
    rw (lines, more, some.2, right) refl
