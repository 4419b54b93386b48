-- One line on in the text of a script.
use Rattle.std.proofs.Common.{◌≡◌, ℕ, ◌+◌, List, ◌∷◌, refl, sym, ap, ◌∙◌}
use Rattle.std.specs.Prelude.{Option, Some, Result, Ok, Err}
use Rattle.brd_text.specs.Faults.{◌>>=◌, or_fault, Fails}
use Rattle.brd_text.specs.Lines.{lines_of, lines_behind}
use Rattle.brd_text.proofs.FaultLemmas.{passed_on}
use Rattle.brd_text.proofs.LineLemmas.{some_line}
use Rattle.brd_threads.specs.declared.fault.ScriptFault.{ScriptFault}
use Rattle.brd_threads.specs.declared.fault.ScriptFault.TheVariants.{Syntax}
use Rattle.brd_threads.specs.declared.outer.Outer.{Outer}
use Rattle.brd_threads.specs.Faults.{is_no_memory}
use Rattle.brd_threads.specs.Script.{with_line, lines_read}

-- what is left comes to `total`
pub record At (script : List Outer) (n : ℕ) (rest line : List ℕ) (behind : Option (List ℕ)) (total : Result (List Outer) ScriptFault) : Type 0 where
  pub lines : lines_of rest ≡ line ∷ lines_behind behind
  pub so_far : lines_read script n (lines_of rest) ≡ total

pub at_of : (script : List Outer) (n : ℕ) (rest line : List ℕ) (behind : Option (List ℕ)) (total : Result (List Outer) ScriptFault)
    → lines_of rest ≡ line ∷ lines_behind behind → lines_read script n (lines_of rest) ≡ total → At script n rest line behind total
at_of script n rest line behind total lines so_far = record { lines = lines; so_far = so_far }

-- the reading of a line after which there is another
one_line : (script : List Outer) (n : ℕ) (line after : List ℕ)
    → lines_read script n (line ∷ lines_of after) ≡ (or_fault (Syntax n) (with_line script line) >>= λ more. lines_read more (n + 1) (lines_of after))
one_line script n line after = let some = some_line after in rw some.2 refl

by_line : (script : List Outer) (n : ℕ) (rest line after : List ℕ) (behind : Option (List ℕ)) (total : Result (List Outer) ScriptFault)
    → At script n rest line behind total → behind ≡ Some after
    → (or_fault (Syntax n) (with_line script line) >>= λ more. lines_read more (n + 1) (lines_of after)) ≡ total
by_line script n rest line after behind total at more =
    let f : lines_read script n (line ∷ lines_behind behind) ≡ lines_read script n (line ∷ lines_of after) = rw more refl in
    sym (one_line script n line after) ∙ sym f ∙ sym (ap (lines_read script n) at.lines) ∙ at.so_far

pub goes_on : (script more : List Outer) (n : ℕ) (rest line after : List ℕ) (behind : Option (List ℕ)) (total : Result (List Outer) ScriptFault)
    → At script n rest line behind total → behind ≡ Some after → or_fault (Syntax n) (with_line script line) ≡ Ok more
    → lines_read more (n + 1) (lines_of after) ≡ total
goes_on script more n rest line after behind total at some ok =
    let f : (or_fault (Syntax n) (with_line script line) >>= λ more. lines_read more (n + 1) (lines_of after)) ≡ lines_read more (n + 1) (lines_of after) = rw ok refl in
    sym f ∙ by_line script n rest line after behind total at some

pub line_fails : (script : List Outer) (n : ℕ) (rest line after : List ℕ) (behind : Option (List ℕ)) (e : ScriptFault) (total : Result (List Outer) ScriptFault)
    → At script n rest line behind total → behind ≡ Some after → Fails is_no_memory e (or_fault (Syntax n) (with_line script line)) → Fails is_no_memory e total
line_fails script n rest line after behind e total at some fails =
    passed_on is_no_memory e (or_fault (Syntax n) (with_line script line)) total fails (λ h.
    let f : (or_fault (Syntax n) (with_line script line) >>= λ more. lines_read more (n + 1) (lines_of after)) ≡ Err e = rw h refl in
    sym (by_line script n rest line after behind total at some) ∙ f)
