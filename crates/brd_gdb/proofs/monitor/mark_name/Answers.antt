use Rattle.std.proofs.Common.{◌≡◌, ℕ, zero, suc, ◌-◌, ◌++◌, true, List, length, drop, replicate, sym, ap, ◌∙◌, arith}
use Rattle.std.specs.Prelude.{Some}
use Rattle.brd_gdb.specs.declared.request.MarkName.{MarkName}
use Rattle.brd_gdb.specs.Reading.{is_mark_name, mark_name_of}
use Rattle.brd_gdb.proofs.monitor.mark_name.Goals as goal

abbrev zeros : ℕ → List ℕ
zeros n = replicate n 0

zeros-left : (n k : ℕ) → drop n (zeros k) ≡ zeros (k - n)
zeros-left zero k = let all : k ≡ k - 0 = omega arith in ap zeros all
zeros-left (suc n) zero = let none : 0 ≡ 0 - suc n = omega arith in ap zeros none
zeros-left (suc n) (suc k) = let less : k - n ≡ suc k - suc n = omega arith in zeros-left n k ∙ ap zeros less

abbrev named : List ℕ → MarkName
named bytes = record { bytes = bytes }

-- a name, with zeros behind it
made : (text copied rest : List ℕ) → is_mark_name text ≡ true → copied ≡ text → rest ≡ zeros (31 - length text) →
    Some (named (copied ++ rest)) ≡ mark_name_of text
made text copied rest so same left = rw so (ap (λ xs. Some (named (xs ++ rest))) same ∙ ap (λ xs. Some (named (text ++ xs))) left)

pub returns : goal.returns
returns c =
    made c.args.text.now c.copy_from_slice.new.self _ (sym c.is_mark_name.ensures ∙ c.if-not-is_mark_name.false)
    c.copy_from_slice.ensures.after (zeros-left (length c.args.text.now) 31)
