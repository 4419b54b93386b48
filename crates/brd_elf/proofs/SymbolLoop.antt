-- Keeping one symbol after the other, as a loop does.
use Rattle.std.proofs.Common.{◌≡◌, ℕ, suc, ◌+◌, ◌-◌, ◌<◌, ◌≤◌, List, drop, Result, Ok, Err, refl, sym, ◌∙◌, arith}
use Rattle.brd_word.specs.declared.order.Order.{Order}
use Rattle.brd_mem.specs.declared.image.Symbol.{Symbol}
use Rattle.brd_elf.specs.declared.fault.ElfFault.{ElfFault}
use Rattle.brd_elf.specs.declared.symbols.Entry.{Entry}
use Rattle.brd_text.specs.Faults.{◌>>=◌, Fails}
use Rattle.brd_elf.specs.Faults.{is_no_memory}
use Rattle.brd_elf.proofs.FaultLemmas.{passed_on}
use Rattle.brd_elf.specs.Symbols.{entry_at, kept, kept_from}

one_more : (order : Order) (file strings : List ℕ) (at count i : ℕ) (symbols : List Symbol) → i < count
    → kept_from order file strings at (count - i) symbols ≡ (kept strings at (entry_at order (drop at file)) symbols >>= λ more. kept_from order file strings (at + 16) (count - (i + 1)) more)
unfolding kept_from
one_more order file strings at count i symbols lt =
    let k : count - i ≡ suc (count - (i + 1)) = omega arith in
    rw k refl

pub goes_on : (order : Order) (file strings : List ℕ) (at count i : ℕ) (symbols more : List Symbol) (total : Result (List Symbol) ElfFault) → i < count
    → kept strings at (entry_at order (drop at file)) symbols ≡ Ok more
    → kept_from order file strings at (count - i) symbols ≡ total → kept_from order file strings (at + 16) (count - (i + 1)) more ≡ total
goes_on order file strings at count i symbols more total lt step so_far =
    let e = one_more order file strings at count i symbols lt in
    let g : (kept strings at (entry_at order (drop at file)) symbols >>= λ more. kept_from order file strings (at + 16) (count - (i + 1)) more) ≡ kept_from order file strings (at + 16) (count - (i + 1)) more = rw step refl in
    sym g ∙ sym e ∙ so_far

pub ends : (f : ElfFault) (order : Order) (file strings : List ℕ) (at count i : ℕ) (symbols : List Symbol) (total : Result (List Symbol) ElfFault) → i < count
    → Fails is_no_memory f (kept strings at (entry_at order (drop at file)) symbols)
    → kept_from order file strings at (count - i) symbols ≡ total → Fails is_no_memory f total
ends f order file strings at count i symbols total lt fails so_far =
    passed_on f (kept strings at (entry_at order (drop at file)) symbols) total fails
    (λ step. let e = one_more order file strings at count i symbols lt in
    let g : (kept strings at (entry_at order (drop at file)) symbols >>= λ more. kept_from order file strings (at + 16) (count - (i + 1)) more) ≡ Err f = rw step refl in
    sym so_far ∙ e ∙ g)

pub is_done : (order : Order) (file strings : List ℕ) (at count i : ℕ) (symbols : List Symbol) (total : Result (List Symbol) ElfFault) → count ≤ i
    → kept_from order file strings at (count - i) symbols ≡ total → total ≡ Ok symbols
unfolding kept_from
is_done order file strings at count i symbols total le so_far =
    let k : count - i ≡ 0 = omega arith in
    let g : kept_from order file strings at (count - i) symbols ≡ Ok symbols = rw k refl in
    sym so_far ∙ g

-- the same, where a step was made with copies of the strings and of the entry
pub goes_on_copied : (order : Order) (file strings own : List ℕ) (at count i : ℕ) (entry : Entry) (symbols more : List Symbol) (total : Result (List Symbol) ElfFault) → own ≡ strings → entry ≡ entry_at order (drop at file)
    → i < count → kept own at entry symbols ≡ Ok more
    → kept_from order file strings at (count - i) symbols ≡ total → kept_from order file strings (at + 16) (count - (i + 1)) more ≡ total
goes_on_copied order file strings own at count i entry symbols more total same read lt step so_far =
    goes_on order file strings at count i symbols more total lt (rw (same, read) at step) so_far

pub ends_copied : (f : ElfFault) (order : Order) (file strings own : List ℕ) (at count i : ℕ) (entry : Entry) (symbols : List Symbol) (total : Result (List Symbol) ElfFault) → own ≡ strings → entry ≡ entry_at order (drop at file)
    → i < count → Fails is_no_memory f (kept own at entry symbols)
    → kept_from order file strings at (count - i) symbols ≡ total → Fails is_no_memory f total
ends_copied f order file strings own at count i entry symbols total same read lt fails so_far =
    ends f order file strings at count i symbols total lt (rw (same, read) at fails) so_far
