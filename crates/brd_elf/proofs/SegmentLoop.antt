-- Loading one program header after the other, as a loop does.
use Rattle.std.proofs.Common.{◌≡◌, ℕ, suc, ◌+◌, ◌-◌, ◌<◌, ◌≤◌, List, drop, Result, Ok, Err, refl, sym, ◌∙◌, arith}
use Rattle.brd_word.specs.declared.order.Order.{Order}
use Rattle.brd_mem.specs.declared.image.Segment.{Segment}
use Rattle.brd_elf.specs.declared.fault.ElfFault.{ElfFault}
use Rattle.brd_text.specs.Faults.{◌>>=◌, Fails}
use Rattle.brd_elf.specs.Faults.{is_no_memory}
use Rattle.brd_elf.proofs.FaultLemmas.{passed_on}
use Rattle.brd_elf.specs.Segments.{program_header_at, loaded, loaded_from}

one_more : (order : Order) (file : List ℕ) (at count i : ℕ) (segments : List Segment) → i < count
    → loaded_from order file at (count - i) segments ≡ (loaded file at (program_header_at order (drop at file)) segments >>= λ more. loaded_from order file (at + 32) (count - (i + 1)) more)
unfolding loaded_from
one_more order file at count i segments lt =
    let k : count - i ≡ suc (count - (i + 1)) = omega arith in
    rw k refl

pub goes_on : (order : Order) (file : List ℕ) (at count i : ℕ) (segments more : List Segment) (total : Result (List Segment) ElfFault) → i < count
    → loaded file at (program_header_at order (drop at file)) segments ≡ Ok more
    → loaded_from order file at (count - i) segments ≡ total → loaded_from order file (at + 32) (count - (i + 1)) more ≡ total
goes_on order file at count i segments more total lt step so_far =
    let e = one_more order file at count i segments lt in
    let g : (loaded file at (program_header_at order (drop at file)) segments >>= λ more. loaded_from order file (at + 32) (count - (i + 1)) more) ≡ loaded_from order file (at + 32) (count - (i + 1)) more = rw step refl in
    sym g ∙ sym e ∙ so_far

pub ends : (f : ElfFault) (order : Order) (file : List ℕ) (at count i : ℕ) (segments : List Segment) (total : Result (List Segment) ElfFault) → i < count
    → Fails is_no_memory f (loaded file at (program_header_at order (drop at file)) segments)
    → loaded_from order file at (count - i) segments ≡ total → Fails is_no_memory f total
ends f order file at count i segments total lt fails so_far =
    passed_on f (loaded file at (program_header_at order (drop at file)) segments) total fails
    (λ step. let e = one_more order file at count i segments lt in
    let g : (loaded file at (program_header_at order (drop at file)) segments >>= λ more. loaded_from order file (at + 32) (count - (i + 1)) more) ≡ Err f = rw step refl in
    sym so_far ∙ e ∙ g)

pub is_done : (order : Order) (file : List ℕ) (at count i : ℕ) (segments : List Segment) (total : Result (List Segment) ElfFault) → count ≤ i
    → loaded_from order file at (count - i) segments ≡ total → total ≡ Ok segments
unfolding loaded_from
is_done order file at count i segments total le so_far =
    let k : count - i ≡ 0 = omega arith in
    let g : loaded_from order file at (count - i) segments ≡ Ok segments = rw k refl in
    sym so_far ∙ g
