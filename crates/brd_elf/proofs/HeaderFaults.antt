-- A program header without a fault.
use Rattle.std.proofs.Common.{◌≡◌, ℕ, ◌+◌, Bool, true, false, cond, List, Option, Some, None, refl}
use Rattle.brd_mem.specs.declared.image.Segment.{Segment}
use Rattle.brd_elf.specs.declared.fault.ElfFault.{ElfFault}
use Rattle.brd_elf.specs.declared.segments.ProgramHeader.{ProgramHeader}
use Rattle.brd_elf.specs.Segments.{has_bad_sizes, is_cut, is_outside, lies_in, load_fault}

pub record IsRight (file : List ℕ) (header : ProgramHeader) (segments : List Segment) : Type 0 where
  pub sizes : has_bad_sizes header ≡ false
  pub whole : is_cut file header ≡ false
  pub inside : is_outside header ≡ false
  pub apart : lies_in segments header.address (header.address + header.memory_size) ≡ false

passed : (b : Bool) (f : ElfFault) (others : Option ElfFault) → cond b (Some f) others ≡ None → (b ≡ false) × (others ≡ None)
passed true f others e = absurd cc
passed false f others e = (refl, e)

pub without_fault : (file : List ℕ) (at : ℕ) (header : ProgramHeader) (segments : List Segment) → load_fault file at header segments ≡ None → IsRight file header segments
unfolding load_fault
without_fault file at header segments e =
    let sizes = passed (has_bad_sizes header) _ _ e in
    let whole = passed (is_cut file header) _ _ sizes.1 in
    let inside = passed (is_outside header) _ _ whole.1 in
    let apart = passed (lies_in segments header.address (header.address + header.memory_size)) _ _ inside.1 in
    record { sizes = sizes.0; whole = whole.0; inside = inside.0; apart = apart.0 }
