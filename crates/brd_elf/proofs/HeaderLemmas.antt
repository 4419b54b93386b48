-- The header that was written is read again.
use Rattle.std.proofs.Common.{◌≡◌, ℕ, ◌^◌, ◌<◌, ◌≤◌, true, false, not, cond, eqb, ltb, List, ◌++◌, length, drop, slice_index, Result, Ok, refl, ap, ◌∙◌, arith}
use Rattle.std.specs.Prelude.{nat_eq, ◌&&◌}
use Rattle.std.specs.List.{starts_with}
use Rattle.std.proofs.lemmas.Bool.{le-ltb, ne_eqb}
use Rattle.brd_word.specs.declared.order.Order.{Order}
use Rattle.brd_word.specs.declared.order.Order.TheVariants.{Big, Little}
use Rattle.brd_elf.specs.declared.fault.ElfFault.{ElfFault}
use Rattle.brd_elf.specs.declared.header.Header.{Header}
use Rattle.brd_elf.specs.Fields.{half_at, word_at, half, word}
use Rattle.brd_elf.specs.Header.{magic, header_at, header_of, order_of, unsupported_at}
use Rattle.brd_elf.specs.File.{header_bytes}
use Rattle.brd_elf.proofs.FieldLemmas.{word_again, half_again}

-- the header of a file of ours, as it is read
abbrev pub own_header : Order → ℕ → ℕ → ℕ → ℕ → Header
own_header order entry programs sections count = record {
  order = order;
  entry = entry;
  programs = record { offset = programs; entry_size = 32; count = count };
  sections = record { offset = sections; entry_size = 40; count = 4 };
}

-- a header is supported by its fields
by_fields : (order : Order) (file : List ℕ) → starts_with nat_eq file magic ≡ true → ltb (length file) 52 ≡ false
    → order_of file ≡ order → eqb (slice_index file 4) 1 ≡ true → (not (eqb (slice_index file 5) 1) && not (eqb (slice_index file 5) 2)) ≡ false → eqb (slice_index file 6) 1 ≡ true
    → eqb (half_at order file 16) 2 ≡ true → eqb (half_at order file 18) 8 ≡ true → eqb (word_at order file 20) 1 ≡ true → eqb (half_at order file 44) 0xFFFF ≡ false
    → header_of file ≡ Ok (header_at order file)
unfolding header_of unsupported_at
by_fields order file begins long order_is class encoding version kind machine file_version count =
    rw (begins, long, order_is, class, encoding, version, kind, machine, file_version, count) refl

pub length-header_bytes : (order : Order) (entry programs sections count : ℕ) → length (header_bytes order entry programs sections count) ≡ 52
unfolding word half
length-header_bytes Big entry programs sections count = refl
length-header_bytes Little entry programs sections count = refl

pub header_again : (order : Order) (file : List ℕ) (entry programs sections count : ℕ) (rest : List ℕ) → file ≡ header_bytes order entry programs sections count ++ rest → 52 ≤ length file
    → entry < 2 ^ 32 → programs < 2 ^ 32 → sections < 2 ^ 32 → count ≤ 65534 → header_of file ≡ Ok (own_header order entry programs sections count)
unfolding word half order_of
header_again Big file entry programs sections count rest e long entry_fits programs_fits sections_fits few =
    by_fields Big file
    (ap (λ (list : List ℕ). starts_with nat_eq list magic) e)
    (le-ltb (length file) 52 long)
    (ap (λ (list : List ℕ). cond (eqb (slice_index list 5) 1) Little Big) e)
    (ap (λ (list : List ℕ). eqb (slice_index list 4) 1) e)
    (ap (λ (list : List ℕ). not (eqb (slice_index list 5) 1) && not (eqb (slice_index list 5) 2)) e)
    (ap (λ (list : List ℕ). eqb (slice_index list 6) 1) e)
    (ap (λ (n : ℕ). eqb n 2) (half_again Big file 16 2 _ (omega arith) (at_place 16)))
    (ap (λ (n : ℕ). eqb n 8) (half_again Big file 18 8 _ (omega arith) (at_place 18)))
    (ap (λ (n : ℕ). eqb n 1) (word_again Big file 20 1 _ (omega arith) (at_place 20)))
    (ne_eqb (half_at Big file 44) 0xFFFF (λ same. omega (arith, same, count_is)))
    ∙ ap (λ (header : Header). made header) (same _ _ _ _ _ _ _ _ _ _ _ _ _ _
    (word_again Big file 24 entry _ entry_fits (at_place 24))
    (word_again Big file 28 programs _ programs_fits (at_place 28)) (half_again Big file 42 32 _ (omega arith) (at_place 42)) count_is
    (word_again Big file 32 sections _ sections_fits (at_place 32)) (half_again Big file 46 40 _ (omega arith) (at_place 46)) (half_again Big file 48 4 _ (omega arith) (at_place 48)))
  where
    made : Header → Result Header ElfFault
    made header = Ok header

    at_place : (n : ℕ) → drop n file ≡ drop n (header_bytes Big entry programs sections count ++ rest)
    at_place n = ap (λ (list : List ℕ). drop n list) e

    count_is : half_at Big file 44 ≡ count
    count_is = half_again Big file 44 count _ (omega arith) (at_place 44)

    header : ℕ → ℕ → ℕ → ℕ → ℕ → ℕ → ℕ → Header
    header e p ps pc s ss sc = record { order = Big; entry = e; programs = record { offset = p; entry_size = ps; count = pc }; sections = record { offset = s; entry_size = ss; count = sc } }

    same : (e p ps pc s ss sc e' p' ps' pc' s' ss' sc' : ℕ) → e ≡ e' → p ≡ p' → ps ≡ ps' → pc ≡ pc' → s ≡ s' → ss ≡ ss' → sc ≡ sc' → header e p ps pc s ss sc ≡ header e' p' ps' pc' s' ss' sc'
    same e p ps pc s ss sc e' p' ps' pc' s' ss' sc' q1 q2 q3 q4 q5 q6 q7 = cc
header_again Little file entry programs sections count rest e long entry_fits programs_fits sections_fits few =
    by_fields Little file
    (ap (λ (list : List ℕ). starts_with nat_eq list magic) e)
    (le-ltb (length file) 52 long)
    (ap (λ (list : List ℕ). cond (eqb (slice_index list 5) 1) Little Big) e)
    (ap (λ (list : List ℕ). eqb (slice_index list 4) 1) e)
    (ap (λ (list : List ℕ). not (eqb (slice_index list 5) 1) && not (eqb (slice_index list 5) 2)) e)
    (ap (λ (list : List ℕ). eqb (slice_index list 6) 1) e)
    (ap (λ (n : ℕ). eqb n 2) (half_again Little file 16 2 _ (omega arith) (at_place 16)))
    (ap (λ (n : ℕ). eqb n 8) (half_again Little file 18 8 _ (omega arith) (at_place 18)))
    (ap (λ (n : ℕ). eqb n 1) (word_again Little file 20 1 _ (omega arith) (at_place 20)))
    (ne_eqb (half_at Little file 44) 0xFFFF (λ same. omega (arith, same, count_is)))
    ∙ ap (λ (header : Header). made header) (same _ _ _ _ _ _ _ _ _ _ _ _ _ _
    (word_again Little file 24 entry _ entry_fits (at_place 24))
    (word_again Little file 28 programs _ programs_fits (at_place 28)) (half_again Little file 42 32 _ (omega arith) (at_place 42)) count_is
    (word_again Little file 32 sections _ sections_fits (at_place 32)) (half_again Little file 46 40 _ (omega arith) (at_place 46)) (half_again Little file 48 4 _ (omega arith) (at_place 48)))
  where
    made : Header → Result Header ElfFault
    made header = Ok header

    at_place : (n : ℕ) → drop n file ≡ drop n (header_bytes Little entry programs sections count ++ rest)
    at_place n = ap (λ (list : List ℕ). drop n list) e

    count_is : half_at Little file 44 ≡ count
    count_is = half_again Little file 44 count _ (omega arith) (at_place 44)

    header : ℕ → ℕ → ℕ → ℕ → ℕ → ℕ → ℕ → Header
    header e p ps pc s ss sc = record { order = Little; entry = e; programs = record { offset = p; entry_size = ps; count = pc }; sections = record { offset = s; entry_size = ss; count = sc } }

    same : (e p ps pc s ss sc e' p' ps' pc' s' ss' sc' : ℕ) → e ≡ e' → p ≡ p' → ps ≡ ps' → pc ≡ pc' → s ≡ s' → ss ≡ ss' → sc ≡ sc' → header e p ps pc s ss sc ≡ header e' p' ps' pc' s' ss' sc'
    same e p ps pc s ss sc e' p' ps' pc' s' ss' sc' q1 q2 q3 q4 q5 q6 q7 = cc
