-- What was written into a field is read from it again.
use Rattle.std.proofs.Common.{◌≡◌, ℕ, ◌%◌, ◌^◌, ◌<◌, List, [], ◌∷◌, ◌++◌, length, drop, ap, ◌∙◌, arith}
use Rattle.byteorder.specs.Endian.{big_number, little_number}
use Rattle.byteorder.specs.Numbers.{big_number-reads_back, little_number-reads_back}
use Rattle.brd_word.specs.declared.order.Order.{Order}
use Rattle.brd_word.specs.declared.order.Order.TheVariants.{Big, Little}
use Rattle.brd_mem.specs.declared.image.Segment.{Segment}
use Rattle.brd_elf.specs.declared.segments.ProgramHeader.{ProgramHeader}
use Rattle.brd_elf.specs.declared.sections.Section.{Section}
use Rattle.brd_elf.specs.declared.symbols.Entry.{Entry}
use Rattle.brd_elf.specs.Fields.{half_at, word_at, half, word}
use Rattle.brd_elf.specs.Segments.{program_header_at}
use Rattle.brd_elf.specs.Symbols.{section_at, entry_at}
use Rattle.brd_elf.specs.File.{words, program_header, symbol_entry}

small_word : (n : ℕ) → n < 2 ^ 32 → n % 2 ^ 32 ≡ n
small_word n lt = omega arith

small_half : (n : ℕ) → n < 2 ^ 16 → n % 2 ^ 16 ≡ n
small_half n lt = omega arith

pub word_again : (order : Order) (bytes : List ℕ) (at n : ℕ) (rest : List ℕ) → n < 2 ^ 32 → drop at bytes ≡ word order n ++ rest → word_at order bytes at ≡ n
unfolding word_at word
word_again Big bytes at n rest lt e =
    let small = small_word n lt in
    ap (λ (list : List ℕ). big_number 4 list) e ∙ big_number-reads_back 4 (n % 2 ^ 32) rest (omega arith) ∙ small
word_again Little bytes at n rest lt e =
    let small = small_word n lt in
    ap (λ (list : List ℕ). little_number 4 list) e ∙ little_number-reads_back 4 (n % 2 ^ 32) rest (omega arith) ∙ small

pub half_again : (order : Order) (bytes : List ℕ) (at n : ℕ) (rest : List ℕ) → n < 2 ^ 16 → drop at bytes ≡ half order n ++ rest → half_at order bytes at ≡ n
unfolding half_at half
half_again Big bytes at n rest lt e =
    let small = small_half n lt in
    ap (λ (list : List ℕ). big_number 2 list) e ∙ big_number-reads_back 2 (n % 2 ^ 16) rest (omega arith) ∙ small
half_again Little bytes at n rest lt e =
    let small = small_half n lt in
    ap (λ (list : List ℕ). little_number 2 list) e ∙ little_number-reads_back 2 (n % 2 ^ 16) rest (omega arith) ∙ small

-- the program header of a segment
abbrev pub header_for : ℕ → Segment → ProgramHeader
header_for offset segment = record { kind = 1; offset = offset; address = segment.address; file_size = length segment.bytes; memory_size = length segment.bytes }

abbrev made_program : ℕ → ℕ → ℕ → ℕ → ℕ → ProgramHeader
made_program k o a f m = record { kind = k; offset = o; address = a; file_size = f; memory_size = m }

same_program : (k o a f m k' o' a' f' m' : ℕ) → k ≡ k' → o ≡ o' → a ≡ a' → f ≡ f' → m ≡ m' → made_program k o a f m ≡ made_program k' o' a' f' m'
same_program k o a f m k' o' a' f' m' p q r s t = cc

pub program_again : (order : Order) (bytes : List ℕ) (offset : ℕ) (segment : Segment) (rest : List ℕ) → bytes ≡ program_header order offset segment ++ rest
    → offset < 2 ^ 32 → segment.address < 2 ^ 32 → length segment.bytes < 2 ^ 32 → program_header_at order bytes ≡ header_for offset segment
unfolding word
program_again Big bytes offset segment rest e offset_fits address_fits length_fits =
    same_program (word_at Big bytes 0) (word_at Big bytes 4) (word_at Big bytes 8) (word_at Big bytes 16) (word_at Big bytes 20) 1 offset segment.address (length segment.bytes) (length segment.bytes)
    (word_again Big bytes 0 1 _ (omega arith) (ap (λ (list : List ℕ). drop 0 list) e))
    (word_again Big bytes 4 offset _ offset_fits (ap (λ (list : List ℕ). drop 4 list) e))
    (word_again Big bytes 8 segment.address _ address_fits (ap (λ (list : List ℕ). drop 8 list) e))
    (word_again Big bytes 16 (length segment.bytes) _ length_fits (ap (λ (list : List ℕ). drop 16 list) e))
    (word_again Big bytes 20 (length segment.bytes) _ length_fits (ap (λ (list : List ℕ). drop 20 list) e))
program_again Little bytes offset segment rest e offset_fits address_fits length_fits =
    same_program (word_at Little bytes 0) (word_at Little bytes 4) (word_at Little bytes 8) (word_at Little bytes 16) (word_at Little bytes 20) 1 offset segment.address (length segment.bytes) (length segment.bytes)
    (word_again Little bytes 0 1 _ (omega arith) (ap (λ (list : List ℕ). drop 0 list) e))
    (word_again Little bytes 4 offset _ offset_fits (ap (λ (list : List ℕ). drop 4 list) e))
    (word_again Little bytes 8 segment.address _ address_fits (ap (λ (list : List ℕ). drop 8 list) e))
    (word_again Little bytes 16 (length segment.bytes) _ length_fits (ap (λ (list : List ℕ). drop 16 list) e))
    (word_again Little bytes 20 (length segment.bytes) _ length_fits (ap (λ (list : List ℕ). drop 20 list) e))

abbrev made_section : ℕ → ℕ → ℕ → ℕ → ℕ → Section
made_section k o s l e = record { kind = k; offset = o; size = s; link = l; entry_size = e }

same_section : (k o s l e k' o' s' l' e' : ℕ) → k ≡ k' → o ≡ o' → s ≡ s' → l ≡ l' → e ≡ e' → made_section k o s l e ≡ made_section k' o' s' l' e'
same_section k o s l e k' o' s' l' e' p q r t u = cc

pub section_again : (order : Order) (bytes : List ℕ) (name kind offset size link info align entry_size : ℕ) (rest : List ℕ)
    → bytes ≡ words order (name ∷ kind ∷ 0 ∷ 0 ∷ offset ∷ size ∷ link ∷ info ∷ align ∷ entry_size ∷ []) ++ rest
    → kind < 2 ^ 32 → offset < 2 ^ 32 → size < 2 ^ 32 → link < 2 ^ 32 → entry_size < 2 ^ 32
    → section_at order bytes ≡ record { kind = kind; offset = offset; size = size; link = link; entry_size = entry_size }
unfolding word
section_again Big bytes name kind offset size link info align entry_size rest e kind_fits offset_fits size_fits link_fits entry_fits =
    same_section (word_at Big bytes 4) (word_at Big bytes 16) (word_at Big bytes 20) (word_at Big bytes 24) (word_at Big bytes 36) kind offset size link entry_size
    (word_again Big bytes 4 kind _ kind_fits (ap (λ (list : List ℕ). drop 4 list) e))
    (word_again Big bytes 16 offset _ offset_fits (ap (λ (list : List ℕ). drop 16 list) e))
    (word_again Big bytes 20 size _ size_fits (ap (λ (list : List ℕ). drop 20 list) e))
    (word_again Big bytes 24 link _ link_fits (ap (λ (list : List ℕ). drop 24 list) e))
    (word_again Big bytes 36 entry_size _ entry_fits (ap (λ (list : List ℕ). drop 36 list) e))
section_again Little bytes name kind offset size link info align entry_size rest e kind_fits offset_fits size_fits link_fits entry_fits =
    same_section (word_at Little bytes 4) (word_at Little bytes 16) (word_at Little bytes 20) (word_at Little bytes 24) (word_at Little bytes 36) kind offset size link entry_size
    (word_again Little bytes 4 kind _ kind_fits (ap (λ (list : List ℕ). drop 4 list) e))
    (word_again Little bytes 16 offset _ offset_fits (ap (λ (list : List ℕ). drop 16 list) e))
    (word_again Little bytes 20 size _ size_fits (ap (λ (list : List ℕ). drop 20 list) e))
    (word_again Little bytes 24 link _ link_fits (ap (λ (list : List ℕ). drop 24 list) e))
    (word_again Little bytes 36 entry_size _ entry_fits (ap (λ (list : List ℕ). drop 36 list) e))

abbrev made_entry : ℕ → ℕ → ℕ → Entry
made_entry n v s = record { name = n; value = v; section = s }

same_entry : (n v s n' v' s' : ℕ) → n ≡ n' → v ≡ v' → s ≡ s' → made_entry n v s ≡ made_entry n' v' s'
same_entry n v s n' v' s' p q r = cc

pub entry_again : (order : Order) (bytes : List ℕ) (name value : ℕ) (rest : List ℕ) → bytes ≡ symbol_entry order name value ++ rest → name < 2 ^ 32 → value < 2 ^ 32
    → entry_at order bytes ≡ record { name = name; value = value; section = 0xFFF1 }
unfolding word half
entry_again Big bytes name value rest e name_fits value_fits =
    same_entry (word_at Big bytes 0) (word_at Big bytes 4) (half_at Big bytes 14) name value 0xFFF1
    (word_again Big bytes 0 name _ name_fits (ap (λ (list : List ℕ). drop 0 list) e))
    (word_again Big bytes 4 value _ value_fits (ap (λ (list : List ℕ). drop 4 list) e))
    (half_again Big bytes 14 0xFFF1 _ (omega arith) (ap (λ (list : List ℕ). drop 14 list) e))
entry_again Little bytes name value rest e name_fits value_fits =
    same_entry (word_at Little bytes 0) (word_at Little bytes 4) (half_at Little bytes 14) name value 0xFFF1
    (word_again Little bytes 0 name _ name_fits (ap (λ (list : List ℕ). drop 0 list) e))
    (word_again Little bytes 4 value _ value_fits (ap (λ (list : List ℕ). drop 4 list) e))
    (half_again Little bytes 14 0xFFF1 _ (omega arith) (ap (λ (list : List ℕ). drop 14 list) e))
