-- How long a file is, by its parts.
use Rattle.std.proofs.Common.{◌≡◌, ℕ, ◌+◌, ◌*◌, min, List, ◌++◌, length, replicate, ap, length-append, inl, inr, arith}
use Rattle.std.proofs.lemmas.Bool.{cases_lt}
use Rattle.std.proofs.lemmas.List.{length-replicate}
use Rattle.brd_mem.specs.declared.image.Image.{Image}
use Rattle.brd_elf.specs.File.{padding, padded, data_of, strings, section_names, file}
use Rattle.brd_elf.proofs.SymbolsAgain.{length-symbol_entries_from}
use Rattle.brd_elf.proofs.FileAgain.{length-file}

length-padded : (bytes : List ℕ) → length (padded bytes) ≡ length bytes + padding (length bytes)
length-padded bytes = omega (arith, length-append bytes (replicate (padding (length bytes)) 0), length-replicate {A = ℕ} (padding (length bytes)) 0)

-- how many bytes a file has: the header, the program headers, the segments' bytes, the symbol table, the strings with
-- the sections' names and a gap, and the section headers
abbrev sum_of : ℕ → ℕ → ℕ → ℕ → ℕ
sum_of segments bytes symbols texts = 52 + 32 * segments + bytes + (16 + 16 * symbols) + (texts + 27) + padding (texts + 27) + 160

length-file_by_parts : (image : Image) → length (file image) ≡ sum_of (length image.segments) (length (data_of image.segments)) (length image.symbols) (length (strings image.symbols))
length-file_by_parts image =
    let texts_len : length (strings image.symbols ++ section_names) ≡ length (strings image.symbols) + 27 = length-append (strings image.symbols) section_names in
    let all = length-padded (strings image.symbols ++ section_names) in
    let gap : padding (length (strings image.symbols ++ section_names)) ≡ padding (length (strings image.symbols) + 27) = ap (λ (n : ℕ). padding n) texts_len in
    omega (arith, length-file image, length-symbol_entries_from image.order 1 image.symbols, texts_len, all, gap)

-- The length of a file, by the lengths of its segments' bytes and of its strings, each cut off at a limit.
pub file_is : (image : Image) (limit bytes texts : ℕ) → bytes ≡ min (length (data_of image.segments)) limit → texts ≡ min (length (strings image.symbols)) limit
    → min limit (sum_of (length image.segments) bytes (length image.symbols) texts) ≡ min (length (file image)) limit
file_is image limit bytes texts bytes_is texts_is =
    elim (cases_lt (length (strings image.symbols)) limit) [
      | inl short ↦
          let same : texts ≡ length (strings image.symbols) = omega (arith, texts_is, short) in
          rw same (omega (arith, bytes_is, length-file_by_parts image))
      | inr long ↦ omega (arith, texts_is, long, length-file_by_parts image)
    ]
