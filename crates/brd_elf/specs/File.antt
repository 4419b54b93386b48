-- The file of an image, its numbers in the image's byte order: header, program headers, segments, symbol table,
-- strings, section names, section headers.
use Rattle.std.specs.Prelude.{ℕ, ◌+◌, ◌-◌, ◌*◌, ◌%◌, ◌^◌, ◌<◌, ◌≤◌, List, [], ◌∷◌, ◌++◌, length, replicate, flat_map}
use Rattle.std.specs.Prelude.{codes}
use Rattle.std.specs.List.{AllByRecursion}
use Rattle.brd_word.specs.declared.order.Order.{Order}
use Rattle.brd_word.specs.declared.order.Order.TheVariants.{Big, Little}
use Rattle.brd_mem.specs.declared.image.Image.{Image}
use Rattle.brd_mem.specs.declared.image.Segment.{Segment}
use Rattle.brd_mem.specs.declared.image.Symbol.{Symbol}
use Rattle.brd_elf.specs.Fields.{half, word}
use Rattle.brd_elf.specs.Header.{magic}

-- fields of two bytes, and of four
abbrev pub halves : Order → List ℕ → List ℕ
halves order numbers = flat_map (half order) numbers

abbrev pub words : Order → List ℕ → List ℕ
words order numbers = flat_map (word order) numbers

-- how many bytes it is from a place to the next multiple of 4
abbrev pub padding : ℕ → ℕ
padding place = (4 - place % 4) % 4

-- bytes, and zero up to the next multiple of 4
abbrev pub padded : List ℕ → List ℕ
padded bytes = bytes ++ replicate (padding (length bytes)) 0

-- The program header of a segment whose bytes lie at an offset: type PT_LOAD, offset, vaddr, paddr, filesz, memsz,
-- flags (readable, writable, executable), align.
abbrev pub program_header : Order → ℕ → Segment → List ℕ
program_header order offset segment =
    words order
    (1 ∷ offset ∷ segment.address ∷ segment.address ∷ length segment.bytes ∷ length segment.bytes ∷ 7 ∷ 1 ∷ [])

-- the program headers of segments whose bytes lie from an offset on, each from a multiple of 4
unfoldable pub program_headers_from : Order → ℕ → List Segment → List ℕ
program_headers_from order offset [] = []
program_headers_from order offset (segment ∷ segments) =
    program_header order offset segment ++ program_headers_from order (offset + length (padded segment.bytes)) segments

-- the segments' bytes
abbrev pub data_of : List Segment → List ℕ
data_of segments = flat_map (λ segment. padded segment.bytes) segments

-- a symbol: name, value, size, info (global, without type), other, and section SHN_ABS
abbrev pub symbol_entry : Order → ℕ → ℕ → List ℕ
symbol_entry order name value = words order (name ∷ value ∷ 0 ∷ []) ++ 0x10 ∷ 0 ∷ half order 0xFFF1

-- the symbols whose names lie in the strings from a place on, each after a byte 0
unfoldable pub symbol_entries_from : Order → ℕ → List Symbol → List ℕ
symbol_entries_from order name [] = []
symbol_entries_from order name (symbol ∷ symbols) =
    symbol_entry order name symbol.value ++ symbol_entries_from order (name + length symbol.name + 1) symbols

-- a symbol of zeros, then the symbols
abbrev pub symbol_table : Order → List Symbol → List ℕ
symbol_table order symbols = replicate 16 0 ++ symbol_entries_from order 1 symbols

-- a byte 0, then each name with a byte 0
abbrev pub strings : List Symbol → List ℕ
strings symbols = 0 ∷ flat_map (λ symbol. symbol.name ++ 0 ∷ []) symbols

-- the sections' names, at 1, 9 and 17
abbrev pub section_names : List ℕ
section_names = 0 ∷ codes ".symtab" ++ 0 ∷ codes ".strtab" ++ 0 ∷ codes ".shstrtab" ++ 0 ∷ []

-- where the parts of a file lie
abbrev pub data_at : Image → ℕ
data_at image = 52 + 32 * length image.segments

abbrev pub symbols_at : Image → ℕ
symbols_at image = data_at image + length (data_of image.segments)

abbrev pub strings_at : Image → ℕ
strings_at image = symbols_at image + length (symbol_table image.order image.symbols)

abbrev pub names_at : Image → ℕ
names_at image = strings_at image + length (strings image.symbols)

abbrev pub sections_at : Image → ℕ
sections_at image = strings_at image + length (padded (strings image.symbols ++ section_names))

-- The null section, .symtab (SHT_SYMTAB, linked to section 2), .strtab and .shstrtab (SHT_STRTAB), each with name,
-- type, flags, addr, offset, size, link, info, addralign, entsize.
abbrev pub section_headers : Order → ℕ → ℕ → ℕ → ℕ → ℕ → List ℕ
section_headers order symbols_at symbols_size strings_at strings_size names_at =
    replicate 40 0
    ++ words order (1 ∷ 2 ∷ 0 ∷ 0 ∷ symbols_at ∷ symbols_size ∷ 2 ∷ 1 ∷ 4 ∷ 16 ∷ [])
    ++ words order (9 ∷ 3 ∷ 0 ∷ 0 ∷ strings_at ∷ strings_size ∷ 0 ∷ 0 ∷ 1 ∷ 0 ∷ [])
    ++ words order (17 ∷ 3 ∷ 0 ∷ 0 ∷ names_at ∷ length section_names ∷ 0 ∷ 0 ∷ 1 ∷ 0 ∷ [])

-- where the program headers lie, or 0 where there are none
abbrev pub programs_at : List Segment → ℕ
programs_at [] = 0
programs_at (segment ∷ segments) = 52

-- EI_DATA: ELFDATA2MSB or ELFDATA2LSB
abbrev pub data_encoding : Order → ℕ
data_encoding Big = 2
data_encoding Little = 1

-- e_ident: magic, ELFCLASS32, EI_DATA, version 1, nine zeros
abbrev pub ident : Order → List ℕ
ident order = magic ++ 1 ∷ data_encoding order ∷ 1 ∷ replicate 9 0

-- e_ident, ET_EXEC, EM_MIPS, version 1, entry, phoff, shoff, flags, ehsize, phentsize, phnum, shentsize, shnum,
-- shstrndx
abbrev pub header_bytes : Order → ℕ → ℕ → ℕ → ℕ → List ℕ
header_bytes order entry programs_at sections_at count =
    ident order
    ++ halves order (2 ∷ 8 ∷ []) ++ words order (1 ∷ entry ∷ programs_at ∷ sections_at ∷ 0 ∷ [])
    ++ halves order (52 ∷ 32 ∷ count ∷ 40 ∷ 4 ∷ 3 ∷ [])

-- what lies between the header and the section headers
abbrev pub body_of : Image → List ℕ
body_of image =
    program_headers_from image.order (data_at image) image.segments
    ++ data_of image.segments
    ++ symbol_table image.order image.symbols
    ++ padded (strings image.symbols ++ section_names)

-- the file
unfoldable pub file : Image → List ℕ
file image =
    header_bytes image.order image.entry (programs_at image.segments) (sections_at image) (length image.segments)
    ++ body_of image
    ++ section_headers image.order (symbols_at image) (length (symbol_table image.order image.symbols))
    (strings_at image) (length (strings image.symbols)) (names_at image)

-- an image that a file can hold: a count of 65,535 is the mark of extended numbering, and offsets are words
pub record Fits (image : Image) : Type 0 where
  pub segments : length image.segments ≤ 65534
  pub short : length (file image) < 2 ^ 32

-- the numbers of an image are words, as their type `u32` says
pub record HasWords (image : Image) : Type 0 where
  pub entry : image.entry < 2 ^ 32
  pub values : AllByRecursion (λ symbol. symbol.value < 2 ^ 32) image.symbols
